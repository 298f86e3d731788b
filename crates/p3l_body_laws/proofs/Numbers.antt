-- The numbers of a text are those of its tokens, and no token has a larger number than int64_t.
use Rattle.std.proofs.Common.{◌≡◌, ℕ, ◌++◌, Bool, true, false, List, [], ◌∷◌, Option, Some, None, sym, subst}
use Rattle.std.specs.Prelude.{FitsSigned}
use Rattle.std.specs.List.{AllByRecursion}
use Rattle.std.specs.Int.{w64}
use Rattle.p3l_ast.specs.declared.position.Pos.{Pos}
use Rattle.p3l_ast.specs.declared.position.Spot.{Spot}
use Rattle.p3l_ast.specs.declared.port.Num.{Num}
use Rattle.p3l_ast.specs.declared.port.Port.{Port}
use Rattle.p3l_ast.specs.declared.call.Sub.{Sub}
use Rattle.p3l_ast.specs.declared.call.Sub.TheVariants.{Whole, Free}
use Rattle.p3l_ast.specs.declared.call.Arg.{Arg}
use Rattle.p3l_ast.specs.declared.call.OutArg.{OutArg}
use Rattle.p3l_ast.specs.declared.call.OutArg.TheVariants.{Fresh, Old}
use Rattle.p3l_ast.specs.declared.call.Call.{Call}
use Rattle.p3l_ast.specs.declared.module.Kind.{Kind}
use Rattle.p3l_ast.specs.declared.module.Kind.TheVariants as kinds
use Rattle.p3l_ast.specs.declared.module.Rescue.{Rescue}
use Rattle.p3l_lexer.specs.declared.mark.Mark.{Mark}
use Rattle.p3l_lexer.specs.declared.mark.Mark.TheVariants as marks
use Rattle.p3l_lexer.specs.declared.token.Lexeme.{Lexeme}
use Rattle.p3l_lexer.specs.declared.token.Lexeme.TheVariants as lexemes
use Rattle.p3l_lexer.specs.declared.token.Piece.{Piece}
use Rattle.p3l_lexer.specs.declared.token.Piece.TheVariants as pieces
use Rattle.p3l_lexer.specs.declared.token.TextToken.{TextToken}
use Rattle.p3l_lexer.specs.Piece.{piece_of}
use Rattle.p3l_lexer.specs.Position.{position_after}
use Rattle.p3l_lexer.specs.Token.{Chunk, IsCutInto, token_at, tokens_after, IsTokens}
use Rattle.p3l_lexer.proofs.Writing.{digits_are}
use Rattle.p3l_grammar.specs.Symbol.{Symbol, word, digits, sign, faulty, symbol_at, symbols}
use Rattle.p3l_grammar.specs.Written.{Formula, numeral, place, prefix, infix_, paren, Formulas, no_index, index, Script, stop, set, if_, if_else, while_, for_, Signature, Passage, fixed, bodied, chained, spread, turned, each, after_comma, separated, num_symbol, spell_size, spell_port, spell_sub, spell_arg, spell_out, spell_call, spell, spell_index, spell_set, spell_script, spell_signature, spell_clause, spell_signed, spell_rescue_clause, spell_local, spell_end, spell_passage, spell_text, tree, trees, script_tree, passage_tree, text_tree}
use Rattle.p3l_c.specs.Checked.{NumbersFit, IndicesFit, CodeFits}
use Rattle.p3l_body_laws.specs.Numbers.{EntryFits, NumbersAreSmall}

-- int64_t has the number of a symbol, if it has one
abbrev SymbolFits : Symbol → Type 0
SymbolFits (word x) = Unit {0}
SymbolFits (digits v p) = FitsSigned w64 v
SymbolFits (sign m) = Unit {0}
SymbolFits faulty = Unit {0}

abbrev AllFit : List Symbol → Type 0
AllFit symbols = AllByRecursion SymbolFits symbols

-- the symbols of a text
symbol_fits : (text : List ℕ) (lexeme : Lexeme) (at : Pos) → piece_of text ≡ Some (pieces.Token lexeme) → SymbolFits (symbol_at lexeme at)
symbol_fits text (lexemes.Word name) at h = tt
symbol_fits text (lexemes.Digits v) at h = let d = digits_are text v h in subst (FitsSigned w64) (sym d.1) (record { sfits = d.2 })
symbol_fits text (lexemes.Sign m) at h = tt
symbol_fits text (lexemes.Faulty f) at h = tt

chunks_fit : (bytes before : List ℕ) (chunks : List Chunk) → IsCutInto bytes chunks → AllFit (symbols (tokens_after before chunks))
chunks_fit bytes before [] h = tt
chunks_fit bytes before (chunk ∷ chunks) h = by chunk.piece h.2.is_piece (chunks_fit h.0 (before ++ chunk.text) chunks h.3)
  where
    by : (piece : Piece) → piece_of chunk.text ≡ Some piece → AllFit (symbols (tokens_after (before ++ chunk.text) chunks))
        → AllFit (symbols (token_at (position_after before) piece ++ tokens_after (before ++ chunk.text) chunks))
    by pieces.Gap p k = k
    by (pieces.Token lexeme) p k = (symbol_fits chunk.text lexeme (position_after before) p, k)

tokens_fit : (bytes : List ℕ) (tokens : List TextToken) → IsTokens bytes tokens → AllFit (symbols tokens)
tokens_fit bytes tokens h = subst (λ t. AllFit (symbols t)) (sym h.tokens_are) (chunks_fit bytes [] h.chunks h.cut)

-- the symbols behind those of a part
abbrev Passes : (List Symbol → List Symbol) → Type 0
Passes f = (r : List Symbol) → AllFit (f r) → AllFit r

each_passes : {A : Type 0} (f : A → List Symbol → List Symbol) → ((x : A) → Passes (f x)) → (xs : List A) → Passes (each f xs)
each_passes f k [] r h = h
each_passes f k (x ∷ xs) r h = each_passes f k xs r (k x (each f xs r) h)

separated_passes : {A : Type 0} (f : A → List Symbol → List Symbol) → ((x : A) → Passes (f x)) → (xs : List A) → Passes (separated f xs)
separated_passes f k [] r h = h
separated_passes f k (x ∷ xs) r h = each_passes (after_comma f) (λ y s g. k y s g.1) xs r (k x (each (after_comma f) xs r) h)

port_passes : (p : Port) → Passes (spell_port p)
port_passes p r h = each_passes spell_size (λ n s g. g.1.1.1) p.sizes r h.1.1

sub_passes : (s : Sub) → Passes (spell_sub s)
sub_passes Whole r h = h.1.1
sub_passes (Free x) r h = h.1.1.1.1

arg_passes : (a : Arg) → Passes (spell_arg a)
arg_passes a r h = each_passes spell_sub sub_passes a.subs r h.1

out_passes : (a : OutArg) → Passes (spell_out a)
out_passes (Fresh p) r h = port_passes p r h
out_passes (Old a) r h = arg_passes a r h

call_passes : (c : Call) → Passes (spell_call c)
call_passes c r h =
    let outs = sign marks.CloseParen ∷ r in
    let ins = sign marks.CloseParen ∷ sign marks.Out ∷ sign marks.OpenParen ∷ separated spell_out c.outs outs in
    let k = separated_passes spell_arg arg_passes c.ins ins h.1.1.1 in
    let l = separated_passes spell_out out_passes c.outs outs k.1.1.1 in
    l.1

signature_passes : (g : Signature) → Passes (spell_signature g)
signature_passes g r h =
    let outs = sign marks.CloseParen ∷ r in
    let ins = sign marks.CloseParen ∷ sign marks.Out ∷ sign marks.OpenParen ∷ separated spell_port g.outs outs in
    let k = separated_passes spell_port port_passes g.ins ins h.1.1.1 in
    let l = separated_passes spell_port port_passes g.outs outs k.1.1.1 in
    l.1

clause_passes : (m : Mark) (n : Option Num) → Passes (spell_clause m n)
clause_passes m None r h = h
clause_passes m (Some n) r h = h.1.1

signed_passes : (minus : Bool) (n : Num) → Passes (spell_signed minus n)
signed_passes false n r h = h.1
signed_passes true n r h = h.1.1

rescue_passes : (x : Option Rescue) → Passes (spell_rescue_clause x)
rescue_passes None r h = h
rescue_passes (Some x) r h = signed_passes x.minus x.num r h.1

local_passes : (p : Port) → Passes (spell_local p)
local_passes p r h = (port_passes p (sign marks.Semicolon ∷ r) h).1

end_passes : (k : Kind) → Passes (spell_end k)
end_passes k r h = h.1.1

-- the numbers of expressions, and the symbols behind them
mutual
  formula_fits : (e : Formula) (r : List Symbol) → AllFit (spell e r) → NumbersFit (tree e) × AllFit r
  formula_fits (numeral v p) r h = (h.0, h.1)
  formula_fits (place x is) r h = formulas_fit is r h.1
  formula_fits (prefix o e) r h = formula_fits e r h.1
  formula_fits (infix_ o a b) r h =
      let k = formula_fits a (sign (marks.Operator o) ∷ spell b r) h in
      let l = formula_fits b r k.1.1 in
      ((k.0, l.0), l.1)
  formula_fits (paren e) r h = let k = formula_fits e (sign marks.CloseParen ∷ r) h.1 in (k.0, k.1.1)

  formulas_fit : (is : Formulas) (r : List Symbol) → AllFit (spell_index is r) → IndicesFit (trees is) × AllFit r
  formulas_fit no_index r h = (tt, h)
  formulas_fit (index e is) r h =
      let k = formula_fits e (sign marks.CloseBracket ∷ spell_index is r) h.1 in
      let l = formulas_fit is r k.1.1 in
      ((k.0, l.0), l.1)

-- of assignments and of statements
set_fits : (x : Spot) (is : Formulas) (e : Formula) (r : List Symbol) → AllFit (spell_set x is e r) → (IndicesFit (trees is) × NumbersFit (tree e)) × AllFit r
set_fits x is e r h =
    let k = formulas_fit is (sign marks.Assign ∷ spell e r) h.1 in
    let l = formula_fits e r k.1.1 in
    ((k.0, l.0), l.1)

script_fits : (c : Script) (r : List Symbol) → AllFit (spell_script c r) → CodeFits (script_tree c) × AllFit r
script_fits stop r h = (tt, h)
script_fits (set x is e c) r h =
    let k = set_fits x is e (sign marks.Semicolon ∷ spell_script c r) h in
    let l = script_fits c r k.1.1 in
    ((k.0.0, k.0.1, l.0), l.1)
script_fits (if_ e t c) r h =
    let r1 = sign marks.CloseBrace ∷ spell_script c r in
    let k = formula_fits e (sign marks.CloseParen ∷ sign marks.OpenBrace ∷ spell_script t r1) h.1.1 in
    let l = script_fits t r1 k.1.1.1 in
    let m = script_fits c r l.1.1 in
    ((k.0, l.0, m.0), m.1)
script_fits (if_else e t u c) r h =
    let r1 = sign marks.CloseBrace ∷ spell_script c r in
    let r2 = sign marks.CloseBrace ∷ sign marks.Else ∷ sign marks.OpenBrace ∷ spell_script u r1 in
    let k = formula_fits e (sign marks.CloseParen ∷ sign marks.OpenBrace ∷ spell_script t r2) h.1.1 in
    let l = script_fits t r2 k.1.1.1 in
    let m = script_fits u r1 l.1.1.1.1 in
    let n = script_fits c r m.1.1 in
    ((k.0, l.0, m.0, n.0), n.1)
script_fits (while_ e t c) r h =
    let r1 = sign marks.CloseBrace ∷ spell_script c r in
    let k = formula_fits e (sign marks.CloseParen ∷ sign marks.OpenBrace ∷ spell_script t r1) h.1.1 in
    let l = script_fits t r1 k.1.1.1 in
    let m = script_fits c r l.1.1 in
    ((k.0, l.0, m.0), m.1)
script_fits (for_ x is e w y js f t c) r h =
    let r1 = sign marks.CloseBrace ∷ spell_script c r in
    let r2 = sign marks.CloseParen ∷ sign marks.OpenBrace ∷ spell_script t r1 in
    let r3 = sign marks.Semicolon ∷ spell_set y js f r2 in
    let k = set_fits x is e (sign marks.Semicolon ∷ spell w r3) h.1.1 in
    let l = formula_fits w r3 k.1.1 in
    let m = set_fits y js f r2 l.1.1 in
    let n = script_fits t r1 m.1.1.1 in
    let o = script_fits c r n.1.1 in
    ((k.0.0, k.0.1, l.0, m.0.0, m.0.1, n.0, o.0), o.1)

-- of entries
passage_fits : (i : Passage) (r : List Symbol) → AllFit (spell_passage i r) → EntryFits (passage_tree i) × AllFit r
passage_fits (fixed x v p) r h = (h.1.1.1.0, h.1.1.1.1.1)
passage_fits (bodied g b x ls c) r h =
    let r1 = sign marks.CloseBody ∷ spell_end kinds.Seq r in
    let r2 = sign marks.OpenBody ∷ each spell_local ls (spell_script c r1) in
    let r3 = spell_rescue_clause x r2 in
    let inner = rescue_passes x r2 (clause_passes marks.Budget b r3 (signature_passes g (spell_clause marks.Budget b r3) h.1)) in
    let k = script_fits c r1 (each_passes spell_local local_passes ls (spell_script c r1) inner.1) in
    (k.0, end_passes kinds.Seq r k.1.1)
passage_fits (chained k g x cs) r h =
    let r1 = each spell_call cs (spell_end k r) in
    let inner = rescue_passes x r1 (signature_passes g (spell_rescue_clause x r1) h.1) in
    (tt, end_passes k r (each_passes spell_call call_passes cs (spell_end k r) inner))
passage_fits (spread k g w c) r h =
    let r1 = spell_call c (spell_end k r) in
    let inner = clause_passes marks.Workers w r1 (signature_passes g (spell_clause marks.Workers w r1) h.1) in
    (tt, end_passes k r (call_passes c (spell_end k r) inner))
passage_fits (turned g t m b c) r h =
    let r1 = spell_end kinds.Loop r in
    let r2 = sign marks.While ∷ spell_call c r1 in
    let r3 = spell_clause marks.Tokens m (spell_call b r2) in
    let head = signature_passes g (sign marks.Turns ∷ num_symbol t ∷ r3) h.1 in
    let condition = call_passes b r2 (clause_passes marks.Tokens m (spell_call b r2) head.1.1) in
    (tt, end_passes kinds.Loop r (call_passes c r1 condition.1))

text_fits : (is : List Passage) → AllFit (spell_text is []) → AllByRecursion EntryFits (text_tree is)
text_fits [] h = tt
text_fits (i ∷ is) h = let k = passage_fits i (spell_text is []) h in (k.0, text_fits is k.1)

pub numbers_are_small : NumbersAreSmall
numbers_are_small bytes program s =
    let d = s.derives in
    subst (AllByRecursion EntryFits) d.tree_is (text_fits d.written (subst AllFit d.spelled (tokens_fit bytes s.tokens s.are_tokens)))
