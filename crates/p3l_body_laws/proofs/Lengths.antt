-- A text is no shorter than what its bodies hold.
use Rattle.std.proofs.Common.{◌≡◌, ℕ, ◌+◌, ◌<◌, ◌≤◌, List, [], ◌∷◌, ◌++◌, length, Bool, true, false, Option, Some, None, refl, ap, ◌∙◌, arith, length-append}
use Rattle.p3l_ast.specs.declared.position.Pos.{Pos}
use Rattle.p3l_ast.specs.declared.port.Num.{Num}
use Rattle.p3l_ast.specs.declared.port.Port.{Port}
use Rattle.p3l_ast.specs.declared.call.Sub.{Sub}
use Rattle.p3l_ast.specs.declared.call.Sub.TheVariants.{Whole, Free}
use Rattle.p3l_ast.specs.declared.call.Arg.{Arg}
use Rattle.p3l_ast.specs.declared.call.OutArg.{OutArg}
use Rattle.p3l_ast.specs.declared.call.OutArg.TheVariants.{Fresh, Old}
use Rattle.p3l_ast.specs.declared.call.Call.{Call}
use Rattle.p3l_ast.specs.declared.module.Rescue.{Rescue}
use Rattle.p3l_lexer.specs.declared.mark.Mark.{Mark}
use Rattle.p3l_lexer.specs.declared.mark.Mark.TheVariants as marks
use Rattle.p3l_lexer.specs.declared.token.Piece.{Piece}
use Rattle.p3l_lexer.specs.declared.token.Piece.TheVariants as pieces
use Rattle.p3l_lexer.specs.declared.token.TextToken.{TextToken}
use Rattle.p3l_lexer.specs.Position.{position_after}
use Rattle.p3l_lexer.specs.Token.{Chunk, IsCutInto, token_at, tokens_after, IsTokens}
use Rattle.p3l_lexer.proofs.Lexing.{not_empty}
use Rattle.p3l_grammar.specs.Symbol.{Symbol, sign, symbols}
use Rattle.p3l_grammar.specs.Written.{Formula, numeral, place, prefix, infix_, paren, Formulas, no_index, index, Script, stop, set, if_, if_else, while_, for_, Signature, Passage, fixed, bodied, chained, spread, turned, each, after_comma, separated, num_symbol, spell_size, spell_port, spell_sub, spell_arg, spell_out, spell_call, spell, spell_index, spell_set, spell_script, spell_signature, spell_clause, spell_signed, spell_rescue_clause, spell_local, spell_end, spell_passage, tree, trees, script_tree}
use Rattle.p3l_compile.specs.Limits.{items, index_items, code_items}

-- an expression has no more items than symbols
mutual
  formula_long : (e : Formula) (r : List Symbol) → items (tree e) + length r ≤ length (spell e r)
  formula_long (numeral v p) r = omega arith
  formula_long (place x is) r = omega (arith, index_long is r)
  formula_long (prefix o e) r = omega (arith, formula_long e r)
  formula_long (infix_ o a b) r =
      omega (arith, formula_long a (sign (marks.Operator o) ∷ spell b r), formula_long b r)
  formula_long (paren e) r = omega (arith, formula_long e (sign marks.CloseParen ∷ r))

  index_long : (is : Formulas) (r : List Symbol) → index_items (trees is) + length r ≤ length (spell_index is r)
  index_long no_index r = omega arith
  index_long (index e is) r =
      omega (arith, formula_long e (sign marks.CloseBracket ∷ spell_index is r), index_long is r)

-- an assignment has a name and a sign besides
set_long : (is : Formulas) (e : Formula) (r : List Symbol) →
    index_items (trees is) + items (tree e) + 1 + length r ≤ length (spell_index is (sign marks.Assign ∷ spell e r))
set_long is e r = omega (arith, index_long is (sign marks.Assign ∷ spell e r), formula_long e r)

script_long : (c : Script) (r : List Symbol) → code_items (script_tree c) + length r ≤ length (spell_script c r)
script_long stop r = omega arith
script_long (set x is e c) r =
    omega (arith, set_long is e (sign marks.Semicolon ∷ spell_script c r), script_long c r)
script_long (if_ e t c) r =
    let r1 = sign marks.CloseBrace ∷ spell_script c r in
    let r2 = sign marks.CloseParen ∷ sign marks.OpenBrace ∷ spell_script t r1 in
    omega (arith, formula_long e r2, script_long t r1, script_long c r)
script_long (if_else e t u c) r =
    let r1 = sign marks.CloseBrace ∷ spell_script c r in
    let r2 = sign marks.CloseBrace ∷ sign marks.Else ∷ sign marks.OpenBrace ∷ spell_script u r1 in
    let r3 = sign marks.CloseParen ∷ sign marks.OpenBrace ∷ spell_script t r2 in
    omega (arith, formula_long e r3, script_long t r2, script_long u r1, script_long c r)
script_long (while_ e t c) r =
    let r1 = sign marks.CloseBrace ∷ spell_script c r in
    let r2 = sign marks.CloseParen ∷ sign marks.OpenBrace ∷ spell_script t r1 in
    omega (arith, formula_long e r2, script_long t r1, script_long c r)
script_long (for_ x is e w y js f t c) r =
    let r1 = sign marks.CloseBrace ∷ spell_script c r in
    let r2 = sign marks.CloseParen ∷ sign marks.OpenBrace ∷ spell_script t r1 in
    let r3 = sign marks.Semicolon ∷ spell_set y js f r2 in
    let r4 = sign marks.Semicolon ∷ spell w r3 in
    omega (arith, set_long is e r4, formula_long w r3, set_long js f r2, script_long t r1, script_long c r)

-- symbols written in front make no list shorter
abbrev Lengthens : (List Symbol → List Symbol) → Type 0
Lengthens f = (r : List Symbol) → length r ≤ length (f r)

each_longer : {A : Type 0} (f : A → List Symbol → List Symbol) → ((x : A) → Lengthens (f x)) → (xs : List A) → Lengthens (each f xs)
each_longer f h [] r = omega arith
each_longer f h (x ∷ xs) r = omega (arith, h x (each f xs r), each_longer f h xs r)

separated_longer : {A : Type 0} (f : A → List Symbol → List Symbol) → ((x : A) → Lengthens (f x)) → (xs : List A) → Lengthens (separated f xs)
separated_longer f h [] r = omega arith
separated_longer f h (x ∷ xs) r =
    omega (arith, h x (each (after_comma f) xs r), each_longer (after_comma f) (λ y s. omega (arith, h y s)) xs r)

port_longer : (p : Port) → Lengthens (spell_port p)
port_longer p r = omega (arith, each_longer spell_size (λ n s. omega arith) p.sizes r)

sub_longer : (s : Sub) → Lengthens (spell_sub s)
sub_longer Whole r = omega arith
sub_longer (Free x) r = omega arith

arg_longer : (a : Arg) → Lengthens (spell_arg a)
arg_longer a r = omega (arith, each_longer spell_sub sub_longer a.subs r)

out_longer : (a : OutArg) → Lengthens (spell_out a)
out_longer (Fresh p) r = port_longer p r
out_longer (Old a) r = arg_longer a r

call_longer : (c : Call) → Lengthens (spell_call c)
call_longer c r =
    let outs = sign marks.CloseParen ∷ r in
    let ins = sign marks.CloseParen ∷ sign marks.Out ∷ sign marks.OpenParen ∷ separated spell_out c.outs outs in
    omega (arith, separated_longer spell_arg arg_longer c.ins ins, separated_longer spell_out out_longer c.outs outs)

signature_longer : (h : Signature) → Lengthens (spell_signature h)
signature_longer h r =
    let outs = sign marks.CloseParen ∷ r in
    let ins = sign marks.CloseParen ∷ sign marks.Out ∷ sign marks.OpenParen ∷ separated spell_port h.outs outs in
    omega (arith, separated_longer spell_port port_longer h.ins ins, separated_longer spell_port port_longer h.outs outs)

clause_longer : (m : Mark) (n : Option Num) → Lengthens (spell_clause m n)
clause_longer m None r = omega arith
clause_longer m (Some n) r = omega arith

signed_longer : (minus : Bool) (n : Num) → Lengthens (spell_signed minus n)
signed_longer true n r = omega arith
signed_longer false n r = omega arith

rescue_longer : (x : Option Rescue) → Lengthens (spell_rescue_clause x)
rescue_longer None r = omega arith
rescue_longer (Some x) r = omega (arith, signed_longer x.minus x.num r)

-- a body has fewer items than its module has symbols
pub body_longer : (h : Signature) (b : Option Num) (x : Option Rescue) (ls : List Port) (c : Script) (r : List Symbol) →
    code_items (script_tree c) + length r < length (spell_passage (bodied h b x ls c) r)
body_longer h b x ls c r =
    let r1 = sign marks.CloseBody ∷ sign marks.End ∷ sign marks.Seq ∷ r in
    let r2 = spell_script c r1 in
    let r3 = sign marks.OpenBody ∷ each spell_local ls r2 in
    let r4 = spell_rescue_clause x r3 in
    let local : (p : Port) → Lengthens (spell_local p) = λ p s. omega (arith, port_longer p (sign marks.Semicolon ∷ s)) in
    omega (arith, script_long c r1, each_longer spell_local local ls r2, rescue_longer x r3, clause_longer marks.Budget b r4, signature_longer h (spell_clause marks.Budget b r4))

pub passage_longer : (i : Passage) (r : List Symbol) → length r < length (spell_passage i r)
passage_longer (fixed x v p) r = omega arith
passage_longer (bodied h b x ls c) r = omega (arith, body_longer h b x ls c r)
passage_longer (chained k h x cs) r =
    let r1 = each spell_call cs (spell_end k r) in
    omega (arith, each_longer spell_call call_longer cs (spell_end k r), rescue_longer x r1, signature_longer h (spell_rescue_clause x r1))
passage_longer (spread k h w c) r =
    let r1 = spell_call c (spell_end k r) in
    omega (arith, call_longer c (spell_end k r), clause_longer marks.Workers w r1, signature_longer h (spell_clause marks.Workers w r1))
passage_longer (turned h t n b c) r =
    let r1 = sign marks.End ∷ sign marks.Loop ∷ r in
    let r2 = sign marks.While ∷ spell_call c r1 in
    let r3 = spell_call b r2 in
    let r4 = sign marks.Turns ∷ num_symbol t ∷ spell_clause marks.Tokens n r3 in
    omega (arith, call_longer c r1, call_longer b r2, clause_longer marks.Tokens n r3, signature_longer h r4)

-- each token has a byte
one_token : (at : Pos) (piece : Piece) → length (token_at at piece) ≤ 1
one_token at pieces.Gap = omega arith
one_token at (pieces.Token lexeme) = omega arith

tokens_few : (bytes before : List ℕ) (chunks : List Chunk) → IsCutInto bytes chunks → length (tokens_after before chunks) ≤ length bytes
tokens_few bytes before [] cut = omega arith
tokens_few bytes before (chunk ∷ chunks) cut =
    let more = tokens_few cut.0 (before ++ chunk.text) chunks cut.3 in
    let some = not_empty chunk.text chunk.piece cut.2.is_piece in
    let one = one_token (position_after before) chunk.piece in
    let whole : length bytes ≡ length chunk.text + length cut.0 = ap length cut.1 ∙ length-append chunk.text cut.0 in
    let all = length-append (token_at (position_after before) chunk.piece) (tokens_after (before ++ chunk.text) chunks) in
    omega (arith, more, some, one, whole, all)

symbols_count : (tokens : List TextToken) → length (symbols tokens) ≡ length tokens
symbols_count [] = refl
symbols_count (t ∷ ts) = omega (arith, symbols_count ts)

pub symbols_few : (bytes : List ℕ) (tokens : List TextToken) → IsTokens bytes tokens → length (symbols tokens) ≤ length bytes
symbols_few bytes tokens are =
    omega (arith, symbols_count tokens, ap (length {A = TextToken}) are.tokens_are, tokens_few bytes [] are.chunks are.cut)
