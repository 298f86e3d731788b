-- The names of what a text spells are names of the language.
use Rattle.std.proofs.Common.{◌≡◌, ℕ, Bool, true, false, List, [], ◌∷◌, ◌++◌, Option, Some, None, sym, subst}
use Rattle.std.specs.List.{AllByRecursion}
use Rattle.p3l_ast.specs.declared.position.Pos.{Pos}
use Rattle.p3l_ast.specs.declared.port.Num.{Num}
use Rattle.p3l_ast.specs.declared.port.Port.{Port}
use Rattle.p3l_ast.specs.declared.call.Sub.{Sub}
use Rattle.p3l_ast.specs.declared.call.Sub.TheVariants.{Whole, Free}
use Rattle.p3l_ast.specs.declared.call.Arg.{Arg}
use Rattle.p3l_ast.specs.declared.call.OutArg.{OutArg}
use Rattle.p3l_ast.specs.declared.call.OutArg.TheVariants.{Fresh, Old}
use Rattle.p3l_ast.specs.declared.call.Call.{Call}
use Rattle.p3l_ast.specs.declared.module.Rescue.{Rescue}
use Rattle.p3l_ast.specs.Tree.{ProgramTree}
use Rattle.p3l_lexer.specs.declared.mark.Mark.{Mark}
use Rattle.p3l_lexer.specs.declared.mark.Mark.TheVariants as marks
use Rattle.p3l_lexer.specs.declared.token.Lexeme.TheVariants.{Word, Digits, Sign, Faulty}
use Rattle.p3l_lexer.specs.declared.token.Piece.{Piece}
use Rattle.p3l_lexer.specs.declared.token.Piece.TheVariants as pieces
use Rattle.p3l_lexer.specs.declared.token.TextToken.{TextToken}
use Rattle.p3l_lexer.specs.Piece.{piece_of}
use Rattle.p3l_lexer.specs.Position.{position_after}
use Rattle.p3l_lexer.specs.Token.{Chunk, IsCutInto, token_at, tokens_after}
use Rattle.p3l_grammar.specs.Grammar.{Spells}
use Rattle.p3l_grammar.specs.Symbol.{Symbol, word, sign, symbols}
use Rattle.p3l_grammar.specs.Written.{Formula, numeral, place, prefix, infix_, paren, Formulas, no_index, index, Script, stop, set, if_, if_else, while_, for_, Signature, Passage, fixed, bodied, chained, spread, turned, each, separated, spell, spell_index, spell_script, spell_size, spell_port, spell_sub, spell_arg, spell_out, spell_call, spell_signature, spell_clause, spell_signed, spell_rescue_clause, spell_local, spell_passage, spell_text, passage_tree, text_tree}
use Rattle.p3l_load.specs.Written.{HasNameOf, IsNameText}
use Rattle.p3l_load.proofs.Words.{word_is_name}

abbrev IsNamed : Symbol → Type 0
IsNamed (word x) = IsNameText x.name
IsNamed _ = Unit {0}

abbrev AreNamed : List Symbol → Type 0
AreNamed = AllByRecursion IsNamed

piece_named : (piece : Piece) (text : List ℕ) (at : Pos) (ts : List TextToken) → piece_of text ≡ Some piece → AreNamed (symbols ts) → AreNamed (symbols (token_at at piece ++ ts))
piece_named pieces.Gap text at ts is rest = rest
piece_named (pieces.Token (Word name)) text at ts is rest = (word_is_name text name is, rest)
piece_named (pieces.Token (Digits v)) text at ts is rest = (tt, rest)
piece_named (pieces.Token (Sign m)) text at ts is rest = (tt, rest)
piece_named (pieces.Token (Faulty f)) text at ts is rest = (tt, rest)

tokens_named : (bytes before : List ℕ) (chunks : List Chunk) → IsCutInto bytes chunks → AreNamed (symbols (tokens_after before chunks))
tokens_named bytes before [] cut = tt
tokens_named bytes before (chunk ∷ chunks) cut =
    piece_named chunk.piece chunk.text (position_after before) (tokens_after (before ++ chunk.text) chunks) cut.2.is_piece
    (tokens_named cut.0 (before ++ chunk.text) chunks cut.3)

-- ---- what comes after each construct

mutual
  after_formula : (e : Formula) (r : List Symbol) → AreNamed (spell e r) → AreNamed r
  after_formula (numeral v p) r h = h.1
  after_formula (place x is) r h = after_index is r h.1
  after_formula (prefix o e) r h = after_formula e r h.1
  after_formula (infix_ o a b) r h = after_formula b r (after_formula a _ h).1
  after_formula (paren e) r h = (after_formula e _ h.1).1

  after_index : (is : Formulas) (r : List Symbol) → AreNamed (spell_index is r) → AreNamed r
  after_index no_index r h = h
  after_index (index e is) r h = after_index is r (after_formula e _ h.1).1

after_set : (is : Formulas) (e : Formula) (r : List Symbol) → AreNamed (spell_index is (sign marks.Assign ∷ spell e r)) → AreNamed r
after_set is e r h = after_formula e r (after_index is _ h).1

after_script : (c : Script) (r : List Symbol) → AreNamed (spell_script c r) → AreNamed r
after_script stop r h = h
after_script (set x is e c) r h = after_script c r (after_set is e _ h.1).1
after_script (if_ e t c) r h =
    let a = after_formula e _ h.1.1 in
    let b = after_script t _ a.1.1 in
    after_script c r b.1
after_script (if_else e t f c) r h =
    let a = after_formula e _ h.1.1 in
    let b = after_script t _ a.1.1 in
    let d = after_script f _ b.1.1.1 in
    after_script c r d.1
after_script (while_ e b c) r h =
    let a = after_formula e _ h.1.1 in
    let d = after_script b _ a.1.1 in
    after_script c r d.1
after_script (for_ x is e w y js f b c) r h =
    let a = after_set is e _ h.1.1.1 in
    let d = after_formula w _ a.1 in
    let g = after_set js f _ d.1.1 in
    let k = after_script b _ g.1.1 in
    after_script c r k.1

after_each : {A : Type 0} (f : A → List Symbol → List Symbol) → ((x : A) (r : List Symbol) → AreNamed (f x r) → AreNamed r) → (xs : List A) (r : List Symbol) → AreNamed (each f xs r) → AreNamed r
after_each f after [] r h = h
after_each f after (x ∷ xs) r h = after_each f after xs r (after x _ h)

after_separated : {A : Type 0} (f : A → List Symbol → List Symbol) → ((x : A) (r : List Symbol) → AreNamed (f x r) → AreNamed r) → (xs : List A) (r : List Symbol) → AreNamed (separated f xs r) → AreNamed r
after_separated f after [] r h = h
after_separated f after (x ∷ []) r h = after x r h
after_separated f after (x ∷ (y ∷ ys)) r h = after_separated f after (y ∷ ys) r (after x _ h).1

after_size : (n : Num) (r : List Symbol) → AreNamed (spell_size n r) → AreNamed r
after_size n r h = h.1.1.1

after_port : (p : Port) (r : List Symbol) → AreNamed (spell_port p r) → AreNamed r
after_port p r h = after_each spell_size after_size p.sizes r h.1.1

after_sub : (s : Sub) (r : List Symbol) → AreNamed (spell_sub s r) → AreNamed r
after_sub Whole r h = h.1.1
after_sub (Free x) r h = h.1.1.1.1

after_arg : (a : Arg) (r : List Symbol) → AreNamed (spell_arg a r) → AreNamed r
after_arg a r h = after_each spell_sub after_sub a.subs r h.1

after_out : (o : OutArg) (r : List Symbol) → AreNamed (spell_out o r) → AreNamed r
after_out (Fresh p) r h = after_port p r h
after_out (Old a) r h = after_arg a r h

after_call : (c : Call) (r : List Symbol) → AreNamed (spell_call c r) → AreNamed r
after_call c r h =
    let a = after_separated spell_arg after_arg c.ins _ h.1.1.1 in
    let b = after_separated spell_out after_out c.outs _ a.1.1.1 in
    b.1

after_signature : (m : Signature) (r : List Symbol) → AreNamed (spell_signature m r) → AreNamed r
after_signature m r h =
    let a = after_separated spell_port after_port m.ins _ h.1.1.1 in
    let b = after_separated spell_port after_port m.outs _ a.1.1.1 in
    b.1

after_clause : (m : Mark) (n : Option Num) (r : List Symbol) → AreNamed (spell_clause m n r) → AreNamed r
after_clause m None r h = h
after_clause m (Some n) r h = h.1.1

after_signed : (minus : Bool) (n : Num) (r : List Symbol) → AreNamed (spell_signed minus n r) → AreNamed r
after_signed false n r h = h.1
after_signed true n r h = h.1.1

after_rescue : (x : Option Rescue) (r : List Symbol) → AreNamed (spell_rescue_clause x r) → AreNamed r
after_rescue None r h = h
after_rescue (Some x) r h = after_signed x.minus x.num r h.1

after_local : (p : Port) (r : List Symbol) → AreNamed (spell_local p r) → AreNamed r
after_local p r h = (after_port p _ h).1

passage_named : (p : Passage) (r : List Symbol) → AreNamed (spell_passage p r) → HasNameOf (passage_tree p) × AreNamed r
passage_named (fixed x v p) r h = (h.1.0, h.1.1.1.1.1)
passage_named (bodied m b x ls c) r h =
    let a = after_rescue x _ (after_clause marks.Budget b _ (after_signature m _ h.1)) in
    let d = after_script c _ (after_each spell_local after_local ls _ a.1) in
    (h.1.0, d.1.1.1)
passage_named (chained k m x cs) r h = (h.1.0, (after_each spell_call after_call cs _ (after_rescue x _ (after_signature m _ h.1))).1.1)
passage_named (spread k m w c) r h = (h.1.0, (after_call c _ (after_clause marks.Workers w _ (after_signature m _ h.1))).1.1)
passage_named (turned m t n b c) r h =
    let a = after_clause marks.Tokens n _ (after_signature m _ h.1).1.1 in
    let d = after_call c _ (after_call b _ a).1 in
    (h.1.0, d.1.1)

passages_named : (ps : List Passage) → AreNamed (spell_text ps []) → AllByRecursion HasNameOf (text_tree ps)
passages_named [] h = tt
passages_named (p ∷ ps) h = let own = passage_named p _ h in (own.0, passages_named ps own.1)

pub entries_named : (bytes : List ℕ) (program : ProgramTree) → Spells bytes program → AllByRecursion HasNameOf program.entries
entries_named bytes program spells =
    let tokens : AreNamed (symbols spells.tokens) =
    subst (λ (ts : List TextToken). AreNamed (symbols ts)) (sym spells.are_tokens.tokens_are) (tokens_named bytes [] spells.are_tokens.chunks spells.are_tokens.cut) in
    let spelled : AreNamed (spell_text spells.derives.written []) = subst AreNamed spells.derives.spelled tokens in
    subst (AllByRecursion HasNameOf) spells.derives.tree_is (passages_named spells.derives.written spelled)
