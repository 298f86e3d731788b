-- Soundness of the parser: the symbols that it has read are spelled so, and some program begins with them.
use Rattle.std.proofs.Common.{◌≡◌, ℕ, suc, ℤ, ◌<◌, ◌≤◌, List, [], ◌∷◌, ◌++◌, Option, Some, None, Bool, true, false, cond, refl, sym, ap, ◌∙◌, subst, arith, append_assoc, append-nil}
use Rattle.std.specs.Prelude.{nat_le}
use Rattle.std.proofs.lemmas.Bool.Decides.{nat_tests}
use Rattle.p3l_ast.specs.declared.position.Pos.{Pos}
use Rattle.p3l_ast.specs.declared.position.Spot.{Spot}
use Rattle.p3l_ast.specs.declared.port.Num.{Num}
use Rattle.p3l_ast.specs.declared.port.Num.TheVariants.{Digits, Named}
use Rattle.p3l_ast.specs.declared.port.Port.{Port}
use Rattle.p3l_ast.specs.declared.call.Sub.{Sub}
use Rattle.p3l_ast.specs.declared.call.Sub.TheVariants.{Whole, Free}
use Rattle.p3l_ast.specs.declared.call.Arg.{Arg}
use Rattle.p3l_ast.specs.declared.call.OutArg.{OutArg}
use Rattle.p3l_ast.specs.declared.call.OutArg.TheVariants.{Fresh, Old}
use Rattle.p3l_ast.specs.declared.call.Call.{Call}
use Rattle.p3l_ast.specs.declared.expression.BinOp.{BinOp}
use Rattle.p3l_ast.specs.declared.expression.BinOp.TheVariants as ops
use Rattle.p3l_ast.specs.declared.module.Kind.{Kind}
use Rattle.p3l_ast.specs.declared.module.Kind.TheVariants as kinds
use Rattle.p3l_ast.specs.declared.module.Rescue.{Rescue}
use Rattle.p3l_ast.specs.Tree.{Phrase, unary, binary, Phrases, snoc, Statements, done, assign, if_, if_else, while_, for_, join, EntryTree}
use Rattle.p3l_ast.proofs.Trees.{join_done, join_join}
use Rattle.p3l_lexer.specs.declared.mark.Mark.{Mark}
use Rattle.p3l_lexer.specs.declared.mark.Mark.TheVariants as marks
use Rattle.p3l_ast.specs.Notation.{level}
use Rattle.p3l_grammar.specs.Symbol.{Symbol, word, digits, sign, faulty, unary_mark, kind_mark}
use Rattle.p3l_grammar.specs.Written as written
use Rattle.p3l_grammar.specs.Written.{Formula, numeral, place, prefix, infix_, paren, Formulas, no_index, index, Script, stop, set, Signature, Passage, fixed, bodied, chained, spread, turned, tight, IsGrouped, AreGrouped, IsScript, HasOne, IsSignature, IsCall, AreCalls, IsChain, IsSpread, IsPassage, IsText, each, after_comma, separated, num_symbol, spell_size, spell_port, in_brackets, spell_sub, spell_arg, spell_out, spell_call, spell, spell_index, spell_script, spell_signature, spell_clause, spell_rescue, spell_rescue_clause, spell_local, spell_passage, spell_text, tree, trees, script_tree, passage_tree, text_tree}
use Rattle.p3l_grammar.specs.Parser.{need, Parser, entries, await, any_word, any_digits, any_num, clause, any_rescue, rescue_clause, another_size, any_sub, another_sub, another_port, another_arg, any_out, another_out, another_call, another_local, operand, another_index, value, another_stmt, maybe_else, Hole, whole, after_unary, after_binary, ports, args, out_args, call_from, call, head, end_of, otherwise, same_mark, entries_step, await_step, clause_step, rescue_step, rescue_clause_step, size_step, sub_step, subs_step, port_step, arg_step, any_out_step, out_step, call_step, local_step, operand_step, index_step, infix_of, level_of, operator_step, stmt_step, else_step, step, value_step}
use Rattle.p3l_grammar.proofs.Runs.{bind, run}
use Rattle.std.proofs.lemmas.Slice.Eq.{bytes_eq-Decides}
use Rattle.p3l_lexer.specs.declared.token.Lexeme.TheVariants as lexemes
use Rattle.p3l_lexer.specs.declared.token.Piece.TheVariants as pieces
use Rattle.p3l_lexer.specs.Mark.{mark_text}
use Rattle.p3l_lexer.specs.Piece.{piece_of}
use Rattle.p3l_lexer.proofs.Spelling.{piece_of-mark}
use Rattle.p3l_grammar.specs.Grammar.{Derives}
use Rattle.p3l_grammar.proofs.Signatures.{bodied_tree, chained_tree, spread_tree, turned_tree, bodied_from, chain_from, piped_from, composed_from, spread_from, turned_from}
use Rattle.p3l_grammar.proofs.Complete.{level_small, adds, adds_none, adds_snoc}

-- After the symbols that f puts before its argument the parser is in this state. Whatever may come next,
-- the state that is reached then comes after it too.
abbrev mutual
  pub IsRead : Parser → (List Symbol → List Symbol) → Type 0
  IsRead (entries es) f = (ws : List Passage) × IsText ws × (f ≡ spell_text ws) × (text_tree ws ≡ es)
  IsRead (await m s) f = IsRead s (λ r. f (sign m ∷ r))
  IsRead (any_word go) f = (x : Spot) → IsRead (go x) (λ r. f (word x ∷ r))
  IsRead (any_digits go) f = (v : ℤ) (p : Pos) → IsRead (go v) (λ r. f (digits v p ∷ r))
  IsRead (any_num go) f = (n : Num) → IsRead (go n) (λ r. f (num_symbol n ∷ r))
  IsRead (clause m go) f = (b : Option Num) → IsRead (go b) (λ r. f (spell_clause m b r))
  IsRead (any_rescue go) f = (x : Rescue) → IsRead (go x) (λ r. f (spell_rescue x r))
  IsRead (rescue_clause go) f = (x : Option Rescue) → IsRead (go x) (λ r. f (spell_rescue_clause x r))
  IsRead (another_size ns go) f = (ms : List Num) → IsRead (go (ns ++ ms)) (λ r. f (each spell_size ms r))
  IsRead (any_sub go) f = (s : Sub) → IsRead (go s) (λ r. f (in_brackets s r))
  IsRead (another_sub ss go) f = (ms : List Sub) → IsRead (go (ss ++ ms)) (λ r. f (each spell_sub ms r))
  IsRead (another_port ps go) f = (ms : List Port) → IsRead (go (ps ++ ms)) (λ r. f (each (after_comma spell_port) ms r))
  IsRead (another_arg xs go) f = (ms : List Arg) → IsRead (go (xs ++ ms)) (λ r. f (each (after_comma spell_arg) ms r))
  IsRead (any_out go) f = (a : OutArg) → IsRead (go a) (λ r. f (spell_out a r))
  IsRead (another_out xs go) f = (ms : List OutArg) → IsRead (go (xs ++ ms)) (λ r. f (each (after_comma spell_out) ms r))
  IsRead (another_call cs go) f = (ds : List Call) → AreCalls ds → IsRead (go (cs ++ ds)) (λ r. f (each spell_call ds r))
  IsRead (another_local ls go) f = (ms : List Port) → IsRead (go (ls ++ ms)) (λ r. f (each spell_local ms r))
  IsRead (operand h) f = IsHole h f
  IsRead (another_index is go) f = (js : Formulas) → AreGrouped js → IsRead (go (adds is (trees js))) (λ r. f (spell_index js r))
  IsRead (value e h) f =
      (w : Formula) × (g : List Symbol → List Symbol) × (f ≡ (λ r. g (spell w r))) × IsGrouped w × (tight w ≡ 10) × (tree w ≡ e) × IsHole h g
  IsRead (another_stmt c go) f = (d : Script) → IsScript d → IsRead (go (join c (script_tree d))) (λ r. f (spell_script d r))
  IsRead (maybe_else c e t go) f =
      ((d : Script) → IsScript d → IsRead (go (join (join c (if_ e t done)) (script_tree d))) (λ r. f (spell_script d r)))
      × ((u d : Script) → IsScript u → IsScript d
      → IsRead (go (join (join c (if_else e t (script_tree u) done)) (script_tree d)))
      (λ r. f (sign marks.Else ∷ sign marks.OpenBrace ∷ spell_script u (sign marks.CloseBrace ∷ spell_script d r))))

  pub IsHole : Hole → (List Symbol → List Symbol) → Type 0
  IsHole (whole go) f = (w : Formula) → IsGrouped w → IsRead (go (tree w)) (λ r. f (spell w r))
  IsHole (after_unary o h) f =
      (g : List Symbol → List Symbol) × (f ≡ (λ r. g (sign (unary_mark o) ∷ r))) × (need h ≤ 10) × IsHole h g
  IsHole (after_binary o a h) f =
      (w : Formula) × (g : List Symbol → List Symbol) × (f ≡ (λ r. g (spell w (sign (marks.Operator o) ∷ r))))
      × (need h ≤ level o) × (level o ≤ tight w) × IsGrouped w × (tree w ≡ a) × IsHole h g

abbrev pub IfRead : Option Parser → (List Symbol → List Symbol) → Type 0
IfRead None f = Unit {0}
IfRead (Some s) f = IsRead s f

-- either the next symbol is one of these, or what comes after decides
reads_otherwise : (o n : Option Parser) (f : List Symbol → List Symbol) → IfRead o f → IfRead n f → IfRead (otherwise o n) f
reads_otherwise None n f h i = i
reads_otherwise (Some s) n f h i = h

by_test : (f : List Symbol → List Symbol) (b : Bool) (x y : Option Parser) → (b ≡ true → IfRead x f) → (b ≡ false → IfRead y f) → IfRead (cond b x y) f
by_test f true x y p q = p refl
by_test f false x y p q = q refl

le_of_true : (m n : ℕ) → nat_le m n ≡ true → m ≤ n
le_of_true m n h = grind (arith, nat_tests)

lt_of_false : (m n : ℕ) → nat_le m n ≡ false → n < m
lt_of_false m n h = grind (arith, nat_tests)

-- marks that are written alike are one mark
pub mark_same : (m m' : Mark) → same_mark m m' ≡ true → m ≡ m'
mark_same m m' p =
    let alike : mark_text m ≡ mark_text m' = (bytes_eq-Decides (mark_text m) (mark_text m')).0 p in
    let q : Some (pieces.Token (lexemes.Sign m)) ≡ Some (pieces.Token (lexemes.Sign m')) = sym (piece_of-mark m) ∙ ap piece_of alike ∙ piece_of-mark m' in
    cc

-- the next symbol, put after
abbrev pub Then : (List Symbol → List Symbol) → Symbol → List Symbol → List Symbol
Then f t r = f (t ∷ r)

await_reads : (t : Symbol) (m : Mark) (s : Parser) (f : List Symbol → List Symbol) → IsRead s (λ r. f (sign m ∷ r)) → IfRead (await_step t m s) (Then f t)
await_reads (word x) m s f h = tt
await_reads (digits v p) m s f h = tt
await_reads faulty m s f h = tt
await_reads (sign m') m s f h =
    by_test (Then f (sign m')) (same_mark m m') (Some s) None
    (λ p. let P : Mark → Type 0 = λ x. IsRead s (Then f (sign x)) in subst P (mark_same m m' p) h)
    (λ p. tt)

-- another entry is read
entry_reads : (es : List EntryTree) (f : List Symbol → List Symbol) (i : Passage) → IsRead (entries es) f → IsPassage i → IsRead (entries (es ++ passage_tree i ∷ [])) (λ r. f (spell_passage i r))
entry_reads es f i h g =
    let ws = h.0 in
    (ws ++ i ∷ [], text_append ws i h.1 g, (λ j r. entry_spelled ws i f h.2 r j), text_tree_append ws i ∙ ap (λ q. q ++ passage_tree i ∷ []) h.3)
  where
    text_append : (ws : List Passage) (i : Passage) → IsText ws → IsPassage i → IsText (ws ++ i ∷ [])
    text_append [] i h g = (g, tt)
    text_append (w ∷ ws) i h g = (h.0, text_append ws i h.1 g)

    spell_append : (ws : List Passage) (i : Passage) (r : List Symbol) → spell_text ws (spell_passage i r) ≡ spell_text (ws ++ i ∷ []) r
    spell_append [] i r = refl
    spell_append (w ∷ ws) i r = ap (spell_passage w) (spell_append ws i r)

    entry_spelled : (ws : List Passage) (i : Passage) (f : List Symbol → List Symbol) → f ≡ spell_text ws → (r : List Symbol) → f (spell_passage i r) ≡ spell_text (ws ++ i ∷ []) r
    entry_spelled ws i f p r = ap (λ q. q (spell_passage i r)) p ∙ spell_append ws i r

    text_tree_append : (ws : List Passage) (i : Passage) → text_tree (ws ++ i ∷ []) ≡ text_tree ws ++ passage_tree i ∷ []
    text_tree_append [] i = refl
    text_tree_append (w ∷ ws) i = ap (λ q. passage_tree w ∷ q) (text_tree_append ws i)

ports_read : (go : List Port → Parser) (f : List Symbol → List Symbol) → ((ps : List Port) → HasOne ps → IsRead (go ps) (λ r. f (sign marks.OpenParen ∷ separated spell_port ps (sign marks.CloseParen ∷ r)))) → IsRead (ports go) f
ports_read go f h = λ x ns ms. h (record { at = x; sizes = ns } ∷ ms) tt

args_read : (go : List Arg → Parser) (f : List Symbol → List Symbol) → ((xs : List Arg) → HasOne xs → IsRead (go xs) (λ r. f (sign marks.OpenParen ∷ separated spell_arg xs (sign marks.CloseParen ∷ r)))) → IsRead (args go) f
args_read go f h = λ x ss ms. h (record { at = x; subs = ss } ∷ ms) tt

outs_read : (go : List OutArg → Parser) (f : List Symbol → List Symbol) → ((xs : List OutArg) → HasOne xs → IsRead (go xs) (λ r. f (sign marks.OpenParen ∷ separated spell_out xs (sign marks.CloseParen ∷ r)))) → IsRead (out_args go) f
outs_read go f h = λ x ms. h (x ∷ ms) tt

call_from_read : (x : Spot) (go : Call → Parser) (f : List Symbol → List Symbol) → ((is : List Arg) (os : List OutArg) → HasOne is → HasOne os → IsRead (go (record { at = x; ins = is; outs = os })) (λ r. f (sign marks.In ∷ sign marks.OpenParen ∷ separated spell_arg is (sign marks.CloseParen ∷ sign marks.Out ∷ sign marks.OpenParen ∷ separated spell_out os (sign marks.CloseParen ∷ r))))) → IsRead (call_from x go) f
call_from_read x go f h =
    args_read (λ is. await marks.Out (out_args (λ os. go (record { at = x; ins = is; outs = os })))) (λ r. f (sign marks.In ∷ r))
    (λ is i. outs_read (λ os. go (record { at = x; ins = is; outs = os })) (λ r. f (sign marks.In ∷ sign marks.OpenParen ∷ separated spell_arg is (sign marks.CloseParen ∷ sign marks.Out ∷ r))) (λ os j. h is os i j))

call_read : (go : Call → Parser) (f : List Symbol → List Symbol) → ((c : Call) → IsCall c → IsRead (go c) (λ r. f (spell_call c r))) → IsRead (call go) f
call_read go f h = λ x. call_from_read x go (λ r. f (word x ∷ r)) (λ is os i j. h (record { at = x; ins = is; outs = os }) (i, j))

signature_read : (go : Signature → Parser) (f : List Symbol → List Symbol) → ((h : Signature) → IsSignature h → IsRead (go h) (λ r. f (spell_signature h r))) → IsRead (head go) f
signature_read go f h =
    λ x. ports_read (λ is. await marks.Out (ports (λ os. go (record { at = x; ins = is; outs = os })))) (λ r. f (word x ∷ sign marks.In ∷ r))
    (λ is i. ports_read (λ os. go (record { at = x; ins = is; outs = os })) (λ r. f (word x ∷ sign marks.In ∷ sign marks.OpenParen ∷ separated spell_port is (sign marks.CloseParen ∷ sign marks.Out ∷ r)))
    (λ os j. h (record { at = x; ins = is; outs = os }) (i, j)))

-- after each entry the parser goes on
abbrev Goes : (EntryTree → Parser) → (List Symbol → List Symbol) → Type 0
Goes go f = (i : Passage) → IsPassage i → IsRead (go (passage_tree i)) (λ r. f (spell_passage i r))

bodied_read : (go : EntryTree → Parser) (f : List Symbol → List Symbol) → Goes go f → IsRead (bodied_from go) (Then f (sign marks.Seq))
bodied_read go f h =
    signature_read (λ h'. clause marks.Budget (λ b. rescue_clause (λ x. await marks.OpenBody (another_local [] (λ ls. another_stmt done (λ c. await marks.CloseBody (end_of kinds.Seq (go (bodied_tree h' b x ls c))))))))) (Then f (sign marks.Seq))
    (λ h' i b x ls c j. h (bodied h' b x ls c) (i, j))

-- the calls of a `pipe` or a `comp`
chain_read : (k : Kind) (g : Signature) (x : Option Rescue) (go : EntryTree → Parser) (f : List Symbol → List Symbol) → IsChain k x → IsSignature g → Goes go f →
    IsRead (chain_from k g x go) (λ r. f (sign (kind_mark k) ∷ spell_signature g (spell_rescue_clause x r)))
chain_read k g x go f c i h =
    call_read (λ d. another_call (d ∷ []) (λ cs. end_of k (go (chained_tree k g x cs)))) (λ r. f (sign (kind_mark k) ∷ spell_signature g (spell_rescue_clause x r)))
    (λ d j ds l. h (chained k g x (d ∷ ds)) (c, i, tt, (j, l)))

piped_read : (go : EntryTree → Parser) (f : List Symbol → List Symbol) → Goes go f → IsRead (piped_from go) (Then f (sign marks.Pipe))
piped_read go f h =
    signature_read (λ g. chain_from kinds.Pipe g None go) (Then f (sign marks.Pipe)) (λ g i. chain_read kinds.Pipe g None go f tt i h)

composed_read : (go : EntryTree → Parser) (f : List Symbol → List Symbol) → Goes go f → IsRead (composed_from go) (Then f (sign marks.Comp))
composed_read go f h =
    signature_read (λ g. rescue_clause (λ x. chain_from kinds.Comp g x go)) (Then f (sign marks.Comp)) (λ g i x. chain_read kinds.Comp g x go f tt i h)

spread_read : (k : Kind) (go : EntryTree → Parser) (f : List Symbol → List Symbol) → IsSpread k → Goes go f → IsRead (spread_from k go) (Then f (sign (kind_mark k)))
spread_read k go f s h =
    signature_read (λ h'. clause marks.Workers (λ w. call (λ c. end_of k (go (spread_tree k h' w c))))) (Then f (sign (kind_mark k)))
    (λ h' i w. call_read (λ c. end_of k (go (spread_tree k h' w c))) (λ r. f (sign (kind_mark k) ∷ spell_signature h' (spell_clause marks.Workers w r)))
    (λ c j. h (spread k h' w c) (s, i, j)))

turned_read : (go : EntryTree → Parser) (f : List Symbol → List Symbol) → Goes go f → IsRead (turned_from go) (Then f (sign marks.Loop))
turned_read go f h =
    signature_read (λ h'. await marks.Turns (any_num (λ t. clause marks.Tokens (λ n. call (λ b. await marks.While (call (λ c. end_of kinds.Loop (go (turned_tree h' t n b c)))))))))
    (Then f (sign marks.Loop))
    (λ h' i t n. call_read (λ b. await marks.While (call (λ c. end_of kinds.Loop (go (turned_tree h' t n b c))))) (λ r. f (sign marks.Loop ∷ spell_signature h' (sign marks.Turns ∷ num_symbol t ∷ spell_clause marks.Tokens n r)))
    (λ b j. call_read (λ c. end_of kinds.Loop (go (turned_tree h' t n b c))) (λ r. f (sign marks.Loop ∷ spell_signature h' (sign marks.Turns ∷ num_symbol t ∷ spell_clause marks.Tokens n (spell_call b (sign marks.While ∷ r)))))
    (λ c l. h (turned h' t n b c) (i, j, l))))

entries_read : (t : Symbol) (es : List EntryTree) (f : List Symbol → List Symbol) → IsRead (entries es) f → IfRead (entries_step t es) (Then f t)
entries_read (sign marks.Const) es f h = λ x v p. entry_reads es f (fixed x v p) h tt
entries_read (sign marks.Seq) es f h = bodied_read (λ e. entries (es ++ e ∷ [])) f (λ i g. entry_reads es f i h g)
entries_read (sign marks.Pipe) es f h = piped_read (λ e. entries (es ++ e ∷ [])) f (λ i g. entry_reads es f i h g)
entries_read (sign marks.Comp) es f h = composed_read (λ e. entries (es ++ e ∷ [])) f (λ i g. entry_reads es f i h g)
entries_read (sign marks.Farm) es f h = spread_read kinds.Farm (λ e. entries (es ++ e ∷ [])) f tt (λ i g. entry_reads es f i h g)
entries_read (sign marks.Map) es f h = spread_read kinds.Map (λ e. entries (es ++ e ∷ [])) f tt (λ i g. entry_reads es f i h g)
entries_read (sign marks.Reduce) es f h = spread_read kinds.Reduce (λ e. entries (es ++ e ∷ [])) f tt (λ i g. entry_reads es f i h g)
entries_read (sign marks.Loop) es f h = turned_read (λ e. entries (es ++ e ∷ [])) f (λ i g. entry_reads es f i h g)
entries_read _ es f h = tt

-- A rescue number, and a rescue or none.

rescue_reads : (t : Symbol) (go : Rescue → Parser) (f : List Symbol → List Symbol) → IsRead (any_rescue go) f → IfRead (rescue_step t go) (Then f t)
rescue_reads (digits v p) go f h = h (record { minus = false; num = Digits v p })
rescue_reads (word x) go f h = h (record { minus = false; num = Named x })
rescue_reads (sign (marks.Operator ops.Sub)) go f h = λ n. h (record { minus = true; num = n })
rescue_reads _ go f h = tt

rescue_clause_reads : (t : Symbol) (go : Option Rescue → Parser) (f : List Symbol → List Symbol) → IsRead (rescue_clause go) f → IfRead (rescue_clause_step t go) (Then f t)
rescue_clause_reads t go f h = await_reads t marks.Rescue (any_rescue (λ x. go (Some x))) f (λ x. h (Some x))

-- One more item of a list, or none.

num_more : (ns : List Num) (go : List Num → Parser) (f : List Symbol → List Symbol) → IsRead (another_size ns go) f → (n : Num) → IsRead (another_size (ns ++ n ∷ []) go) (λ r. f (spell_size n r))
num_more ns go f h n ms =
    let P : List Num → Type 0 = λ q. IsRead (go q) (λ r. f (each spell_size (n ∷ ms) r)) in subst P (sym (append_assoc ns (n ∷ []) ms)) (h (n ∷ ms))

pub num_stop : (ns : List Num) (go : List Num → Parser) (f : List Symbol → List Symbol) → IsRead (another_size ns go) f → IsRead (go ns) f
num_stop ns go f h = let P : List Num → Type 0 = λ q. IsRead (go q) f in subst P (append-nil ns) (h [])

size_reads : (t : Symbol) (ns : List Num) (go : List Num → Parser) (f : List Symbol → List Symbol) → IsRead (another_size ns go) f → IfRead (size_step t ns go) (Then f t)
size_reads (sign marks.OpenBracket) ns go f h = λ n. num_more ns go f h n
size_reads _ ns go f h = tt

sub_more : (ns : List Sub) (go : List Sub → Parser) (f : List Symbol → List Symbol) → IsRead (another_sub ns go) f → (n : Sub) → IsRead (another_sub (ns ++ n ∷ []) go) (λ r. f (spell_sub n r))
sub_more ns go f h n ms =
    let P : List Sub → Type 0 = λ q. IsRead (go q) (λ r. f (each spell_sub (n ∷ ms) r)) in subst P (sym (append_assoc ns (n ∷ []) ms)) (h (n ∷ ms))

pub sub_stop : (ns : List Sub) (go : List Sub → Parser) (f : List Symbol → List Symbol) → IsRead (another_sub ns go) f → IsRead (go ns) f
sub_stop ns go f h = let P : List Sub → Type 0 = λ q. IsRead (go q) f in subst P (append-nil ns) (h [])

subs_reads : (t : Symbol) (ns : List Sub) (go : List Sub → Parser) (f : List Symbol → List Symbol) → IsRead (another_sub ns go) f → IfRead (subs_step t ns go) (Then f t)
subs_reads (sign marks.OpenBracket) ns go f h = λ n. sub_more ns go f h n
subs_reads _ ns go f h = tt

in_sub_reads : (t : Symbol) (go : Sub → Parser) (f : List Symbol → List Symbol) → IsRead (any_sub go) f → IfRead (sub_step t go) (Then f t)
in_sub_reads (sign marks.CloseBracket) go f h = h Whole
in_sub_reads (sign (marks.Operator ops.Mul)) go f h = λ x. h (Free x)
in_sub_reads _ go f h = tt

port_more : (ns : List Port) (go : List Port → Parser) (f : List Symbol → List Symbol) → IsRead (another_port ns go) f → (n : Port) → IsRead (another_port (ns ++ n ∷ []) go) (λ r. f (after_comma spell_port n r))
port_more ns go f h n ms =
    let P : List Port → Type 0 = λ q. IsRead (go q) (λ r. f (each (after_comma spell_port) (n ∷ ms) r)) in subst P (sym (append_assoc ns (n ∷ []) ms)) (h (n ∷ ms))

pub port_stop : (ns : List Port) (go : List Port → Parser) (f : List Symbol → List Symbol) → IsRead (another_port ns go) f → IsRead (go ns) f
port_stop ns go f h = let P : List Port → Type 0 = λ q. IsRead (go q) f in subst P (append-nil ns) (h [])

port_reads : (t : Symbol) (ns : List Port) (go : List Port → Parser) (f : List Symbol → List Symbol) → IsRead (another_port ns go) f → IfRead (port_step t ns go) (Then f t)
port_reads (sign marks.Comma) ns go f h = λ x ks. port_more ns go f h (record { at = x; sizes = ks })
port_reads _ ns go f h = tt

arg_more : (ns : List Arg) (go : List Arg → Parser) (f : List Symbol → List Symbol) → IsRead (another_arg ns go) f → (n : Arg) → IsRead (another_arg (ns ++ n ∷ []) go) (λ r. f (after_comma spell_arg n r))
arg_more ns go f h n ms =
    let P : List Arg → Type 0 = λ q. IsRead (go q) (λ r. f (each (after_comma spell_arg) (n ∷ ms) r)) in subst P (sym (append_assoc ns (n ∷ []) ms)) (h (n ∷ ms))

pub arg_stop : (ns : List Arg) (go : List Arg → Parser) (f : List Symbol → List Symbol) → IsRead (another_arg ns go) f → IsRead (go ns) f
arg_stop ns go f h = let P : List Arg → Type 0 = λ q. IsRead (go q) f in subst P (append-nil ns) (h [])

arg_reads : (t : Symbol) (ns : List Arg) (go : List Arg → Parser) (f : List Symbol → List Symbol) → IsRead (another_arg ns go) f → IfRead (arg_step t ns go) (Then f t)
arg_reads (sign marks.Comma) ns go f h = λ x ss. arg_more ns go f h (record { at = x; subs = ss })
arg_reads _ ns go f h = tt

any_out_reads : (t : Symbol) (go : OutArg → Parser) (f : List Symbol → List Symbol) → IsRead (any_out go) f → IfRead (any_out_step t go) (Then f t)
any_out_reads (sign marks.Int) go f h = λ x ks. h (Fresh (record { at = x; sizes = ks }))
any_out_reads (word x) go f h = λ ss. h (Old (record { at = x; subs = ss }))
any_out_reads _ go f h = tt

out_more : (ns : List OutArg) (go : List OutArg → Parser) (f : List Symbol → List Symbol) → IsRead (another_out ns go) f → (n : OutArg) → IsRead (another_out (ns ++ n ∷ []) go) (λ r. f (after_comma spell_out n r))
out_more ns go f h n ms =
    let P : List OutArg → Type 0 = λ q. IsRead (go q) (λ r. f (each (after_comma spell_out) (n ∷ ms) r)) in subst P (sym (append_assoc ns (n ∷ []) ms)) (h (n ∷ ms))

pub out_stop : (ns : List OutArg) (go : List OutArg → Parser) (f : List Symbol → List Symbol) → IsRead (another_out ns go) f → IsRead (go ns) f
out_stop ns go f h = let P : List OutArg → Type 0 = λ q. IsRead (go q) f in subst P (append-nil ns) (h [])

out_reads : (t : Symbol) (ns : List OutArg) (go : List OutArg → Parser) (f : List Symbol → List Symbol) → IsRead (another_out ns go) f → IfRead (out_step t ns go) (Then f t)
out_reads (sign marks.Comma) ns go f h = λ a. out_more ns go f h a
out_reads _ ns go f h = tt

call_more : (ns : List Call) (go : List Call → Parser) (f : List Symbol → List Symbol) → IsRead (another_call ns go) f → (n : Call) → IsCall n → IsRead (another_call (ns ++ n ∷ []) go) (λ r. f (spell_call n r))
call_more ns go f h n g ms gs =
    let P : List Call → Type 0 = λ q. IsRead (go q) (λ r. f (each spell_call (n ∷ ms) r)) in subst P (sym (append_assoc ns (n ∷ []) ms)) (h (n ∷ ms) (g, gs))

pub call_stop : (ns : List Call) (go : List Call → Parser) (f : List Symbol → List Symbol) → IsRead (another_call ns go) f → IsRead (go ns) f
call_stop ns go f h = let P : List Call → Type 0 = λ q. IsRead (go q) f in subst P (append-nil ns) (h [] tt)

call_reads : (t : Symbol) (ns : List Call) (go : List Call → Parser) (f : List Symbol → List Symbol) → IsRead (another_call ns go) f → IfRead (call_step t ns go) (Then f t)
call_reads (word x) ns go f h =
    call_from_read x (λ c. another_call (ns ++ c ∷ []) go) (Then f (word x))
    (λ is os i j. call_more ns go f h (record { at = x; ins = is; outs = os }) (i, j))
call_reads _ ns go f h = tt

local_more : (ns : List Port) (go : List Port → Parser) (f : List Symbol → List Symbol) → IsRead (another_local ns go) f → (n : Port) → IsRead (another_local (ns ++ n ∷ []) go) (λ r. f (spell_local n r))
local_more ns go f h n ms =
    let P : List Port → Type 0 = λ q. IsRead (go q) (λ r. f (each spell_local (n ∷ ms) r)) in subst P (sym (append_assoc ns (n ∷ []) ms)) (h (n ∷ ms))

pub local_stop : (ns : List Port) (go : List Port → Parser) (f : List Symbol → List Symbol) → IsRead (another_local ns go) f → IsRead (go ns) f
local_stop ns go f h = let P : List Port → Type 0 = λ q. IsRead (go q) f in subst P (append-nil ns) (h [])

local_reads : (t : Symbol) (ns : List Port) (go : List Port → Parser) (f : List Symbol → List Symbol) → IsRead (another_local ns go) f → IfRead (local_step t ns go) (Then f t)
local_reads (sign marks.Int) ns go f h = λ x ks. local_more ns go f h (record { at = x; sizes = ks })
local_reads _ ns go f h = tt

index_more : (is : Phrases) (go : Phrases → Parser) (f : List Symbol → List Symbol) → IsRead (another_index is go) f → (w : Formula) → IsGrouped w → IsRead (another_index (snoc is (tree w)) go) (λ r. f (sign marks.OpenBracket ∷ spell w (sign marks.CloseBracket ∷ r)))
index_more is go f h w g js gs =
    let P : Phrases → Type 0 = λ q. IsRead (go q) (λ r. f (spell_index (index w js) r)) in subst P (sym (adds_snoc is (trees js) (tree w))) (h (index w js) (g, gs))

pub index_stop : (is : Phrases) (go : Phrases → Parser) (f : List Symbol → List Symbol) → IsRead (another_index is go) f → IsRead (go is) f
index_stop is go f h = let P : Phrases → Type 0 = λ q. IsRead (go q) f in subst P (adds_none is) (h no_index tt)

index_reads : (t : Symbol) (is : Phrases) (go : Phrases → Parser) (f : List Symbol → List Symbol) → IsRead (another_index is go) f → IfRead (index_step t is go) (Then f t)
index_reads (sign marks.OpenBracket) is go f h = λ w g. index_more is go f h w g
index_reads _ is go f h = tt

-- a statement after others
stmt_more : (c a b : Statements) (go : Statements → Parser) (f : List Symbol → List Symbol) → IsRead (go (join c (join a b))) f → IsRead (go (join (join c a) b)) f
stmt_more c a b go f h = let P : Statements → Type 0 = λ q. IsRead (go q) f in subst P (sym (join_join c a b)) h

pub stmt_stop : (c : Statements) (go : Statements → Parser) (f : List Symbol → List Symbol) → IsRead (another_stmt c go) f → IsRead (go c) f
stmt_stop c go f h = let P : Statements → Type 0 = λ q. IsRead (go q) f in subst P (join_done c) (h stop tt)

stmt_reads : (t : Symbol) (c : Statements) (go : Statements → Parser) (f : List Symbol → List Symbol) → IsRead (another_stmt c go) f → IfRead (stmt_step t c go) (Then f t)
stmt_reads (word x) c go f h = λ js gj w gw d gd. stmt_more c (assign x (trees js) (tree w) done) (script_tree d) go _ (h (set x js w d) (gj, gw, gd))
stmt_reads (sign marks.If) c go f h = λ w gw t gt. (
  λ d gd. stmt_more c (if_ (tree w) (script_tree t) done) (script_tree d) go _ (h (written.if_ w t d) (gw, gt, gd)),
  λ u d gu gd. stmt_more c (if_else (tree w) (script_tree t) (script_tree u) done) (script_tree d) go _ (h (written.if_else w t u d) (gw, gt, gu, gd)),
)
stmt_reads (sign marks.While) c go f h = λ w gw t gt d gd. stmt_more c (while_ (tree w) (script_tree t) done) (script_tree d) go _ (h (written.while_ w t d) (gw, gt, gd))
stmt_reads (sign marks.For) c go f h =
    λ x js gj w gw v gv y ks gk u gu t gt d gd.
    stmt_more c (for_ x (trees js) (tree w) (tree v) y (trees ks) (tree u) (script_tree t) done) (script_tree d) go _
    (h (written.for_ x js w v y ks u t d) (gj, gw, gv, gk, gu, gt, gd))
stmt_reads _ c go f h = tt

else_reads : (t : Symbol) (c : Statements) (e : Phrase) (b : Statements) (go : Statements → Parser) (f : List Symbol → List Symbol) → IsRead (maybe_else c e b go) f → IfRead (else_step t c e b go) (Then f t)
else_reads (sign marks.Else) c e b go f h = λ u gu d gd. h.1 u d gu gd
else_reads _ c e b go f h = tt

-- Expressions.

pub need_small : (h : Hole) → need h ≤ 10
need_small (whole go) = omega arith
need_small (after_unary o h) = omega arith
need_small (after_binary o a h) = omega (arith, level_small o)

operand_reads : (t : Symbol) (h : Hole) (f : List Symbol → List Symbol) → IsHole h f → IfRead (operand_step t h) (Then f t)
operand_reads (digits v p) h f i = (numeral v p, f, refl, tt, refl, refl, i)
operand_reads (word x) h f i = λ js gj. (place x js, f, refl, gj, refl, refl, i)
operand_reads (sign (marks.Operator ops.Sub)) h f i = (f, refl, need_small h, i)
operand_reads (sign marks.Bang) h f i = (f, refl, need_small h, i)
operand_reads (sign marks.Tilde) h f i = (f, refl, need_small h, i)
operand_reads (sign marks.OpenParen) h f i = λ w gw. (paren w, f, refl, gw, refl, refl, i)
operand_reads _ h f i = tt

mark_of_operator : (t : Symbol) (o : BinOp) → infix_of t ≡ Some o → t ≡ sign (marks.Operator o)
mark_of_operator (sign (marks.Operator a)) o p = let q : a ≡ o = cc in ap (λ x. sign (marks.Operator x)) q
mark_of_operator _ o p = absurd (cc)

-- the level to which a symbol groups is that of an operator, or 0
level_of_small : (q : Option BinOp) → level_of q ≤ 9
level_of_small None = omega arith
level_of_small (Some o) = level_small o

module _ (t : Symbol) (e : Phrase) (w : Formula) (h : Hole) (g : List Symbol → List Symbol) where
  -- an operator after a value
  operator_reads : (q : Option BinOp) → infix_of t ≡ q → (n : ℕ) → need h ≤ n → (((o : BinOp) → q ≡ Some o → n ≤ level o)) → level_of q ≤ tight w → IsGrouped w → tree w ≡ e → IsHole h g → IfRead (operator_step q e h) (λ r. g (spell w (t ∷ r)))
  operator_reads None p n l m i gw te hh = tt
  operator_reads (Some o) p n l m i gw te hh =
      (w, g, (λ j r. g (spell w (mark_of_operator t o p j ∷ r))), omega (arith, m o refl), i, gw, te, hh)

read_as : (s : Phrase → Parser) (e e' : Phrase) (f : List Symbol → List Symbol) → e ≡ e' → IsRead (s e) f → IsRead (s e') f
read_as s e e' f p h = let P : Phrase → Type 0 = λ q. IsRead (s q) f in subst P p h

read_by : (o : Option Parser) (f g : List Symbol → List Symbol) → f ≡ g → IfRead o g → IfRead o f
read_by o f g p h = let P : (List Symbol → List Symbol) → Type 0 = λ q. IfRead o q in subst P (sym p) h

-- the words that were read before, seen through another function
abbrev After : (List Symbol → List Symbol) → (List Symbol → List Symbol) → List Symbol → List Symbol
After v f r = f (v r)

inside : (f g : List Symbol → List Symbol) (v : List Symbol → List Symbol) → f ≡ g → After v f ≡ After v g
inside f g v p = ap (After v) p

mutual
  pub step_reads : (s : Parser) (t : Symbol) (f : List Symbol → List Symbol) → IsRead s f → IfRead (step s t) (Then f t)
  step_reads (entries es) t f h = entries_read t es f h
  step_reads (await m s) t f h = await_reads t m s f h
  step_reads (any_word go) (word x) f h = h x
  step_reads (any_word go) (digits v p) f h = tt
  step_reads (any_word go) (sign m) f h = tt
  step_reads (any_word go) faulty f h = tt
  step_reads (any_digits go) (word x) f h = tt
  step_reads (any_digits go) (digits v p) f h = h v p
  step_reads (any_digits go) (sign m) f h = tt
  step_reads (any_digits go) faulty f h = tt
  step_reads (any_num go) (word x) f h = h (Named x)
  step_reads (any_num go) (digits v p) f h = h (Digits v p)
  step_reads (any_num go) (sign m) f h = tt
  step_reads (any_num go) faulty f h = tt
  step_reads (clause m go) t f h =
      reads_otherwise (clause_step t m go) (step (go None) t) (Then f t) (await_reads t m (any_num (λ n. go (Some n))) f (λ n. h (Some n))) (step_reads (go None) t f (h None))
  step_reads (any_rescue go) t f h = rescue_reads t go f h
  step_reads (rescue_clause go) t f h =
      reads_otherwise (rescue_clause_step t go) (step (go None) t) (Then f t) (rescue_clause_reads t go f h) (step_reads (go None) t f (h None))
  step_reads (another_size ns go) t f h =
      reads_otherwise (size_step t ns go) (step (go ns) t) (Then f t) (size_reads t ns go f h) (step_reads (go ns) t f (num_stop ns go f h))
  step_reads (any_sub go) t f h = in_sub_reads t go f h
  step_reads (another_sub ss go) t f h =
      reads_otherwise (subs_step t ss go) (step (go ss) t) (Then f t) (subs_reads t ss go f h) (step_reads (go ss) t f (sub_stop ss go f h))
  step_reads (another_port ps go) t f h =
      reads_otherwise (port_step t ps go) (step (go ps) t) (Then f t) (port_reads t ps go f h) (step_reads (go ps) t f (port_stop ps go f h))
  step_reads (another_arg xs go) t f h =
      reads_otherwise (arg_step t xs go) (step (go xs) t) (Then f t) (arg_reads t xs go f h) (step_reads (go xs) t f (arg_stop xs go f h))
  step_reads (any_out go) t f h = any_out_reads t go f h
  step_reads (another_out xs go) t f h =
      reads_otherwise (out_step t xs go) (step (go xs) t) (Then f t) (out_reads t xs go f h) (step_reads (go xs) t f (out_stop xs go f h))
  step_reads (another_call cs go) t f h =
      reads_otherwise (call_step t cs go) (step (go cs) t) (Then f t) (call_reads t cs go f h) (step_reads (go cs) t f (call_stop cs go f h))
  step_reads (another_local ls go) t f h =
      reads_otherwise (local_step t ls go) (step (go ls) t) (Then f t) (local_reads t ls go f h) (step_reads (go ls) t f (local_stop ls go f h))
  step_reads (operand h') t f h = operand_reads t h' f h
  step_reads (another_index is go) t f h =
      reads_otherwise (index_step t is go) (step (go is) t) (Then f t) (index_reads t is go f h) (step_reads (go is) t f (index_stop is go f h))
  step_reads (value e h') t f h =
      read_by (step (value e h') t) (Then f t) (λ r. h.1 (spell h.0 (t ∷ r))) (inside f (λ r. h.1 (spell h.0 r)) (λ r. t ∷ r) h.2)
      (value_reads h' e t h.0 h.1 (omega (arith, level_of_small (infix_of t), h.4)) (omega (arith, need_small h', h.4)) h.3 h.5 h.6)
  step_reads (another_stmt c go) t f h =
      reads_otherwise (stmt_step t c go) (step (go c) t) (Then f t) (stmt_reads t c go f h) (step_reads (go c) t f (stmt_stop c go f h))
  step_reads (maybe_else c e b go) t f h =
      let d = join c (if_ e b done) in
      reads_otherwise (else_step t c e b go) (otherwise (stmt_step t d go) (step (go d) t)) (Then f t) (else_reads t c e b go f h)
      (reads_otherwise (stmt_step t d go) (step (go d) t) (Then f t) (stmt_reads t d go f h.0) (step_reads (go d) t f (stmt_stop d go f h.0)))

  pub value_reads : (h : Hole) (e : Phrase) (t : Symbol) (w : Formula) (g : List Symbol → List Symbol) → level_of (infix_of t) ≤ tight w → need h ≤ tight w → IsGrouped w → tree w ≡ e → IsHole h g → IfRead (value_step h e t) (λ r. g (spell w (t ∷ r)))
  value_reads (whole go) e t w g l n gw te hh =
      reads_otherwise (operator_step (infix_of t) e (whole go)) (step (go e) t) (λ r. g (spell w (t ∷ r)))
      (operator_reads t e w (whole go) g (infix_of t) refl 0 (omega arith) (λ o p. omega arith) l gw te hh)
      (step_reads (go e) t (λ r. g (spell w r)) (read_as go (tree w) e (λ r. g (spell w r)) te (hh w gw)))
  value_reads (after_unary o h) e t w g l n gw te hh =
      read_by (value_step h (unary o e) t) (λ r. g (spell w (t ∷ r))) (λ r. hh.0 (spell (prefix o w) (t ∷ r))) (inside g (λ r. hh.0 (sign (unary_mark o) ∷ r)) (λ r. spell w (t ∷ r)) hh.1)
      (value_reads h (unary o e) t (prefix o w) hh.0 (omega (arith, level_of_small (infix_of t))) hh.2 (n, gw) (ap (unary o) te) hh.3)
  value_reads (after_binary o a h) e t w g l n gw te hh =
      by_test (λ r. g (spell w (t ∷ r))) (nat_le (level_of (infix_of t)) (level o)) _ _
      (λ p. read_by (value_step h (binary o a e) t) (λ r. g (spell w (t ∷ r))) (λ r. hh.1 (spell (infix_ o hh.0 w) (t ∷ r))) (inside g (λ r. hh.1 (spell hh.0 (sign (marks.Operator o) ∷ r))) (λ r. spell w (t ∷ r)) hh.2)
      (value_reads h (binary o a e) t (infix_ o hh.0 w) hh.1 (le_of_true _ _ p) hh.3 (hh.4, n, hh.5, gw) (ap (λ q. binary o q (tree w)) hh.6 ∙ ap (binary o a) te) hh.7))
      (λ p. operator_reads t e w (after_binary o a h) g (infix_of t) refl (suc (level o)) (omega arith) (λ o' q. tighter (infix_of t) (level o) o' q (lt_of_false _ _ p)) l gw te hh)
    where
      tighter : (q : Option BinOp) (n : ℕ) (o : BinOp) → q ≡ Some o → n < level_of q → suc n ≤ level o
      tighter q n o p l = let P : Option BinOp → Type 0 = λ x. n < level_of x in subst P p l

bind_reads : (o : Option Parser) (t : Symbol) (ts : List Symbol) (f : List Symbol → List Symbol) → ((s : Parser) (f : List Symbol → List Symbol) → IsRead s f → IfRead (run s ts) (λ r. f (ts ++ r))) → IfRead o (Then f t) → IfRead (bind o (λ s. run s ts)) (λ r. f ((t ∷ ts) ++ r))
bind_reads None t ts f ih h = tt
bind_reads (Some s) t ts f ih h = ih s (Then f t) h

-- the parser keeps all symbols that it reads in its state
pub run_reads : (ts : List Symbol) (s : Parser) (f : List Symbol → List Symbol) → IsRead s f → IfRead (run s ts) (λ r. f (ts ++ r))
run_reads [] s f h = h
run_reads (t ∷ ts) s f h = bind_reads (step s t) t ts f (run_reads ts) (step_reads s t f h)

pub starts_read : IsRead (entries []) (λ r. r)
starts_read = ([], tt, refl, refl)

-- the program that was read is written so
pub run_derives : (ts : List Symbol) (es : List EntryTree) → run (entries []) ts ≡ Some (entries es) → Derives ts es
run_derives ts es h =
    let P : Option Parser → Type 0 = λ o. IfRead o (λ r. ts ++ r) in
    let here = subst P h (run_reads ts (entries []) (λ r. r) starts_read) in
    record { written = here.0; is_text = here.1; spelled = sym (append-nil ts) ∙ ap (λ q. q []) here.2; tree_is = here.3 }
