-- Completeness of the parser: it reads every spelling of expressions, statements, and whole texts.
use Rattle.std.proofs.Common.{◌≡◌, ℕ, ◌<◌, ◌≤◌, List, [], ◌∷◌, ◌++◌, Option, Some, None, Bool, true, false, refl, sym, ap, ◌∙◌, arith, append_assoc, append-nil}
use Rattle.std.specs.Prelude.{nat_le}
use Rattle.std.proofs.lemmas.Bool.Decides.{nat_tests}
use Rattle.p3l_ast.specs.declared.position.Spot.{Spot}
use Rattle.p3l_ast.specs.declared.port.Num.{Num}
use Rattle.p3l_ast.specs.declared.port.Num.TheVariants.{Digits, Named}
use Rattle.p3l_ast.specs.declared.port.Port.{Port}
use Rattle.p3l_ast.specs.declared.call.Call.{Call}
use Rattle.p3l_ast.specs.declared.expression.UnOp.{UnOp}
use Rattle.p3l_ast.specs.declared.expression.UnOp.TheVariants.{Neg, Not, Flip}
use Rattle.p3l_ast.specs.declared.expression.BinOp.{BinOp}
use Rattle.p3l_ast.specs.declared.expression.BinOp.TheVariants as ops
use Rattle.p3l_ast.specs.declared.module.Kind.{Kind}
use Rattle.p3l_ast.specs.declared.module.Kind.TheVariants as kinds
use Rattle.p3l_ast.specs.declared.module.Rescue.{Rescue}
use Rattle.p3l_ast.specs.Tree.{Phrase, read, binary, Phrases, none, more, snoc, Statements, done, assign, if_, if_else, while_, for_, join, EntryTree}
use Rattle.p3l_ast.proofs.Trees.{join_done, join_join}
use Rattle.p3l_lexer.specs.declared.mark.Mark.{Mark}
use Rattle.p3l_lexer.specs.declared.mark.Mark.TheVariants as marks
use Rattle.p3l_ast.specs.Notation.{level}
use Rattle.p3l_grammar.specs.Symbol.{Symbol, sign, unary_mark, kind_mark}
use Rattle.p3l_grammar.specs.Written as written
use Rattle.p3l_grammar.specs.Written.{Formula, numeral, place, prefix, infix_, paren, Formulas, no_index, index, Script, stop, set, Signature, Passage, fixed, bodied, chained, spread, turned, tight, IsGrouped, AreGrouped, IsScript, HasOne, IsSignature, IsCall, AreCalls, IsPassage, IsText, each, num_symbol, spell_call, spell, spell_index, spell_set, spell_script, spell_signature, spell_clause, spell_signed, spell_rescue_clause, spell_local, spell_end, spell_passage, spell_text, tree, trees, script_tree, passage_tree, text_tree}
use Rattle.p3l_grammar.specs.Parser.{need, Parser, entries, await, any_num, clause, any_rescue, rescue_clause, another_call, another_local, operand, another_index, value, another_stmt, maybe_else, Hole, whole, after_unary, after_binary, expression, call, block, setting_from, setting, end_of, otherwise, operand_step, infix_of, level_of, operator_step, step, value_step}
use Rattle.p3l_grammar.proofs.Runs.{bind, run}
use Rattle.p3l_grammar.proofs.Signatures.{bodied_tree, chained_tree, spread_tree, turned_tree, bodied_from, chain_from, piped_from, composed_from, spread_from, turned_from, PassesLocal, locals_run, signature_runs, call_from_runs, more_calls_run, num_runs}

pub level_small : (o : BinOp) → level o ≤ 9
level_small ops.Or = omega arith
level_small _ = omega arith

pub le_true : (m n : ℕ) → m ≤ n → nat_le m n ≡ true
le_true m n h = grind (arith, nat_tests)

pub le_false : (m n : ℕ) → n < m → nat_le m n ≡ false
le_false m n h = grind (arith, nat_tests)

pub unary_starts : (o : UnOp) (h : Hole) → operand_step (sign (unary_mark o)) h ≡ Some (operand (after_unary o h))
unary_starts Neg h = refl
unary_starts Not h = refl
unary_starts Flip h = refl

pub operator_starts : (o : BinOp) (h : Hole) (e : Phrase) (t : Symbol) → infix_of t ≡ Some o → need h ≤ level o → value_step h e t ≡ Some (operand (after_binary o e h))
operator_starts o (whole go) e t p l = rw p refl
operator_starts o (after_unary u h) e t p l = absurd (omega (arith, level_small o))
operator_starts o (after_binary a x h) e t p l = rw (p, le_false (level o) (level a) l) refl

-- a tighter operator is put together
pub joins : (o : BinOp) (a e : Phrase) (h : Hole) (t : Symbol) → level_of (infix_of t) ≤ level o → value_step (after_binary o a h) e t ≡ value_step h (binary o a e) t
joins o a e h t l = rw (le_true (level_of (infix_of t)) (level o) l) refl

-- no index comes first
abbrev pub PassesIndex : Symbol → Type 0
PassesIndex t = (is : Phrases) (go : Phrases → Parser) → step (another_index is go) t ≡ step (go is) t

-- indices one after another
abbrev pub adds : Phrases → Phrases → Phrases
adds none js = js
adds (more e is) js = more e (adds is js)

pub adds_none : (is : Phrases) → adds is none ≡ is
adds_none none = refl
adds_none (more e is) = ap (more e) (adds_none is)

pub adds_snoc : (is js : Phrases) (e : Phrase) → adds (snoc is e) js ≡ adds is (more e js)
adds_snoc none js e = refl
adds_snoc (more d is) js e = ap (more d) (adds_snoc is js e)

operator_no_index : (o : BinOp) → PassesIndex (sign (marks.Operator o))
operator_no_index o is go = refl

pub run_by : (s s' : Parser) (t : Symbol) (r : List Symbol) → step s t ≡ step s' t → run s (t ∷ r) ≡ run s' (t ∷ r)
run_by s s' t r p = ap (λ q. bind q (λ x. run x r)) p

mutual
  -- an expression is read, up to what follows it
  pub formula_runs : (e : Formula) (h : Hole) (t : Symbol) (r : List Symbol) → IsGrouped e → need h ≤ tight e → level_of (infix_of t) ≤ tight e → PassesIndex t → run (operand h) (spell e (t ∷ r)) ≡ run (value (tree e) h) (t ∷ r)
  formula_runs (numeral v p) h t r g n l i = refl
  formula_runs (place x is) h t r g n l i = index_runs is none (λ js. value (read x js) h) t r g i
  formula_runs (prefix o e) h t r g n l i =
      ap (λ q. bind q (λ s. run s (spell e (t ∷ r)))) (unary_starts o h)
      ∙ formula_runs e (after_unary o h) t r g.1 g.0 (omega (arith, g.0, l)) i
  formula_runs (infix_ o a b) h t r g n l i =
      let s = sign (marks.Operator o) in
      let first : run (operand h) (spell a (s ∷ spell b (t ∷ r))) ≡ run (value (tree a) h) (s ∷ spell b (t ∷ r)) =
      formula_runs a h s (spell b (t ∷ r)) g.2 (omega (arith, g.0, n)) g.0 (operator_no_index o) in
      let turn : run (value (tree a) h) (s ∷ spell b (t ∷ r)) ≡ run (operand (after_binary o (tree a) h)) (spell b (t ∷ r)) =
      ap (λ q. bind q (λ s'. run s' (spell b (t ∷ r)))) (operator_starts o h (tree a) s refl n) in
      let second : run (operand (after_binary o (tree a) h)) (spell b (t ∷ r)) ≡ run (value (tree b) (after_binary o (tree a) h)) (t ∷ r) =
      formula_runs b (after_binary o (tree a) h) t r g.3 g.1 (omega (arith, g.1, l)) i in
      first ∙ turn ∙ second ∙ ap (λ q. bind q (λ s'. run s' r)) (joins o (tree a) (tree b) h t l)
  formula_runs (paren e) h t r g n l i =
      formula_runs e (whole (λ d. await marks.CloseParen (value d h))) (sign marks.CloseParen) (t ∷ r) g (omega arith) (omega arith) (λ js go. refl)

  pub index_runs : (is : Formulas) (js : Phrases) (go : Phrases → Parser) (t : Symbol) (r : List Symbol) → AreGrouped is → PassesIndex t → run (another_index js go) (spell_index is (t ∷ r)) ≡ run (go (adds js (trees is))) (t ∷ r)
  index_runs no_index js go t r g i =
      run_by (another_index js go) (go js) t r (i js go) ∙ ap (λ q. run (go q) (t ∷ r)) (sym (adds_none js))
  index_runs (index e is) js go t r g i =
      formula_runs e (whole (λ d. await marks.CloseBracket (another_index (snoc js d) go))) (sign marks.CloseBracket) (spell_index is (t ∷ r)) g.0 (omega arith) (omega arith) (λ ks go'. refl)
      ∙ index_runs is (snoc js (tree e)) go t r g.1 i
      ∙ ap (λ q. run (go q) (t ∷ r)) (adds_snoc js (trees is) (tree e))

-- an expression up to a mark that ends it
pub ends_at : (m : Mark) (e : Formula) (go : Phrase → Parser) (r : List Symbol) → IsGrouped e → infix_of (sign m) ≡ None → PassesIndex (sign m) → run (expression go) (spell e (sign m ∷ r)) ≡ run (go (tree e)) (sign m ∷ r)
ends_at m e go r g p i =
    formula_runs e (whole go) (sign m) r g (omega arith) (rw p (omega arith)) i
    ∙ ap (λ q. bind (otherwise (operator_step q (tree e) (whole go)) (step (go (tree e)) (sign m))) (λ s. run s r)) p

setting_runs : (m : Mark) (x : Spot) (is : Formulas) (e : Formula) (go : Phrases → Phrase → Parser) (r : List Symbol) → AreGrouped is → IsGrouped e → infix_of (sign m) ≡ None → PassesIndex (sign m) → run (setting_from x go) (spell_index is (sign marks.Assign ∷ spell e (sign m ∷ r))) ≡ run (go (trees is) (tree e)) (sign m ∷ r)
setting_runs m x is e go r g h p i =
    index_runs is none (λ js. await marks.Assign (expression (go js))) (sign marks.Assign) (spell e (sign m ∷ r)) g (λ ks go'. refl)
    ∙ ends_at m e (go (trees is)) r h p i

-- no statement comes first
abbrev pub PassesStmt : List Symbol → Type 0
PassesStmt r = (c : Statements) (go : Statements → Parser) → run (another_stmt c go) r ≡ run (go c) r

-- neither does an `else`
abbrev pub PassesElse : List Symbol → Type 0
PassesElse r = (c t : Statements) (e : Phrase) (go : Statements → Parser) → run (maybe_else c e t go) r ≡ run (go (join c (if_ e t done))) r

-- no statement begins with `else`
else_later : (d c b : Statements) (s : Script) (e : Phrase) (go : Statements → Parser) (r : List Symbol) → PassesStmt r → PassesElse r → run (maybe_else c e b go) (spell_script s r) ≡ run (another_stmt (join c (if_ e b done)) go) (spell_script s r)
else_later d c b stop e go r h i = i c b e go ∙ sym (h (join c (if_ e b done)) go)
else_later d c b (set x is f s) e go r h i = refl
else_later d c b (written.if_ f t s) e go r h i = refl
else_later d c b (written.if_else f t u s) e go r h i = refl
else_later d c b (written.while_ f t s) e go r h i = refl
else_later d c b (written.for_ x is f w y js k t s) e go r h i = refl

brace_no_stmt : (r : List Symbol) → PassesStmt (sign marks.CloseBrace ∷ r)
brace_no_stmt r c go = refl

brace_no_else : (r : List Symbol) → PassesElse (sign marks.CloseBrace ∷ r)
brace_no_else r c t e go = refl

again : (go : Statements → Parser) (r : List Symbol) (b d c : Statements) → run (go (join (join b d) c)) r ≡ run (go (join b (join d c))) r
again go r b d c = ap (λ q. run (go q) r) (join_join b d c)

-- statements are read, up to what follows them
pub script_runs : (d : Script) (b : Statements) (go : Statements → Parser) (r : List Symbol) → IsScript d → PassesStmt r → PassesElse r → run (another_stmt b go) (spell_script d r) ≡ run (go (join b (script_tree d))) r
script_runs stop b go r g h i = h b go ∙ ap (λ q. run (go q) r) (sym (join_done b))
script_runs (set x is e d) b go r g h i =
    setting_runs marks.Semicolon x is e (λ js f. await marks.Semicolon (another_stmt (join b (assign x js f done)) go)) (spell_script d r) g.0 g.1 refl (λ ks go'. refl)
    ∙ script_runs d (join b (assign x (trees is) (tree e) done)) go r g.2 h i
    ∙ again go r b (assign x (trees is) (tree e) done) (script_tree d)
script_runs (written.if_ e t d) b go r g h i =
    ends_at marks.CloseParen e (λ f. await marks.CloseParen (block (λ u. maybe_else b f u go))) (sign marks.OpenBrace ∷ spell_script t (sign marks.CloseBrace ∷ spell_script d r)) g.0 refl (λ ks go'. refl)
    ∙ script_runs t done (λ u. await marks.CloseBrace (maybe_else b (tree e) u go)) (sign marks.CloseBrace ∷ spell_script d r) g.1 (brace_no_stmt (spell_script d r)) (brace_no_else (spell_script d r))
    ∙ else_later done b (script_tree t) d (tree e) go r h i
    ∙ script_runs d (join b (if_ (tree e) (script_tree t) done)) go r g.2 h i
    ∙ again go r b (if_ (tree e) (script_tree t) done) (script_tree d)
script_runs (written.if_else e t f d) b go r g h i =
    let rest = spell_script d r in
    let other = sign marks.Else ∷ sign marks.OpenBrace ∷ spell_script f (sign marks.CloseBrace ∷ rest) in
    ends_at marks.CloseParen e (λ k. await marks.CloseParen (block (λ u. maybe_else b k u go))) (sign marks.OpenBrace ∷ spell_script t (sign marks.CloseBrace ∷ other)) g.0 refl (λ ks go'. refl)
    ∙ script_runs t done (λ u. await marks.CloseBrace (maybe_else b (tree e) u go)) (sign marks.CloseBrace ∷ other) g.1 (brace_no_stmt other) (brace_no_else other)
    ∙ script_runs f done (λ u. await marks.CloseBrace (another_stmt (join b (if_else (tree e) (script_tree t) u done)) go)) (sign marks.CloseBrace ∷ rest) g.2 (brace_no_stmt rest) (brace_no_else rest)
    ∙ script_runs d (join b (if_else (tree e) (script_tree t) (script_tree f) done)) go r g.3 h i
    ∙ again go r b (if_else (tree e) (script_tree t) (script_tree f) done) (script_tree d)
script_runs (written.while_ e t d) b go r g h i =
    let rest = spell_script d r in
    ends_at marks.CloseParen e (λ k. await marks.CloseParen (block (λ u. another_stmt (join b (while_ k u done)) go))) (sign marks.OpenBrace ∷ spell_script t (sign marks.CloseBrace ∷ rest)) g.0 refl (λ ks go'. refl)
    ∙ script_runs t done (λ u. await marks.CloseBrace (another_stmt (join b (while_ (tree e) u done)) go)) (sign marks.CloseBrace ∷ rest) g.1 (brace_no_stmt rest) (brace_no_else rest)
    ∙ script_runs d (join b (while_ (tree e) (script_tree t) done)) go r g.2 h i
    ∙ again go r b (while_ (tree e) (script_tree t) done) (script_tree d)
script_runs (written.for_ x is e w y js f t d) b go r g h i =
    let rest = spell_script d r in
    let go_on = λ (is' : Phrases) (e' w' : Phrase) (js' : Phrases) (f' : Phrase) (t' : Statements). another_stmt (join b (for_ x is' e' w' y js' f' t' done)) go in
    let third = λ (is' : Phrases) (e' w' : Phrase) (js' : Phrases) (f' : Phrase). await marks.CloseParen (block (go_on is' e' w' js' f')) in
    let second = λ (is' : Phrases) (e' w' : Phrase). await marks.Semicolon (setting (λ y' js' f'. await marks.CloseParen (block (λ t'. another_stmt (join b (for_ x is' e' w' y' js' f' t' done)) go)))) in
    let first = λ (is' : Phrases) (e' : Phrase). await marks.Semicolon (expression (second is' e')) in
    setting_runs marks.Semicolon x is e first (spell w (sign marks.Semicolon ∷ spell_set y js f (sign marks.CloseParen ∷ sign marks.OpenBrace ∷ spell_script t (sign marks.CloseBrace ∷ rest)))) g.0 g.1 refl (λ ks go'. refl)
    ∙ ends_at marks.Semicolon w (second (trees is) (tree e)) (spell_set y js f (sign marks.CloseParen ∷ sign marks.OpenBrace ∷ spell_script t (sign marks.CloseBrace ∷ rest))) g.2 refl (λ ks go'. refl)
    ∙ setting_runs marks.CloseParen y js f (third (trees is) (tree e) (tree w)) (sign marks.OpenBrace ∷ spell_script t (sign marks.CloseBrace ∷ rest)) g.3 g.4 refl (λ ks go'. refl)
    ∙ script_runs t done (λ u. await marks.CloseBrace (go_on (trees is) (tree e) (tree w) (trees js) (tree f) u)) (sign marks.CloseBrace ∷ rest) g.5 (brace_no_stmt rest) (brace_no_else rest)
    ∙ script_runs d (join b (for_ x (trees is) (tree e) (tree w) y (trees js) (tree f) (script_tree t) done)) go r g.6 h i
    ∙ again go r b (for_ x (trees is) (tree e) (tree w) y (trees js) (tree f) (script_tree t) done) (script_tree d)

-- statements begin with no local variable
script_no_local : (c : Script) (r : List Symbol) → PassesLocal (spell_script c (sign marks.CloseBody ∷ r))
script_no_local stop r ls go = refl
script_no_local (set x is e c) r ls go = refl
script_no_local (written.if_ e t c) r ls go = refl
script_no_local (written.if_else e t f c) r ls go = refl
script_no_local (written.while_ e t c) r ls go = refl
script_no_local (written.for_ x is e w y js f t c) r ls go = refl

-- a number after a minus or without one
signed_runs : (minus : Bool) (n : Num) (go : Rescue → Parser) (r : List Symbol) → run (any_rescue go) (spell_signed minus n r) ≡ run (go (record { minus = minus; num = n })) r
signed_runs true n go r = num_runs n (λ m. go (record { minus = true; num = m })) r
signed_runs false (Digits v p) go r = refl
signed_runs false (Named x) go r = refl

-- a rescue or none, before the body of a `seq` and before the first call of a `comp`

body_rescue_runs : (x : Option Rescue) (go : Option Rescue → Parser) (r : List Symbol) → run (rescue_clause go) (spell_rescue_clause x (sign marks.OpenBody ∷ r)) ≡ run (go x) (sign marks.OpenBody ∷ r)
body_rescue_runs None go r = refl
body_rescue_runs (Some x) go r = signed_runs x.minus x.num (λ y. go (Some y)) (sign marks.OpenBody ∷ r)

call_rescue_runs : (x : Option Rescue) (go : Option Rescue → Parser) (c : Call) (r : List Symbol) → run (rescue_clause go) (spell_rescue_clause x (spell_call c r)) ≡ run (go x) (spell_call c r)
call_rescue_runs None go c r = refl
call_rescue_runs (Some x) go c r = signed_runs x.minus x.num (λ y. go (Some y)) (spell_call c r)

budget_runs : (b : Option Num) (x : Option Rescue) (go : Option Num → Parser) (r : List Symbol) → run (clause marks.Budget go) (spell_clause marks.Budget b (spell_rescue_clause x (sign marks.OpenBody ∷ r))) ≡ run (go b) (spell_rescue_clause x (sign marks.OpenBody ∷ r))
budget_runs None None go r = refl
budget_runs None (Some x) go r = refl
budget_runs (Some n) x go r = num_runs n (λ m. go (Some m)) (spell_rescue_clause x (sign marks.OpenBody ∷ r))

workers_run : (w : Option Num) (go : Option Num → Parser) (c : Call) (r : List Symbol) → run (clause marks.Workers go) (spell_clause marks.Workers w (spell_call c r)) ≡ run (go w) (spell_call c r)
workers_run None go c r = refl
workers_run (Some n) go c r = num_runs n (λ m. go (Some m)) (spell_call c r)

tokens_run : (w : Option Num) (go : Option Num → Parser) (c : Call) (r : List Symbol) → run (clause marks.Tokens go) (spell_clause marks.Tokens w (spell_call c r)) ≡ run (go w) (spell_call c r)
tokens_run None go c r = refl
tokens_run (Some n) go c r = num_runs n (λ m. go (Some m)) (spell_call c r)

-- the calls of a `pipe` or a `comp`
chain_runs : (k : Kind) (h : Signature) (x : Option Rescue) (c : Call) (cs : List Call) (go : EntryTree → Parser) (r : List Symbol) → IsCall c → AreCalls cs → run (chain_from k h x go) (each spell_call (c ∷ cs) (spell_end k r)) ≡ run (end_of k (go (chained_tree k h x (c ∷ cs)))) (spell_end k r)
chain_runs k h x c cs go r i j =
    let after = λ (ds : List Call). end_of k (go (chained_tree k h x ds)) in
    call_from_runs c (λ d. another_call (d ∷ []) after) (each spell_call cs (spell_end k r)) i
    ∙ more_calls_run cs (c ∷ []) after marks.End (sign (kind_mark k) ∷ r) j

piped_runs : (h : Signature) (cs : List Call) (go : EntryTree → Parser) (r : List Symbol) → IsSignature h → HasOne cs → AreCalls cs → run (piped_from go) (spell_signature h (each spell_call cs (spell_end kinds.Pipe r))) ≡ run (go (chained_tree kinds.Pipe h None cs)) r
piped_runs h [] go r j l m = absurd l
piped_runs h (c ∷ cs) go r j l m =
    signature_runs h (λ g. chain_from kinds.Pipe g None go) (each spell_call (c ∷ cs) (spell_end kinds.Pipe r)) j
    ∙ chain_runs kinds.Pipe h None c cs go r m.0 m.1

composed_runs : (h : Signature) (x : Option Rescue) (cs : List Call) (go : EntryTree → Parser) (r : List Symbol) → IsSignature h → HasOne cs → AreCalls cs → run (composed_from go) (spell_signature h (spell_rescue_clause x (each spell_call cs (spell_end kinds.Comp r)))) ≡ run (go (chained_tree kinds.Comp h x cs)) r
composed_runs h x [] go r j l m = absurd l
composed_runs h x (c ∷ cs) go r j l m =
    signature_runs h (λ g. rescue_clause (λ y. chain_from kinds.Comp g y go)) (spell_rescue_clause x (each spell_call (c ∷ cs) (spell_end kinds.Comp r))) j
    ∙ call_rescue_runs x (λ y. chain_from kinds.Comp h y go) c (each spell_call cs (spell_end kinds.Comp r))
    ∙ chain_runs kinds.Comp h x c cs go r m.0 m.1

kind_ends : (k : Kind) (s : Parser) (r : List Symbol) → run (end_of k s) (spell_end k r) ≡ run s r
kind_ends kinds.Seq s r = refl
kind_ends kinds.Comp s r = refl
kind_ends kinds.Pipe s r = refl
kind_ends kinds.Farm s r = refl
kind_ends kinds.Map s r = refl
kind_ends kinds.Reduce s r = refl
kind_ends kinds.Loop s r = refl

spread_runs : (k : Kind) (h : Signature) (w : Option Num) (c : Call) (go : EntryTree → Parser) (r : List Symbol) → IsSignature h → IsCall c → run (spread_from k go) (spell_signature h (spell_clause marks.Workers w (spell_call c (spell_end k r)))) ≡ run (go (spread_tree k h w c)) r
spread_runs k h w c go r i j =
    let last = λ (h' : Signature) (w' : Option Num) (d : Call). end_of k (go (spread_tree k h' w' d)) in
    signature_runs h (λ h'. clause marks.Workers (λ w'. call (last h' w'))) (spell_clause marks.Workers w (spell_call c (spell_end k r))) i
    ∙ workers_run w (λ w'. call (last h w')) c (spell_end k r)
    ∙ call_from_runs c (last h w) (spell_end k r) j
    ∙ kind_ends k (go (spread_tree k h w c)) r

turned_runs : (h : Signature) (t : Num) (n : Option Num) (b c : Call) (go : EntryTree → Parser) (r : List Symbol) → IsSignature h → IsCall b → IsCall c → run (turned_from go) (spell_signature h (sign marks.Turns ∷ num_symbol t ∷ spell_clause marks.Tokens n (spell_call b (sign marks.While ∷ spell_call c (spell_end kinds.Loop r))))) ≡ run (go (turned_tree h t n b c)) r
turned_runs h t n b c go r i j l =
    let last = λ (h' : Signature) (t' : Num) (n' : Option Num) (b' c' : Call). end_of kinds.Loop (go (turned_tree h' t' n' b' c')) in
    let bodies = λ (h' : Signature) (t' : Num) (n' : Option Num). call (λ b'. await marks.While (call (last h' t' n' b'))) in
    let rest = spell_call b (sign marks.While ∷ spell_call c (spell_end kinds.Loop r)) in
    signature_runs h (λ h'. await marks.Turns (any_num (λ t'. clause marks.Tokens (bodies h' t')))) (sign marks.Turns ∷ num_symbol t ∷ spell_clause marks.Tokens n rest) i
    ∙ num_runs t (λ t'. clause marks.Tokens (bodies h t')) (spell_clause marks.Tokens n rest)
    ∙ tokens_run n (bodies h t) b (sign marks.While ∷ spell_call c (spell_end kinds.Loop r))
    ∙ call_from_runs b (λ b'. await marks.While (call (last h t n b'))) (sign marks.While ∷ spell_call c (spell_end kinds.Loop r)) j
    ∙ call_from_runs c (last h t n b) (spell_end kinds.Loop r) l

bodied_runs : (h : Signature) (b : Option Num) (x : Option Rescue) (ls : List Port) (c : Script) (go : EntryTree → Parser) (r : List Symbol) → IsSignature h → IsScript c → run (bodied_from go) (spell_signature h (spell_clause marks.Budget b (spell_rescue_clause x (sign marks.OpenBody ∷ each spell_local ls (spell_script c (sign marks.CloseBody ∷ spell_end kinds.Seq r)))))) ≡ run (go (bodied_tree h b x ls (script_tree c))) r
bodied_runs h b x ls c go r i j =
    let last = λ (h' : Signature) (b' : Option Num) (x' : Option Rescue) (ls' : List Port) (c' : Statements). await marks.CloseBody (end_of kinds.Seq (go (bodied_tree h' b' x' ls' c'))) in
    let inside = λ (h' : Signature) (b' : Option Num) (x' : Option Rescue). another_local [] (λ ls'. another_stmt done (last h' b' x' ls')) in
    let rest = spell_script c (sign marks.CloseBody ∷ spell_end kinds.Seq r) in
    signature_runs h (λ h'. clause marks.Budget (λ b'. rescue_clause (λ x'. await marks.OpenBody (inside h' b' x')))) (spell_clause marks.Budget b (spell_rescue_clause x (sign marks.OpenBody ∷ each spell_local ls rest))) i
    ∙ budget_runs b x (λ b'. rescue_clause (λ x'. await marks.OpenBody (inside h b' x'))) (each spell_local ls rest)
    ∙ body_rescue_runs x (λ x'. await marks.OpenBody (inside h b x')) (each spell_local ls rest)
    ∙ locals_run ls [] (λ ls'. another_stmt done (last h b x ls')) rest (script_no_local c (spell_end kinds.Seq r))
    ∙ script_runs c done (last h b x ls) (sign marks.CloseBody ∷ spell_end kinds.Seq r) j (λ d go'. refl) (λ d t e go'. refl)

pub passage_runs : (i : Passage) (es : List EntryTree) (r : List Symbol) → IsPassage i → run (entries es) (spell_passage i r) ≡ run (entries (es ++ passage_tree i ∷ [])) r
passage_runs (fixed x v p) es r h = refl
passage_runs (bodied h b x ls c) es r g = bodied_runs h b x ls c (λ e. entries (es ++ e ∷ [])) r g.0 g.1
passage_runs (chained kinds.Pipe h None cs) es r g = piped_runs h cs (λ e. entries (es ++ e ∷ [])) r g.1 g.2 g.3
passage_runs (chained kinds.Comp h x cs) es r g = composed_runs h x cs (λ e. entries (es ++ e ∷ [])) r g.1 g.2 g.3
passage_runs (chained _ h x cs) es r g = absurd g.0
passage_runs (spread kinds.Farm h w c) es r g = spread_runs kinds.Farm h w c (λ e. entries (es ++ e ∷ [])) r g.1 g.2
passage_runs (spread kinds.Map h w c) es r g = spread_runs kinds.Map h w c (λ e. entries (es ++ e ∷ [])) r g.1 g.2
passage_runs (spread kinds.Reduce h w c) es r g = spread_runs kinds.Reduce h w c (λ e. entries (es ++ e ∷ [])) r g.1 g.2
passage_runs (spread _ h w c) es r g = absurd g.0
passage_runs (turned h t n b c) es r g = turned_runs h t n b c (λ e. entries (es ++ e ∷ [])) r g.0 g.1 g.2

-- a whole text is read
pub text_runs : (is : List Passage) (es : List EntryTree) → IsText is → run (entries es) (spell_text is []) ≡ Some (entries (es ++ text_tree is))
text_runs [] es g = ap (λ q. Some (entries q)) (sym (append-nil es))
text_runs (i ∷ is) es g =
    passage_runs i es (spell_text is []) g.0
    ∙ text_runs is (es ++ passage_tree i ∷ []) g.1
    ∙ ap (λ q. Some (entries q)) (append_assoc es (passage_tree i ∷ []) (text_tree is))
