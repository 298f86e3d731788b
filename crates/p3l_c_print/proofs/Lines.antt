-- The lines of statements, and their temps, by what these are made of.
use Rattle.std.proofs.Common.{◌≡◌, ℕ, ◌+◌, ◌<◌, ◌≤◌, drop, get_or, length, List, [], ◌∷◌, ◌++◌, Some, None, refl, sym, ap, ◌∙◌, append_assoc, append-nil, max, arith, Option}
use Rattle.std.proofs.lemmas.List.{drop_more, drop_all}
use Rattle.std.specs.declared.vec.Vec.{Vec}
use Rattle.std.specs.declared.alloc.Global.{Global}
use Rattle.p3l_base.specs.declared.outcome.TrapKind.TheVariants.{Budget}
use Rattle.p3l_ast.specs.declared.expression.Expr.{Expr}
use Rattle.p3l_ast.specs.declared.expression.Target.{Target}
use Rattle.p3l_ast.specs.declared.statement.Stmt.{Stmt}
use Rattle.p3l_ast.specs.declared.statement.Stmt.TheVariants.{Assign, If, While, For}
use Rattle.p3l_ast.specs.Tree as tree
use Rattle.p3l_ast.specs.Tree.{Phrase, Phrases, Statements, assign, if_, if_else, while_, for_, read, phrase, phrases, one, statements, join}
use Rattle.p3l_ast.proofs.Trees.{one_assign, one_if, one_if_else, one_while, one_for}
use Rattle.p3l_c.specs.Syntax.{Lines, done, write, choose, forever}
use Rattle.p3l_c.specs.Translate as c
use Rattle.p3l_c.specs.Translate.{Shapes, sizes_at, next, next_all, spots, height, value, before, before_all, assign_lines, turn_lines, lines}
use Rattle.p3l_c_print.specs.Name.{Names, shapes_of}
use Rattle.p3l_c_print.specs.Line.{set_line, stop_line, turn_line, spent_text, deeper, choice_lines, loop_lines}
use Rattle.p3l_c_print.specs.Text.{test_text, element_text, lines_text}
use Rattle.p3l_c.specs.Temps.{assign_temps, temps_of}
use Rattle.p3l_c_print.specs.Value.{value_of, front_text, assign_text, round_text, code_text, signed_of, test_of}
use Rattle.p3l_c_print.proofs.Follow.{front_text_then, before_front, before_all_front, assign_front, lines_front}
use Rattle.p3l_c_print.proofs.Values.{signed_told, test_told}

lines_join : (shapes : Shapes) (budget : ℕ) (a b : Statements) (rest : Lines) → lines shapes budget (join a b) rest ≡ lines shapes budget a (lines shapes budget b rest)
lines_join shapes budget tree.done b rest = refl
lines_join shapes budget (assign x is e a) b rest = ap (assign_lines shapes x.name is e) (lines_join shapes budget a b rest)
lines_join shapes budget (if_ e t a) b rest =
    ap (λ r. before shapes 0 e (choose (c.test_of (value 0 e)) (lines shapes budget t done) done r)) (lines_join shapes budget a b rest)
lines_join shapes budget (if_else e t f a) b rest =
    ap (λ r. before shapes 0 e (choose (c.test_of (value 0 e)) (lines shapes budget t done) (lines shapes budget f done) r)) (lines_join shapes budget a b rest)
lines_join shapes budget (while_ e d a) b rest =
    ap (forever (before shapes 0 e done) (c.test_of (value 0 e)) (turn_lines budget (lines shapes budget d done))) (lines_join shapes budget a b rest)
lines_join shapes budget (for_ x is e w y js f d a) b rest =
    ap (λ r. assign_lines shapes x.name is e (forever (before shapes 0 w done) (c.test_of (value 0 w)) (turn_lines budget (lines shapes budget d (assign_lines shapes y.name js f done))) r)) (lines_join shapes budget a b rest)

pub code_join : (names : Names) (margin : List ℕ) (budget : ℕ) (a b : Statements) → code_text names margin budget (join a b) ≡ code_text names margin budget a ++ code_text names margin budget b
unfolding code_text
code_join names margin budget a b =
    ap (lines_text names margin) (lines_join (shapes_of names) budget a b done)
    ∙ front_text_then names margin (lines (shapes_of names) budget a) (lines (shapes_of names) budget b done) (lines_front (shapes_of names) budget a)

pub code_done : (names : Names) (margin : List ℕ) (budget : ℕ) → code_text names margin budget tree.done ≡ []
unfolding code_text lines_text
code_done names margin budget = refl

pub ruleset joins = (code_join, code_done)

-- an assignment
pub assign_is : (names : Names) (margin : List ℕ) (x : _) (is : Phrases) (e : Phrase) → assign_text names margin x.name is e
    ≡ front_text names margin 0 (read x is) ++ (front_text names margin (next_all 0 is) e ++ set_line margin (element_text names x.name (spots 0 is)) (signed_of (value_of names (next_all 0 is) e)))
unfolding assign_text front_text value_of lines_text
assign_is names margin x is e =
    let n = next_all 0 is in
    let last = write x.name (spots 0 is) (value n e) done in
    front_text_then names margin (before_all (shapes_of names) 0 (sizes_at (shapes_of names) x.name) is) (before (shapes_of names) n e last) (before_all_front (shapes_of names) 0 (sizes_at (shapes_of names) x.name) is)
    ∙ ap (λ t. front_text names margin 0 (read x is) ++ t)
    (front_text_then names margin (before (shapes_of names) n e) last (before_front (shapes_of names) n e)
    ∙ ap (λ t. front_text names margin n e ++ t) (append-nil _ ∙ ap (set_line margin (element_text names x.name (spots 0 is))) (sym (signed_told names (value n e) (next n e) (height e)))))

pub code_assign : (names : Names) (margin : List ℕ) (budget : ℕ) (x : _) (is : Phrases) (e : Phrase) → code_text names margin budget (assign x is e tree.done) ≡ assign_text names margin x.name is e
unfolding code_text assign_text
code_assign names margin budget x is e = refl

-- a test as it stands in a line
test_is : (names : Names) (e : Phrase) → test_text names (c.test_of (value 0 e)) ≡ test_of (value_of names 0 e)
unfolding value_of
test_is names e = sym (test_told names (value 0 e) (next 0 e) (height e))

pub code_if : (names : Names) (margin : List ℕ) (budget : ℕ) (e : Phrase) (a : Statements) → code_text names margin budget (if_ e a tree.done)
    ≡ front_text names margin 0 e ++ choice_lines margin (test_of (value_of names 0 e)) (code_text names (deeper margin) budget a) []
unfolding code_text front_text lines_text
code_if names margin budget e a =
    front_text_then names margin (before (shapes_of names) 0 e) (choose (c.test_of (value 0 e)) (lines (shapes_of names) budget a done) done done) (before_front (shapes_of names) 0 e)
    ∙ ap (λ t. front_text names margin 0 e ++ t) (append-nil _ ∙ ap (λ t. choice_lines margin t (code_text names (deeper margin) budget a) []) (test_is names e))

pub code_if_else : (names : Names) (margin : List ℕ) (budget : ℕ) (e : Phrase) (a b : Statements) → code_text names margin budget (if_else e a b tree.done)
    ≡ front_text names margin 0 e ++ choice_lines margin (test_of (value_of names 0 e)) (code_text names (deeper margin) budget a) (code_text names (deeper margin) budget b)
unfolding code_text front_text lines_text
code_if_else names margin budget e a b =
    front_text_then names margin (before (shapes_of names) 0 e) (choose (c.test_of (value 0 e)) (lines (shapes_of names) budget a done) (lines (shapes_of names) budget b done) done) (before_front (shapes_of names) 0 e)
    ∙ ap (λ t. front_text names margin 0 e ++ t) (append-nil _ ∙ ap (λ t. choice_lines margin t (code_text names (deeper margin) budget a) (code_text names (deeper margin) budget b)) (test_is names e))

round_is : (names : Names) (margin : List ℕ) (budget : ℕ) (rest : Lines) (a : Statements) → lines_text names margin (turn_lines budget (lines (shapes_of names) budget a rest)) ≡ round_text names margin budget a ++ lines_text names margin rest
unfolding round_text code_text lines_text test_text
round_is names margin budget rest a =
    let stop = stop_line margin (spent_text budget) Budget names.home in
    let one = code_text names margin budget a in
    let last = lines_text names margin rest in
    ap (λ t. stop ++ (turn_line margin ++ t)) (front_text_then names margin (lines (shapes_of names) budget a) rest (lines_front (shapes_of names) budget a))
    ∙ sym (append_assoc stop (turn_line margin) (one ++ last))
    ∙ sym (append_assoc (stop ++ turn_line margin) one last)

pub code_while : (names : Names) (margin : List ℕ) (budget : ℕ) (e : Phrase) (a : Statements) → code_text names margin budget (while_ e a tree.done)
    ≡ loop_lines margin (front_text names (deeper margin) 0 e) (test_of (value_of names 0 e)) (round_text names (deeper margin) budget a)
unfolding code_text front_text lines_text
code_while names margin budget e a =
    append-nil _ ∙ ap (λ t. loop_lines margin (front_text names (deeper margin) 0 e) t (lines_text names (deeper margin) (turn_lines budget (lines (shapes_of names) budget a done)))) (test_is names e)
    ∙ ap (loop_lines margin (front_text names (deeper margin) 0 e) (test_of (value_of names 0 e))) (round_is names (deeper margin) budget done a ∙ append-nil _)

pub code_for : (names : Names) (margin : List ℕ) (budget : ℕ) (x : _) (is : Phrases) (e w : Phrase) (y : _) (js : Phrases) (f : Phrase) (a : Statements) → code_text names margin budget (for_ x is e w y js f a tree.done)
    ≡ assign_text names margin x.name is e
    ++ loop_lines margin (front_text names (deeper margin) 0 w) (test_of (value_of names 0 w)) (round_text names (deeper margin) budget a ++ assign_text names (deeper margin) y.name js f)
unfolding code_text assign_text front_text lines_text
code_for names margin budget x is e w y js f a =
    let step = assign_lines (shapes_of names) y.name js f done in
    let loop = forever (before (shapes_of names) 0 w done) (c.test_of (value 0 w)) (turn_lines budget (lines (shapes_of names) budget a step)) done in
    front_text_then names margin (assign_lines (shapes_of names) x.name is e) loop (assign_front (shapes_of names) x.name is e)
    ∙ ap (λ t. assign_text names margin x.name is e ++ t)
    (append-nil _ ∙ ap (λ t. loop_lines margin (front_text names (deeper margin) 0 w) t (lines_text names (deeper margin) (turn_lines budget (lines (shapes_of names) budget a step)))) (test_is names w)
    ∙ ap (loop_lines margin (front_text names (deeper margin) 0 w) (test_of (value_of names 0 w))) (round_is names (deeper margin) budget step a))

-- the number of temps

pub temps_join : (a b : Statements) → temps_of (join a b) ≡ max (temps_of a) (temps_of b)
unfolding temps_of
temps_join tree.done b = omega arith
temps_join (assign x is e a) b = let h = temps_join a b in omega (arith, h)
temps_join (if_ e t a) b = let h = temps_join a b in omega (arith, h)
temps_join (if_else e t f a) b = let h = temps_join a b in omega (arith, h)
temps_join (while_ e d a) b = let h = temps_join a b in omega (arith, h)
temps_join (for_ x is e w y js f d a) b = let h = temps_join a b in omega (arith, h)

pub temps_done : temps_of tree.done ≡ 0
unfolding temps_of
temps_done = refl

-- the trees of statements in memory

pub assign_tree : (s : Stmt) (t : Target) (e : Expr) → s ≡ Assign t e → one s ≡ assign t.at (phrases t.index.items) (phrase e) tree.done
assign_tree s t e h = ap one h ∙ one_assign t e

pub if_tree : (s : Stmt) (e : Expr) (v : Vec Stmt Global) (o : Option (Vec Stmt Global)) (a : List Stmt) → s ≡ If e v o → o ≡ None → a ≡ v.items → one s ≡ if_ (phrase e) (statements a) tree.done
if_tree s e v o a h n k =
    ap one h ∙ ap (λ o. one (If e v o)) n ∙ one_if e v ∙ ap (λ x. if_ (phrase e) (statements x) tree.done) (sym k)

pub if_else_tree : (s : Stmt) (e : Expr) (v w : Vec Stmt Global) (o : Option (Vec Stmt Global)) (a b : List Stmt) → s ≡ If e v o → o ≡ Some w → a ≡ v.items → b ≡ w.items → one s ≡ if_else (phrase e) (statements a) (statements b) tree.done
if_else_tree s e v w o a b h n k l =
    ap one h ∙ ap (λ o. one (If e v o)) n ∙ one_if_else e v w ∙ ap (λ x. if_else (phrase e) (statements x) (statements w.items) tree.done) (sym k) ∙ ap (λ x. if_else (phrase e) (statements a) (statements x) tree.done) (sym l)

pub while_tree : (s : Stmt) (e : Expr) (v : Vec Stmt Global) (a : List Stmt) → s ≡ While e v → a ≡ v.items → one s ≡ while_ (phrase e) (statements a) tree.done
while_tree s e v a h k = ap one h ∙ one_while e v ∙ ap (λ x. while_ (phrase e) (statements x) tree.done) (sym k)

pub for_tree : (s : Stmt) (t u : Target) (e w f : Expr) (v : Vec Stmt Global) (a : List Stmt) → s ≡ For t e w u f v → a ≡ v.items → one s ≡ for_ t.at (phrases t.index.items) (phrase e) (phrase w) u.at (phrases u.index.items) (phrase f) (statements a) tree.done
for_tree s t u e w f v a h k =
    ap one h ∙ one_for t u e w f v ∙ ap (λ x. for_ t.at (phrases t.index.items) (phrase e) (phrase w) u.at (phrases u.index.items) (phrase f) (statements x) tree.done) (sym k)

-- the temps of statements

pub value_after : (names : Names) (n : ℕ) (e : Phrase) → (value_of names n e).after ≡ next n e
unfolding value_of
value_after names n e = refl

pub temps_assign : (x : _) (is : Phrases) (e : Phrase) → temps_of (assign x is e tree.done) ≡ assign_temps is e
unfolding temps_of
temps_assign x is e = omega arith

pub temps_if : (e : Phrase) (a : Statements) → temps_of (if_ e a tree.done) ≡ max (next 0 e) (temps_of a)
unfolding temps_of
temps_if e a = omega arith

pub temps_if_else : (e : Phrase) (a b : Statements) → temps_of (if_else e a b tree.done) ≡ max (next 0 e) (max (temps_of a) (temps_of b))
unfolding temps_of
temps_if_else e a b = omega arith

pub temps_while : (e : Phrase) (a : Statements) → temps_of (while_ e a tree.done) ≡ max (next 0 e) (temps_of a)
unfolding temps_of
temps_while e a = omega arith

pub temps_for : (x : _) (is : Phrases) (e w : Phrase) (y : _) (js : Phrases) (f : Phrase) (a : Statements)
    → temps_of (for_ x is e w y js f a tree.done) ≡ max (assign_temps is e) (max (max (next 0 w) (temps_of a)) (assign_temps js f))
unfolding temps_of
temps_for x is e w y js f a = omega arith

pub ruleset temps = (value_after, temps_assign, temps_if, temps_if_else, temps_while, temps_for)

-- the first of the statements that are left

pub statement_left : (names : Names) (margin : List ℕ) (budget : ℕ) (stmts : List Stmt) (i : ℕ) (s : Stmt) → i < length stmts → s ≡ get_or stmts i s
    → code_text names margin budget (statements (drop i stmts)) ≡ code_text names margin budget (one s) ++ code_text names margin budget (statements (drop (i + 1) stmts))
statement_left names margin budget stmts i s inside is =
    ap (λ xs. code_text names margin budget (statements xs)) (drop_more stmts i s inside ∙ ap (λ y. y ∷ drop (i + 1) stmts) (sym is))
    ∙ code_join names margin budget (one s) (statements (drop (i + 1) stmts))

pub none_left : (names : Names) (margin : List ℕ) (budget : ℕ) (stmts : List Stmt) (i : ℕ) → length stmts ≤ i → code_text names margin budget (statements (drop i stmts)) ≡ []
none_left names margin budget stmts i past = ap (λ xs. code_text names margin budget (statements xs)) (drop_all i stmts past) ∙ code_done names margin budget

pub temps_left : (stmts : List Stmt) (i : ℕ) (s : Stmt) (so_far more next_of whole : ℕ) → i < length stmts → s ≡ get_or stmts i s → more ≡ temps_of (one s) → next_of ≡ max so_far more
    → max so_far (temps_of (statements (drop i stmts))) ≡ whole → max next_of (temps_of (statements (drop (i + 1) stmts))) ≡ whole
temps_left stmts i s so_far more next_of whole inside is p q h =
    let here : temps_of (statements (drop i stmts)) ≡ max (temps_of (one s)) (temps_of (statements (drop (i + 1) stmts))) =
    ap (λ xs. temps_of (statements xs)) (drop_more stmts i s inside ∙ ap (λ y. y ∷ drop (i + 1) stmts) (sym is)) ∙ temps_join (one s) (statements (drop (i + 1) stmts)) in
    omega arith

pub no_temps_left : (stmts : List Stmt) (i so_far whole : ℕ) → length stmts ≤ i → max so_far (temps_of (statements (drop i stmts))) ≡ whole → so_far ≡ whole
no_temps_left stmts i so_far whole past h =
    let here : temps_of (statements (drop i stmts)) ≡ 0 = ap (λ xs. temps_of (statements xs)) (drop_all i stmts past) ∙ temps_done in
    omega arith
