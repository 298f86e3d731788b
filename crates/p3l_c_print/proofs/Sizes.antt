-- The sizes of statements: each call that walks statements is of smaller ones, so they end.
use Rattle.std.proofs.Common.{◌≡◌, ℕ, zero, suc, ◌+◌, ◌<◌, ◌≤◌, List, [], ◌∷◌, drop, get_or, length, sym, ap, ◌∙◌, arith}
use Rattle.std.proofs.lemmas.List.{drop_more}
use Rattle.p3l_ast.specs.declared.statement.Stmt.{Stmt}
use Rattle.p3l_ast.specs.Tree.{Statements, done, assign, if_, if_else, while_, for_, one, statements, join}

abbrev pub size_of : Statements → ℕ
size_of done = 0
size_of (assign x is e after) = 1 + size_of after
size_of (if_ e a after) = 1 + size_of a + size_of after
size_of (if_else e a b after) = 1 + size_of a + size_of b + size_of after
size_of (while_ e body after) = 1 + size_of body + size_of after
size_of (for_ x is e w y js f body after) = 1 + size_of body + size_of after

size_join : (a b : Statements) → size_of (join a b) ≡ size_of a + size_of b
size_join done b = omega arith
size_join (assign x is e a) b = let h = size_join a b in omega arith
size_join (if_ e t a) b = let h = size_join a b in omega arith
size_join (if_else e t f a) b = let h = size_join a b in omega arith
size_join (while_ e d a) b = let h = size_join a b in omega arith
size_join (for_ x is e w y js f d a) b = let h = size_join a b in omega arith

size_left : (stmts : List Stmt) (i : ℕ) → size_of (statements (drop i stmts)) ≤ size_of (statements stmts)
size_left stmts zero = omega arith
size_left [] (suc i) = omega arith
size_left (s ∷ stmts) (suc i) = let h = size_left stmts i in let k = size_join (one s) (statements stmts) in omega arith

-- a statement is no larger than all of them
pub size_at : (stmts : List Stmt) (i : ℕ) (s : Stmt) → i < length stmts → s ≡ get_or stmts i s → size_of (one s) ≤ size_of (statements stmts)
size_at stmts i s inside is =
    let here = ap (λ xs. size_of (statements xs)) (drop_more stmts i s inside ∙ ap (λ y. y ∷ drop (i + 1) stmts) (sym is)) in
    let k = size_join (one s) (statements (drop (i + 1) stmts)) in
    let all = size_left stmts i in
    omega arith
