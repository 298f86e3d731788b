-- The number of statements within statements, at any depth.
use Rattle.std.proofs.Common.{◌≡◌, ℕ, zero, suc, ◌+◌, ◌<◌, ◌≤◌, List, [], ◌∷◌, Option, Some, None, get_or, length, arith, ap}
use Rattle.std.specs.declared.vec.Vec.{Vec}
use Rattle.std.specs.declared.alloc.Global.{Global}
use Rattle.p3l_ast.specs.declared.expression.Expr.{Expr}
use Rattle.p3l_ast.specs.declared.expression.Target.{Target}
use Rattle.p3l_ast.specs.declared.statement.Stmt.{Stmt}
use Rattle.p3l_ast.specs.declared.statement.Stmt.TheVariants.{If, While, For}
use Rattle.p3l_ast.specs.Tree.{Statements, done, assign, if_, if_else, while_, for_, join, one, statements}
use Rattle.p3l_ast.proofs.Trees.{one_if, one_if_else, one_while, one_for}

abbrev pub weight : Statements → ℕ
weight done = 0
weight (assign x is e c) = weight c + 1
weight (if_ e t c) = weight t + weight c + 1
weight (if_else e t f c) = weight t + weight f + weight c + 1
weight (while_ e b c) = weight b + weight c + 1
weight (for_ x is e w y js f b c) = weight b + weight c + 1

weight_join : (c d : Statements) → weight (join c d) ≡ weight c + weight d
weight_join done d = omega arith
weight_join (assign x is e c) d = let h = weight_join c d in omega arith
weight_join (if_ e t c) d = let h = weight_join c d in omega arith
weight_join (if_else e t f c) d = let h = weight_join c d in omega arith
weight_join (while_ e b c) d = let h = weight_join c d in omega arith
weight_join (for_ x is e w y js f b c) d = let h = weight_join c d in omega arith

-- no statement of a list weighs more than the list
pub weight_at : (stmts : List Stmt) (i : ℕ) (d : Stmt) → i < length stmts → weight (one (get_or stmts i d)) ≤ weight (statements stmts)
weight_at [] i d inside = absurd (omega arith)
weight_at (s ∷ ss) zero d inside = let h = weight_join (one s) (statements ss) in omega arith
weight_at (s ∷ ss) (suc i) d inside =
    let h = weight_join (one s) (statements ss) in
    let k : weight (one (get_or ss i d)) ≤ weight (statements ss) = weight_at ss i d (omega arith) in
    omega arith

-- the parts of a statement weigh less than it
pub then_weighs : (e : Expr) (v : Vec Stmt Global) (o : Option (Vec Stmt Global)) → weight (statements v.items) < weight (one (If e v o))
then_weighs e v None = let h = ap weight (one_if e v) in omega arith
then_weighs e v (Some w) = let h = ap weight (one_if_else e v w) in omega arith

pub else_weighs : (e : Expr) (v w : Vec Stmt Global) → weight (statements w.items) < weight (one (If e v (Some w)))
else_weighs e v w = let h = ap weight (one_if_else e v w) in omega arith

pub while_weighs : (e : Expr) (v : Vec Stmt Global) → weight (statements v.items) < weight (one (While e v))
while_weighs e v = let h = ap weight (one_while e v) in omega arith

pub for_weighs : (t u : Target) (e w f : Expr) (v : Vec Stmt Global) → weight (statements v.items) < weight (one (For t e w u f v))
for_weighs t u e w f v = let h = ap weight (one_for t u e w f v) in omega arith
