use Rattle.std.proofs.Common.{◌≡◌, take}
use Rattle.p3l_ast.specs.Tree.{phrases}
use Rattle.p3l_rewrite.proofs.body.+copying.Given as goal

abbrev pub invariant-target-loop-expr : goal.invariant-target-loop-expr
invariant-target-loop-expr l = phrases l.index.items ≡ phrases (take l.expr-index l.expr-items)
