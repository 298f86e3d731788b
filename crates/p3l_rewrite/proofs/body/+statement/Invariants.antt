use Rattle.std.proofs.Common.{◌≡◌, take}
use Rattle.p3l_ast.specs.Tree.{statements}
use Rattle.p3l_rewrite.proofs.body.+statement.Given as goal

abbrev pub invariant-block-loop-stmt : goal.invariant-block-loop-stmt
invariant-block-loop-stmt l = statements l.copies.items ≡ statements (take l.stmt-index l.stmts)
