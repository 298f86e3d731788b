use Rattle.std.proofs.Common.{◌≡◌, ◌++◌, drop}
use Rattle.p3l_ast.specs.Tree.{phrases}
use Rattle.p3l_print.specs.Expression.{index_text}
use Rattle.p3l_print.proofs.printer.Printer.+expression.Given as goal

abbrev pub invariant-index-loop-expr : goal.invariant-index-loop-expr
invariant-index-loop-expr l =
    l.self ++ index_text (phrases (drop l.expr-index l.index.items)) ≡ l.initial.self ++ index_text (phrases l.index.items)
