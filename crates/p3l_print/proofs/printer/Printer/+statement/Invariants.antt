use Rattle.std.proofs.Common.{◌≡◌, ◌++◌, drop}
use Rattle.p3l_ast.specs.Tree.{statements}
use Rattle.p3l_print.specs.Statement.{statements_text}
use Rattle.p3l_print.proofs.printer.Printer.+statement.Given as goal

abbrev pub invariant-statements-loop-stmt : goal.invariant-statements-loop-stmt
invariant-statements-loop-stmt l =
    l.self ++ statements_text l.margin (statements (drop l.stmt-index l.stmts)) ≡ l.initial.self ++ statements_text l.margin (statements l.stmts)
