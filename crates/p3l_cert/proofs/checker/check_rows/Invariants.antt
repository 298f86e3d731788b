use Rattle.std.proofs.Common.{◌≡◌, drop}
use Rattle.p3l_cert.specs.Checker.{rows_fault}
use Rattle.p3l_cert.proofs.checker.check_rows.Given as goal

abbrev pub invariant-loop-number : goal.invariant-loop-number
invariant-loop-number l = rows_fault l.tree l.costs l.rows l.number (drop l.number l.rows) ≡ rows_fault l.tree l.costs l.rows 0 l.rows
