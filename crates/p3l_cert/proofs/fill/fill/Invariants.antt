use Rattle.std.proofs.Common.{◌≤◌, length}
use Rattle.p3l_cert.specs.Fill.{IsFilledFrom}
use Rattle.p3l_cert.proofs.fill.fill.Given as goal

abbrev pub invariant-loop-left : goal.invariant-loop-left
invariant-loop-left l = record {
  filled : IsFilledFrom l.tree l.costs l.fn.rows l.left l.rows;
  within : l.left ≤ length l.rows;
}

abbrev pub decreases-loop-left : goal.decreases-loop-left
decreases-loop-left l = l.left
