use Rattle.p3l_timed.specs.Moments.{IsDown}
use Rattle.p3l_timed.proofs.moments.first_least.Given as goal

abbrev pub invariant-loop-level : goal.invariant-loop-level
invariant-loop-level l = IsDown l.cells l._level l.i
