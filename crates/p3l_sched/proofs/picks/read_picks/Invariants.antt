use Rattle.std.proofs.Common.{◌+◌, ◌≤◌, length}
use Rattle.p3l_sched.specs.Picks.{AreRead}
use Rattle.p3l_sched.proofs.picks.read_picks.Given as goal

abbrev pub invariant-loop-gap : goal.invariant-loop-gap
invariant-loop-gap l = record {
  read : AreRead l.count 1 l.text l.picks l.line l.rest;
  within : l.line + length l.rest ≤ 1 + length l.text;
  few : length l.picks + length l.rest ≤ length l.text;
}

abbrev pub decreases-loop-gap : goal.decreases-loop-gap
decreases-loop-gap l = length l.rest
