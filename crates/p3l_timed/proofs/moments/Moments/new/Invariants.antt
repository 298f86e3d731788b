use Rattle.std.proofs.Common.{◌≡◌, ◌≤◌, ◌-◌, ◌^◌}
use Rattle.p3l_timed.proofs.moments.Moments.new.Given as goal

abbrev pub decreases-loop-size : goal.decreases-loop-size
decreases-loop-size l = 32 - l.levels

abbrev pub invariant-loop-size : goal.invariant-loop-size
invariant-loop-size l = (l.size ≡ 2 ^ l.levels) × (l.levels ≤ 32)
