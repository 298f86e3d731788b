use Rattle.std.proofs.Common.{◌≡◌, ◌-◌, take, sum_by}
use Rattle.p3l_model.specs.NodeCost.{timed}
use Rattle.p3l_model.specs.Service.{ticks_to}
use Rattle.p3l_model.proofs.ticks.+ticks_from.Given as goal

abbrev pub decreases-ticks_from : goal.decreases-ticks_from
decreases-ticks_from l = l.levels

-- the ticks of the parts so far
abbrev pub invariant-loop-part : goal.invariant-loop-part
invariant-loop-part l =
    l.inner ≡ timed (sum_by (ticks_to l.tree l.costs (l.levels - 1)) (take l.part-index l.part-items))
