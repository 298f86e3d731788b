use Rattle.std.proofs.Common.{◌≡◌, ◌-◌, take, sum_by}
use Rattle.p3l_skel.specs.Numbers.{procs_by}
use Rattle.p3l_model.specs.Fitted.{fitted}
use Rattle.p3l_alloc.specs.Need.{least_at}
use Rattle.p3l_alloc.proofs.need.+least_from.Given as goal

abbrev pub decreases-least_from : goal.decreases-least_from
decreases-least_from l = l.levels

-- the processes of the parts so far
abbrev pub invariant-loop-part : goal.invariant-loop-part
invariant-loop-part l =
    l.inner ≡ fitted (sum_by (procs_by l.tree (least_at l.tree) (l.levels - 1)) (take l.part-index l.part-items))
