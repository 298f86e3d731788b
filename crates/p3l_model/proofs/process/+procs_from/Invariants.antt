use Rattle.std.proofs.Common.{◌≡◌, ◌-◌, take, sum_by}
use Rattle.p3l_skel.specs.Counts.{count_of}
use Rattle.p3l_skel.specs.Numbers.{procs_by}
use Rattle.p3l_model.specs.Fitted.{fitted}
use Rattle.p3l_model.proofs.process.+procs_from.Given as goal

abbrev pub decreases-procs_from : goal.decreases-procs_from
decreases-procs_from l = l.levels

-- the processes of the parts so far
abbrev pub invariant-loop-part : goal.invariant-loop-part
invariant-loop-part l =
    l.inner ≡ fitted (sum_by (procs_by l.tree (count_of l.tree l.counts.list) (l.levels - 1)) (take l.part-index l.part-items))
