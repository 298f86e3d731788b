use Rattle.std.proofs.Common.{◌≡◌, ◌-◌, take, sum_by}
use Rattle.p3l_skel.specs.Numbers.{runs_to}
use Rattle.p3l_skel.specs.Work.{capped}
use Rattle.p3l_skel.proofs.work.+runs.Given as goal

abbrev pub decreases-runs : goal.decreases-runs
decreases-runs l = l.levels

-- the runs of the parts so far
abbrev pub invariant-loop-part : goal.invariant-loop-part
invariant-loop-part l =
    l.inner ≡ capped (sum_by (runs_to l.tree (l.levels - 1)) (take l.part-index l.part-items))
