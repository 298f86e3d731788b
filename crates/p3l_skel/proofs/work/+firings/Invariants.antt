use Rattle.std.proofs.Common.{◌≡◌, ◌-◌, take, sum_by}
use Rattle.p3l_skel.specs.Numbers.{firings_by, reduce_firings, segments_at}
use Rattle.p3l_skel.specs.Work.{capped}
use Rattle.p3l_skel.proofs.work.+firings.Given as goal

abbrev pub decreases-firings : goal.decreases-firings
decreases-firings l = l.levels

-- the firings of the parts so far
abbrev pub invariant-loop-part : goal.invariant-loop-part
invariant-loop-part l =
    l.inner ≡ capped (sum_by (firings_by (reduce_firings l.joining) l.tree (segments_at l.tree) (l.levels - 1)) (take l.part-index l.part-items))
