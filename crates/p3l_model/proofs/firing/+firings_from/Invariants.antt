use Rattle.std.proofs.Common.{◌≡◌, ◌-◌, take, sum_by}
use Rattle.p3l_skel.specs.Counts.{count_of}
use Rattle.p3l_skel.specs.Numbers.{joined_firings, firings_by}
use Rattle.p3l_skel.specs.Work.{capped}
use Rattle.p3l_model.proofs.firing.+firings_from.Given as goal

abbrev pub decreases-firings_from : goal.decreases-firings_from
decreases-firings_from l = l.levels

-- the firings of the parts so far
abbrev pub invariant-loop-part : goal.invariant-loop-part
invariant-loop-part l =
    l.inner ≡ capped (sum_by (firings_by joined_firings l.tree (count_of l.tree l.counts.list) (l.levels - 1)) (take l.part-index l.part-items))
