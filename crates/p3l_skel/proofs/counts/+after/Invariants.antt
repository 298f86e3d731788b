use Rattle.std.proofs.Common.{◌-◌, ◌++◌, take, drop}
use Rattle.std.specs.List.{flat_map}
use Rattle.p3l_skel.specs.Tree.{node_at}
use Rattle.p3l_skel.specs.Counts.{TakesLawful, own_counted, counted_from}
use Rattle.p3l_skel.proofs.counts.+after.Given as goal

abbrev pub decreases-after : goal.decreases-after
decreases-after l = l.levels

-- the counts of the node and of its parts so far are lawful, and end at `next`
abbrev pub invariant-loop-part : goal.invariant-loop-part
invariant-loop-part l =
    TakesLawful l.tree (own_counted (node_at l.tree l.number).form l.number ++ flat_map (counted_from l.tree (l.levels - 1)) (take l.part-index l.part-items)) (drop l.from l.counts) (drop l.next l.counts)
