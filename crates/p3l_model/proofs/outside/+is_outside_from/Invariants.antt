use Rattle.std.proofs.Common.{◌-◌, take}
use Rattle.std.specs.List.{Contains, flat_map}
use Rattle.p3l_skel.specs.Counts.{outside_from}
use Rattle.p3l_model.proofs.outside.+is_outside_from.Given as goal

abbrev pub decreases-is_outside_from : goal.decreases-is_outside_from
decreases-is_outside_from l = l.levels

-- the node isn't below the parts so far
abbrev pub invariant-loop-part : goal.invariant-loop-part
invariant-loop-part l = Contains (flat_map (outside_from l.tree (l.levels - 1)) (take l.part-index l.part-items)) l.wanted → ⊥
