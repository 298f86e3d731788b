use Rattle.std.proofs.Common.{◌≡◌, ℕ, ◌++◌, ◌-◌, List, drop}
use Rattle.std.specs.List.{flat_map}
use Rattle.p3l_skel.specs.Counts.{counted_from, count_in}
use Rattle.p3l_model.proofs.workers.+search.Given as goal

abbrev pub decreases-search : goal.decreases-search
decreases-search l = l.levels

-- the counts after `next` are those of the parts that are left
abbrev pub invariant-loop-part : goal.invariant-loop-part
invariant-loop-part l =
    (more : List ℕ) → count_in (flat_map (counted_from l.tree (l.levels - 1)) (drop l.part-index l.part-items) ++ more) (drop l.next l.counts) l.wanted
    ≡ count_in (counted_from l.tree l.levels l.number ++ more) (drop l.from l.counts) l.wanted
