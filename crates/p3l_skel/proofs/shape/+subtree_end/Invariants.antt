use Rattle.std.proofs.Common.{ℕ, ◌-◌, ◌+◌, ◌↔◌, drop}
use Rattle.p3l_skel.specs.Lawful.{IsSubtree, AreSubtrees}
use Rattle.p3l_skel.proofs.shape.+subtree_end.Given as goal

abbrev pub decreases-subtree_end : goal.decreases-subtree_end
decreases-subtree_end l = l.levels

-- the parts end where those that are left do, the first of these at `next`
abbrev pub invariant-loop-part : goal.invariant-loop-part
invariant-loop-part l =
    (end : ℕ) → AreSubtrees (IsSubtree (l.levels - 1) l.tree) (drop l.part-index l.part-items) l.next end ↔ AreSubtrees (IsSubtree (l.levels - 1) l.tree) l.part-items (l.number + 1) end
