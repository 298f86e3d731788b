-- The plan that belongs to a tree, and why a tree has none.
use Rattle.std.specs.Prelude.{◌≡◌, ℕ, ◌*◌, ◌≤◌}
use Rattle.p3l_base.specs.Limits.{most_processes}
use Rattle.p3l_skel.specs.declared.tree.Tree.{Tree}
use Rattle.p3l_skel.specs.Counts.{HasLawfulCounts}
use Rattle.p3l_skel.specs.Lawful.{IsLawfulTree}
use Rattle.p3l_skel.specs.Numbers.{procs}
use Rattle.p3l_skel.specs.Tree.{node_at, part_at}
use Rattle.p3l_scan.specs.declared.plan.ScanPlan.{ScanPlan}
use Rattle.p3l_scan.specs.declared.refusal.ScanRefusal.{ScanRefusal}
use Rattle.p3l_scan.specs.declared.refusal.ScanRefusal.TheVariants.{NotReduce, BadSegments}
use Rattle.p3l_scan.specs.Plan.{IsReduce, IsScannable, counts_of, plan_tree}

-- the plan of a scan of a tree's root in `segments` segments
pub record IsPlanOf (tree : Tree) (segments : ℕ) (plan : ScanPlan) : Type 0 where
  pub can : IsScannable tree segments
  pub tree_is : plan.tree ≡ plan_tree can.levels (can.size * can.elem)
  pub counts_are : plan.counts.list ≡ counts_of can.levels
  pub op_is : plan.op ≡ part_at tree 0 0
  pub elem_is : plan.elem ≡ can.elem
  pub segments_are : plan.segments ≡ segments

-- why a tree's root can't be scanned in `segments` segments: it is no reduce; or it is one, and they are no power of two or don't
-- divide its length
abbrev pub IsUnscannable : Tree → ℕ → ScanRefusal → Type 0
IsUnscannable tree segments NotReduce = IsReduce (node_at tree 0).form → ⊥
IsUnscannable tree segments BadSegments = IsReduce (node_at tree 0).form × (IsScannable tree segments → ⊥)

-- a plan can be linked and run: its tree and numbers are lawful, and there are not too many processes
pub record IsRunnable (plan : ScanPlan) : Type 0 where
  pub tree : IsLawfulTree plan.tree
  pub counts : HasLawfulCounts plan.tree plan.counts.list
  pub procs : procs plan.tree plan.counts.list 0 ≤ most_processes
