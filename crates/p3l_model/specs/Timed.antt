-- Nodes whose service time can be counted.
use Rattle.std.specs.Prelude.{ℕ, ◌<◌, ◌≤◌}
use Rattle.std.specs.List.{Contains}
use Rattle.p3l_skel.specs.declared.tree.Tree.{Tree}
use Rattle.p3l_skel.specs.Tree.{node_at}
use Rattle.p3l_skel.specs.Counts.{counted_from, own_counted, IsLawfulCount}
use Rattle.p3l_skel.specs.declared.tree.Form.{Form}
use Rattle.p3l_skel.specs.Lawful.{IsSubtree}
use Rattle.p3l_cost.specs.declared.costs.Costs.{Costs}
use Rattle.p3l_model.specs.NodeCost.{never}
use Rattle.p3l_model.specs.Costed.{costed_by, slowest}

-- the subtree at a node ends, the counts of its nodes are lawful, and its service time is below never
pub record IsTimed (tree : Tree) (costs : Costs) (count : ℕ → ℕ) (d k : ℕ) : Type 0 where
  pub next : ℕ
  pub deep : IsSubtree d tree k next
  pub lawful : (x : ℕ) → Contains (counted_from tree d k) x → IsLawfulCount (node_at tree x).form (count x)
  pub slow : slowest (costed_by tree costs d k) < never

-- a node of this form has a worker, if it has a number of them
abbrev pub HasWorkers : Form → ℕ → Type 0
HasWorkers f n = Contains (own_counted f 0) 0 → 1 ≤ n
