-- The table of the costs of each node outside units, kept for all rows.
use Rattle.std.specs.Prelude.{◌≡◌, ℕ, ◌<◌, List, Option, None, get_or, length}
use Rattle.p3l_skel.specs.declared.tree.Tree.{Tree}
use Rattle.p3l_cost.specs.declared.costs.Costs.{Costs}
use Rattle.p3l_model.specs.declared.cost.NodeCost.{NodeCost}
use Rattle.p3l_cert.specs.Rule.{cost_at}

-- the costs of the first `nodes` nodes
pub record IsTableOf (tree : Tree) (costs : Costs) (table : List (Option NodeCost)) (nodes : ℕ) : Type 0 where
  pub size : length table ≡ nodes
  pub each : (k : ℕ) → k < nodes → get_or table k None ≡ cost_at tree costs k

abbrev pub IsTable : Tree → Costs → List (Option NodeCost) → Type 0
IsTable tree costs table = IsTableOf tree costs table (length tree.nodes)
