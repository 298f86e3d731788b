-- The table of soonest service times: the rows of the nodes, from the last to the first.
use Rattle.std.specs.Prelude.{◌≡◌, ℕ, ◌+◌, ◌-◌, ◌<◌, ◌≤◌, List, [], length, slice_index_or}
use Rattle.std.specs.List.{All}
use Rattle.p3l_skel.specs.declared.tree.Tree.{Tree}
use Rattle.p3l_cost.specs.declared.costs.Costs.{Costs}
use Rattle.p3l_model.specs.NodeCost.{never}
use Rattle.p3l_model.specs.Costed.{Costed, costed, slowest}
use Rattle.p3l_alloc.specs.Soonest.{IsRow}

-- the row of a node
abbrev pub row_in : Tree → List (List ℕ) → ℕ → List ℕ
row_in tree rows node = slice_index_or rows (length tree.nodes - (node + 1)) []

-- the row of a node whose service times can be counted
abbrev pub IsRowFor : Tree → Costs → ℕ → ℕ → List ℕ → Type 0
IsRowFor tree costs most node row = slowest (costed tree costs node) < never → IsRow (costed tree costs node) most row

-- the rows of these stages
abbrev pub AreRows : Tree → List (List ℕ) → (ℕ → Costed) → ℕ → List ℕ → Type 0
AreRows tree rows below most parts = All (λ p. IsRow (below p) most (row_in tree rows p)) parts

-- a table with the rows of the nodes from a number on
pub record IsTableFrom (tree : Tree) (costs : Costs) (most : ℕ) (rows : List (List ℕ)) (from : ℕ) : Type 0 where
  pub size : length rows + from ≡ length tree.nodes
  pub each : (node : ℕ) → from ≤ node → node < length tree.nodes → IsRowFor tree costs most node (row_in tree rows node)
