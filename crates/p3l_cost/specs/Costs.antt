-- Costs of a tree.
use Rattle.std.specs.Prelude.{◌≡◌, ℕ, ◌≤◌, length, slice_index, ⊤}
use Rattle.std.specs.List.{All}
use Rattle.p3l_skel.specs.declared.tree.Form.{Form}
use Rattle.p3l_skel.specs.declared.tree.Form.TheVariants.{Seq, Comp, Pipe, Farm, Map, Reduce, Loop}
use Rattle.p3l_skel.specs.declared.tree.Node.{Node}
use Rattle.p3l_skel.specs.declared.tree.Tree.{Tree}
use Rattle.p3l_cost.specs.declared.costs.Costs.{Costs}
pub use Rattle.p3l_base.specs.Limits.{most_cost}

-- n turns may be expected of a node of this form: no more than a loop allows
abbrev pub IsWithinTurns : Form → ℕ → Type 0
IsWithinTurns Seq n = ⊤
IsWithinTurns Comp n = ⊤
IsWithinTurns Pipe n = ⊤
IsWithinTurns (Farm w) n = ⊤
IsWithinTurns (Map w cut) n = ⊤
IsWithinTurns (Reduce w len elem) n = ⊤
IsWithinTurns (Loop turns tokens) n = n ≤ turns

-- expected turns of a loop
abbrev pub IsTurns : ℕ → Type 0
IsTurns n = (1 ≤ n) × (n ≤ most_cost)

-- costs of a tree: they have a number for each of its modules, all within the greatest, and no loop is
-- expected to turn more often than it may
pub record AreCostsOf (tree : Tree) (costs : Costs) : Type 0 where
  pub setup : costs.setup ≤ most_cost
  pub word : costs.word ≤ most_cost
  pub ticks_each : length costs.ticks ≡ length tree.modules
  pub ticks : All (λ n. n ≤ most_cost) costs.ticks
  pub turns_each : length costs.turns ≡ length tree.modules
  pub turns : All IsTurns costs.turns
  pub within : All (λ (node : Node). IsWithinTurns node.form (slice_index costs.turns node.module)) tree.nodes
