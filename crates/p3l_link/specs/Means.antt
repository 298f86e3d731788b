-- Functions of outcomes that agree with a node's function of words.
use Rattle.std.specs.Prelude.{◌≡◌, ℕ}
use Rattle.p3l_base.specs.declared.outcome.Outcome.{Outcome}
use Rattle.p3l_skel.specs.Tree.{node_at, HasLength}
use Rattle.p3l_template.specs.Units.{Units, outcome_at}

-- f makes of each value with the node's in words what the node makes of it, and leaves each trap as it is
pub record Means (units : Units) (node : ℕ) (f : Outcome → Outcome) : Type 0 where
  pub same : (o : Outcome) → HasLength (node_at units.tree node).ins o → f o ≡ outcome_at units node o
