-- The units of a tree: the tree, and what each of its `seq` modules makes of the words of an item.
use Rattle.std.specs.Prelude.{ℕ, ℤ, List}
use Rattle.p3l_base.specs.declared.outcome.Outcome.{Outcome}
use Rattle.p3l_skel.specs.declared.tree.Tree.{Tree}
use Rattle.p3l_firing.specs.Nodes.{outcome_of}

pub record Units : Type 0 where
  pub tree : Tree
  pub leaf : ℕ → List ℤ → Outcome

-- the outcome of a node that is one process, for an outcome
abbrev pub outcome_at : Units → ℕ → Outcome → Outcome
outcome_at units node = outcome_of units.tree units.leaf node
