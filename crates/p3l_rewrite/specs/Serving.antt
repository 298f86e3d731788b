-- The tree of a program, and its service time.
use Rattle.std.specs.Prelude.{◌≡◌, ℕ, ◌+◌, ◌≤◌, ◌^◌, List, length, Option, Some, None}
use Rattle.p3l_base.specs.Limits.{most_nodes}
use Rattle.p3l_ast.specs.Tree.{ProgramTree}
use Rattle.p3l_skel.specs.declared.tree.Tree.{Tree}
use Rattle.p3l_skel.specs.Numbers.{Fits}
use Rattle.p3l_cost.specs.declared.costs.Costs.{Costs}
use Rattle.p3l_model.specs.Optimal.{IsChosen}
use Rattle.p3l_model.specs.Service.{service}
use Rattle.p3l_check.specs.Many.{AreMany}
use Rattle.p3l_rewrite.specs.Rewriting.{IsAccepted}

-- the tree of a program, if it keeps the rules
pub record HasTree (program : ProgramTree) (tree : Tree) : Type 0 where
  pub accepted : IsAccepted program
  pub tree_is : tree ≡ accepted.whole.tree

-- a program, if there is one, has too many entries
abbrev pub HasMany : Option ProgramTree → Type 0
HasMany None = ⊥
HasMany (Some program) = AreMany program.entries

-- a program has so many entries that another way to write it may have too many
abbrev pub MayBeMany : ProgramTree → Type 0
MayBeMany program = 2 ^ 32 ≤ length program.entries + most_nodes

abbrev pub IsAcceptedTree : ProgramTree → Option Tree → Type 0
IsAcceptedTree program None = IsAccepted program → ⊥
IsAcceptedTree program (Some tree) = HasTree program tree

-- the service time of the best counts
pub record IsBestTime (tree : Tree) (costs : Costs) (processors : ℕ) (time : ℕ) : Type 0 where
  pub counts : List ℕ
  pub chosen : IsChosen tree costs processors counts
  pub time_is : time ≡ service tree costs counts 0

-- the service time of the best counts, if some counts fit
abbrev pub IsServiceTime : Tree → Costs → ℕ → Option ℕ → Type 0
IsServiceTime tree costs processors None = (counts : List ℕ) → Fits tree processors counts → ⊥
IsServiceTime tree costs processors (Some time) = IsBestTime tree costs processors time
