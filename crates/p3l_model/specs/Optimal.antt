-- The best counts of a tree.
use Rattle.std.specs.Prelude.{◌≡◌, ℕ, ◌≤◌, ◌<◌, ◌⊎◌, List, [], ◌∷◌, ⊤}
use Rattle.p3l_skel.specs.declared.tree.Tree.{Tree}
use Rattle.p3l_skel.specs.Numbers.{Fits, procs}
use Rattle.p3l_cost.specs.declared.costs.Costs.{Costs}
use Rattle.p3l_model.specs.Service.{service}

-- counts that fit, where none that fit have a smaller service time, and none with an equal one have
-- fewer processes
pub record IsOptimal (tree : Tree) (costs : Costs) (processors : ℕ) (counts : List ℕ) : Type 0 where
  pub fit : Fits tree processors counts
  pub soonest : (others : List ℕ) → Fits tree processors others → service tree costs counts 0 ≤ service tree costs others 0
  pub fewest : (others : List ℕ) → Fits tree processors others → service tree costs others 0 ≡ service tree costs counts 0 → procs tree counts 0 ≤ procs tree others 0

-- no later in lexicographic order
unfoldable pub IsNoLater : List ℕ → List ℕ → Type 0
IsNoLater [] ys = ⊤
IsNoLater (x ∷ xs) [] = ⊥
IsNoLater (x ∷ xs) (y ∷ ys) = (x < y) ⊎ ((x ≡ y) × IsNoLater xs ys)

-- the first of the optimal counts, in preorder
pub record IsChosen (tree : Tree) (costs : Costs) (processors : ℕ) (counts : List ℕ) : Type 0 where
  pub optimal : IsOptimal tree costs processors counts
  pub first : (others : List ℕ) → IsOptimal tree costs processors others → IsNoLater counts others
