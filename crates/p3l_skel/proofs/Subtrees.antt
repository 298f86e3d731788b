-- Subtrees that follow one another.
use Rattle.std.proofs.Common.{◌≡◌, ℕ, zero, suc, ◌+◌, ◌-◌, ◌<◌, ◌↔◌, List, [], ◌∷◌, drop, get_or, length, arith, sym, ◌∙◌, subst, add-one}
use Rattle.std.proofs.Math.Seq.{drop-cons}
use Rattle.p3l_skel.specs.declared.tree.Tree.{Tree}
use Rattle.p3l_skel.specs.Tree.{node_at}
use Rattle.p3l_skel.specs.Lawful.{AreSubtrees, IsSubtree}

-- subtrees end where they do
AreSubtrees-unique : (Is : ℕ → ℕ → Type 0) → ((k a b : ℕ) → Is k a → Is k b → a ≡ b) → (parts : List ℕ) (from a b : ℕ) → AreSubtrees Is parts from a → AreSubtrees Is parts from b → a ≡ b
AreSubtrees-unique Is same [] from a b one two = sym one ∙ two
AreSubtrees-unique Is same (p ∷ ps) from a b one two =
    let middle : one.1.0 ≡ two.1.0 = same p one.1.0 two.1.0 one.1.1 two.1.1 in
    AreSubtrees-unique Is same ps two.1.0 a b (subst (λ m. AreSubtrees Is ps m a) middle one.1.2) two.1.2

pub IsSubtree-unique : (d : ℕ) (tree : Tree) (k a b : ℕ) → IsSubtree d tree k a → IsSubtree d tree k b → a ≡ b
unfolding IsSubtree
IsSubtree-unique zero tree k a b one two = absurd one
IsSubtree-unique (suc d) tree k a b one two =
    AreSubtrees-unique (IsSubtree d tree) (IsSubtree-unique d tree) (node_at tree k).parts (k + 1) a b one.1 two.1

-- nothing is nested at no level
pub IsSubtree-zero : (tree : Tree) (k next : ℕ) → IsSubtree 0 tree k next → ⊥
unfolding IsSubtree
IsSubtree-zero tree k next h = h

pub IsSubtree-step : (d : ℕ) (tree : Tree) (k next : ℕ) → 0 < d → IsSubtree d tree k next ↔ ((k < length tree.nodes) × AreSubtrees (IsSubtree (d - 1) tree) (node_at tree k).parts (k + 1) next)
unfolding IsSubtree
IsSubtree-step zero tree k next some = absurd (omega arith)
IsSubtree-step (suc d) tree k next some = let e : suc d - 1 ≡ d = omega arith in rw e (λ h. h, λ h. h)

-- the parts from index i on, of which the first is the node `next`
module _ (Is : ℕ → ℕ → Type 0) (parts : List ℕ) (i : ℕ) (inside : i < length parts) where
  pub AreSubtrees-at : (next end : ℕ) → AreSubtrees Is (drop i parts) next end → (get_or parts i 0 ≡ next) × ((middle : ℕ) × Is (get_or parts i 0) middle × AreSubtrees Is (drop (i + 1) parts) middle end)
  AreSubtrees-at next end all = rw add-one (rw (drop-cons parts i 0 inside) at all)

  pub AreSubtrees-from : (next end middle : ℕ) → get_or parts i 0 ≡ next → Is (get_or parts i 0) middle → AreSubtrees Is (drop (i + 1) parts) middle end → AreSubtrees Is (drop i parts) next end
  AreSubtrees-from next end middle first here rest =
      rw (drop-cons parts i 0 inside) (first, (middle, here, rw add-one at rest))
