-- Functions of nodes that are computed from the root down, level by level.
use Rattle.std.proofs.Common.{◌≡◌, ℕ, zero, suc, ◌-◌, ◌<◌, ◌≤◌, false, List, [], ◌∷◌, ◌++◌, slice_index, sum_by, refl, ap, ◌∙◌, arith, append_assoc}
use Rattle.std.proofs.Math.ListN.{length}
use Rattle.std.proofs.lemmas.List.{get_or_past}
use Rattle.std.specs.List.{flat_map}
use Rattle.p3l_skel.specs.declared.tree.Tree.{Tree}
use Rattle.p3l_skel.specs.Tree.{node_at, no_node, by_parts, sequential_to, sequential_row}
use Rattle.p3l_skel.specs.Counts.{counted_from, own_counted, outside_from, outside_parts}
use Rattle.p3l_skel.specs.Numbers.{procs_by, procs_row, firings_by, firings_row, inner_sum, runs_to, runs_row}

pub by_parts-step : {X : Type 0} (row : (ℕ → X) → ℕ → X) (leaf : ℕ → X) (d k : ℕ) → 0 < d → by_parts row leaf d k ≡ row (by_parts row leaf (d - 1)) k
unfolding by_parts
by_parts-step row leaf zero k some = absurd (omega arith)
by_parts-step row leaf (suc d) k some = let e : suc d - 1 ≡ d = omega arith in rw e refl

-- a number past the nodes is read as no node
pub node_at-past : (tree : Tree) (k : ℕ) → length tree.nodes ≤ k → node_at tree k ≡ no_node
node_at-past tree k past = get_or_past tree.nodes k no_node past

pub counted_from-zero : (tree : Tree) (k : ℕ) → counted_from tree 0 k ≡ []
unfolding counted_from by_parts
counted_from-zero tree k = refl

pub counted_from-step : (tree : Tree) (d k : ℕ) → 0 < d → counted_from tree d k ≡ own_counted (node_at tree k).form k ++ flat_map (counted_from tree (d - 1)) (outside_parts (node_at tree k).form (node_at tree k).parts)
unfolding counted_from
counted_from-step tree d k some = by_parts-step _ _ d k some

pub counted_from-past : (tree : Tree) (d k : ℕ) → length tree.nodes ≤ k → counted_from tree d k ≡ []
counted_from-past tree zero k past = counted_from-zero tree k
counted_from-past tree (suc d) k past =
    let some : 0 < suc d = omega arith in
    rw (counted_from-step tree (suc d) k some, node_at-past tree k past) refl

pub sequential_to-zero : (tree : Tree) (k : ℕ) → sequential_to tree 0 k ≡ false
unfolding sequential_to by_parts
sequential_to-zero tree k = refl

pub sequential_to-step : (tree : Tree) (d k : ℕ) → 0 < d → sequential_to tree d k ≡ sequential_row (node_at tree k).form (sequential_to tree (d - 1) (slice_index (node_at tree k).parts 0))
unfolding sequential_to
sequential_to-step tree d k some = by_parts-step _ _ d k some

pub sequential_to-past : (tree : Tree) (d k : ℕ) → length tree.nodes ≤ k → sequential_to tree d k ≡ false
sequential_to-past tree zero k past = sequential_to-zero tree k
sequential_to-past tree (suc d) k past =
    let some : 0 < suc d = omega arith in
    rw (sequential_to-step tree (suc d) k some, node_at-past tree k past) refl

pub firings_by-zero : (reduce : ℕ → ℕ) (tree : Tree) (count : ℕ → ℕ) (k : ℕ) → firings_by reduce tree count 0 k ≡ 1
unfolding firings_by by_parts
firings_by-zero reduce tree count k = refl

pub firings_by-step : (reduce : ℕ → ℕ) (tree : Tree) (count : ℕ → ℕ) (d k : ℕ) → 0 < d → firings_by reduce tree count d k ≡ firings_row reduce (node_at tree k).form (count k) (inner_sum tree (firings_by reduce tree count (d - 1)) k)
unfolding firings_by
firings_by-step reduce tree count d k some = by_parts-step _ _ d k some

pub firings_by-past : (reduce : ℕ → ℕ) (tree : Tree) (count : ℕ → ℕ) (d k : ℕ) → 0 < d → length tree.nodes ≤ k → firings_by reduce tree count d k ≡ 0
firings_by-past reduce tree count d k some past =
    rw (firings_by-step reduce tree count d k some, node_at-past tree k past) refl

pub runs_to-zero : (tree : Tree) (k : ℕ) → runs_to tree 0 k ≡ 1
unfolding runs_to by_parts
runs_to-zero tree k = refl

pub runs_to-step : (tree : Tree) (d k : ℕ) → 0 < d → runs_to tree d k ≡ runs_row (node_at tree k).form (sum_by (runs_to tree (d - 1)) (node_at tree k).parts)
unfolding runs_to
runs_to-step tree d k some = by_parts-step _ _ d k some

pub runs_to-past : (tree : Tree) (d k : ℕ) → 0 < d → length tree.nodes ≤ k → runs_to tree d k ≡ 0
runs_to-past tree d k some past = rw (runs_to-step tree d k some, node_at-past tree k past) refl

pub procs_by-zero : (tree : Tree) (count : ℕ → ℕ) (k : ℕ) → procs_by tree count 0 k ≡ 1
unfolding procs_by by_parts
procs_by-zero tree count k = refl

pub procs_by-step : (tree : Tree) (count : ℕ → ℕ) (d k : ℕ) → 0 < d → procs_by tree count d k ≡ procs_row (node_at tree k).form (count k) (inner_sum tree (procs_by tree count (d - 1)) k)
unfolding procs_by
procs_by-step tree count d k some = by_parts-step _ _ d k some

pub procs_by-past : (tree : Tree) (count : ℕ → ℕ) (d k : ℕ) → 0 < d → length tree.nodes ≤ k → procs_by tree count d k ≡ 0
procs_by-past tree count d k some past = rw (procs_by-step tree count d k some, node_at-past tree k past) refl

-- the node's own count comes first, then those of its parts
pub counted_from-parts : (tree : Tree) (d k : ℕ) (more : List ℕ) → 0 < d → counted_from tree d k ++ more ≡ own_counted (node_at tree k).form k ++ (flat_map (counted_from tree (d - 1)) (outside_parts (node_at tree k).form (node_at tree k).parts) ++ more)
counted_from-parts tree d k more some =
    ap (λ ks. ks ++ more) (counted_from-step tree d k some) ∙ append_assoc (own_counted (node_at tree k).form k) (flat_map (counted_from tree (d - 1)) (outside_parts (node_at tree k).form (node_at tree k).parts)) more

pub outside_from-zero : (tree : Tree) (k : ℕ) → outside_from tree 0 k ≡ k ∷ []
unfolding outside_from by_parts
outside_from-zero tree k = refl

pub outside_from-suc : (tree : Tree) (d k : ℕ) → outside_from tree (suc d) k ≡ k ∷ flat_map (outside_from tree d) (outside_parts (node_at tree k).form (node_at tree k).parts)
unfolding outside_from by_parts
outside_from-suc tree d k = refl

pub outside_from-step : (tree : Tree) (d k : ℕ) → 0 < d → outside_from tree d k ≡ k ∷ flat_map (outside_from tree (d - 1)) (outside_parts (node_at tree k).form (node_at tree k).parts)
outside_from-step tree zero k some = absurd (omega arith)
outside_from-step tree (suc d) k some = let e : suc d - 1 ≡ d = omega arith in rw e (outside_from-suc tree d k)

pub outside_from-past : (tree : Tree) (d k : ℕ) → 0 < d → length tree.nodes ≤ k → outside_from tree d k ≡ k ∷ []
outside_from-past tree d k some past = rw (outside_from-step tree d k some, node_at-past tree k past) refl
