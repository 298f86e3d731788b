-- Subtrees of a lawful tree are small.
use Rattle.std.proofs.Common.{◌≡◌, ℕ, zero, suc, ◌+◌, ◌-◌, ◌*◌, ◌^◌, ◌<◌, ◌≤◌, List, [], ◌∷◌, length, take, arith, inl, inr}
use Rattle.std.specs.Prelude.{sum_by}
use Rattle.std.specs.List.{All, Contains, flat_map}
use Rattle.std.proofs.Math.Nat.{mul-le-mul, mul-le-mul_right, pow-succ', one-le-pow}
use Rattle.std.proofs.lemmas.Bool.Decides.{nat_tests}
use Rattle.std.proofs.lemmas.List.{length-take}
use Rattle.std.proofs.lemmas.List.Elements.{All-nil, All-cons, All-take, Contains-append_cases}
use Rattle.std.proofs.lemmas.List.Sums.{sum_by-le}
use Rattle.p3l_skel.specs.declared.tree.Form.{Form}
use Rattle.p3l_skel.specs.declared.tree.Form.TheVariants.{Seq, Comp, Pipe, Farm, Map, Reduce, Loop}
use Rattle.p3l_skel.specs.declared.tree.Tree.{Tree}
use Rattle.p3l_skel.specs.Tree.{node_at}
use Rattle.p3l_skel.specs.Counts.{outside_parts, outside_from}
use Rattle.p3l_skel.specs.Lawful.{AreSubtrees, IsSubtree}
use Rattle.p3l_skel.specs.Numbers.{procs_by, procs_row}
use Rattle.p3l_skel.proofs.Below.{procs_by-step, outside_from-suc}
use Rattle.p3l_model.proofs.Members.{Contains-cons_cases, Contains-nil, Contains-flat_map_take}

-- subtrees that follow one another have a node each
pub siblings_end : (Is : ℕ → ℕ → Type 0) → ((k n : ℕ) → Is k n → k < n) → (ps : List ℕ) (from next : ℕ) → AreSubtrees Is ps from next → from + length ps ≤ next
siblings_end Is ends [] from next h = omega arith
siblings_end Is ends (p ∷ ps) from next h =
    let first = ends p h.1.0 h.1.1 in
    let rest = siblings_end Is ends ps h.1.0 next h.1.2 in
    omega (arith, h.0)

-- a subtree ends after its root
pub subtree_end : (d : ℕ) (tree : Tree) (k next : ℕ) → IsSubtree d tree k next → k < next
unfolding IsSubtree
subtree_end zero tree k next h = absurd h
subtree_end (suc d) tree k next h =
    let all = siblings_end (IsSubtree d tree) (subtree_end d tree) (node_at tree k).parts (k + 1) next h.1 in
    omega arith

-- each of the subtrees ends by then
siblings_small : (d : ℕ) (tree : Tree) (f : ℕ → ℕ) (most : ℕ) → ((k next : ℕ) → IsSubtree d tree k next → next ≤ 128 → f k ≤ most) → (ps : List ℕ) (from next : ℕ) → AreSubtrees (IsSubtree d tree) ps from next → next ≤ 128 → All (λ p. f p ≤ most) ps
siblings_small d tree f most each [] from next h few = All-nil (λ p. f p ≤ most)
siblings_small d tree f most each (p ∷ ps) from next h few =
    let rest = siblings_end (IsSubtree d tree) (subtree_end d tree) ps h.1.0 next h.1.2 in
    All-cons (λ p. f p ≤ most) p ps (each p h.1.0 h.1.1 (omega arith)) (siblings_small d tree f most each ps h.1.0 next h.1.2 few)

All-outside_parts : (P : ℕ → Type 0) (form : Form) (ps : List ℕ) → All P ps → All P (outside_parts form ps)
All-outside_parts P Seq ps all = All-nil P
All-outside_parts P Comp ps all = All-nil P
All-outside_parts P Pipe ps all = all
All-outside_parts P (Farm w) ps all = All-take P 1 ps all
All-outside_parts P (Map w cut) ps all = All-take P 1 ps all
All-outside_parts P (Reduce w len elem) ps all = All-nil P
All-outside_parts P (Loop turns tokens) ps all = All-take P 1 ps all

-- one part's bound
one_part : (ps : List ℕ) (inner most : ℕ) → inner ≤ length (take 1 ps) * most → inner ≤ most
one_part ps inner most h =
    let one : length (take 1 ps) ≤ 1 = omega (arith, length-take 1 ps) in
    omega (arith, mul-le-mul_right most one)

row_small : (form : Form) (ps : List ℕ) (n inner most : ℕ) → n ≤ 512 → 1 ≤ most → length ps ≤ 128 → inner ≤ length (outside_parts form ps) * most → procs_row form n inner ≤ 1024 * most
row_small Seq ps n inner most count some few h = omega arith
row_small Comp ps n inner most count some few h = omega arith
row_small Pipe ps n inner most count some few h = omega (arith, mul-le-mul_right most few)
row_small (Farm w) ps n inner most count some few h = omega (arith, mul-le-mul count (one_part ps inner most h))
row_small (Map w cut) ps n inner most count some few h = omega (arith, mul-le-mul count (one_part ps inner most h))
row_small (Reduce w len elem) ps n inner most count some few h = grind (arith, nat_tests)
row_small (Loop turns tokens) ps n inner most count some few h = omega (arith, one_part ps inner most h)

-- a subtree with at most 512 workers a node has few processes
pub procs_by-small : (tree : Tree) (count : ℕ → ℕ) → ((k : ℕ) → count k ≤ 512) → (d k next : ℕ) → IsSubtree d tree k next → next ≤ 128 → procs_by tree count d k ≤ 1024 ^ d
unfolding IsSubtree
procs_by-small tree count small zero k next h few = absurd h
procs_by-small tree count small (suc d) k next h few =
    let some : 0 < suc d = omega arith in
    let e : suc d - 1 ≡ d = omega arith in
    let form = (node_at tree k).form in
    let parts = (node_at tree k).parts in
    let below : ℕ → ℕ = procs_by tree count d in
    let ends = siblings_end (IsSubtree d tree) (subtree_end d tree) parts (k + 1) next h.1 in
    let each = siblings_small d tree below (1024 ^ d) (procs_by-small tree count small d) parts (k + 1) next h.1 few in
    let inner = sum_by-le below (1024 ^ d) (outside_parts form parts) (All-outside_parts (λ p. below p ≤ 1024 ^ d) form parts each) in
    let one : 1 ≤ 1024 ^ d = one-le-pow d 1024 (omega arith) in
    rw (procs_by-step tree count (suc d) k some, e, pow-succ' 1024 d)
    (row_small form parts (count k) (sum_by below (outside_parts form parts)) (1024 ^ d) (small k) one (omega arith) inner)

siblings_mono : (Is Js : ℕ → ℕ → Type 0) → ((k n : ℕ) → Is k n → Js k n) → (ps : List ℕ) (from next : ℕ) → AreSubtrees Is ps from next → AreSubtrees Js ps from next
siblings_mono Is Js more [] from next h = h
siblings_mono Is Js more (p ∷ ps) from next h =
    (h.0, (h.1.0, more p h.1.0 h.1.1, siblings_mono Is Js more ps h.1.0 next h.1.2))

-- a subtree is nested at most deeper too
subtree_mono : (d deeper : ℕ) (tree : Tree) (k next : ℕ) → d ≤ deeper → IsSubtree d tree k next → IsSubtree deeper tree k next
unfolding IsSubtree
subtree_mono zero deeper tree k next more h = absurd h
subtree_mono (suc d) zero tree k next more h = absurd (omega arith)
subtree_mono (suc d) (suc deeper) tree k next more h =
    (h.0, siblings_mono (IsSubtree d tree) (IsSubtree deeper tree) (λ j n s. subtree_mono d deeper tree j n (omega arith) s) (node_at tree k).parts (k + 1) next h.1)

-- a node is the root of a subtree that ends within the nodes
abbrev pub RootsSmall : ℕ → Tree → ℕ → Type 0
RootsSmall d tree node = (next : ℕ) × IsSubtree d tree node next × (next ≤ 128)

in_siblings : (d deeper : ℕ) (tree : Tree) (node : ℕ) (from_root : ℕ → List ℕ) → ((k next : ℕ) → IsSubtree d tree k next → next ≤ 128 → Contains (from_root k) node → RootsSmall deeper tree node) → (ps : List ℕ) (from next : ℕ) → AreSubtrees (IsSubtree d tree) ps from next → next ≤ 128 → Contains (flat_map from_root ps) node → RootsSmall deeper tree node
in_siblings d deeper tree node from_root each [] from next h few inside = absurd (Contains-nil node inside)
in_siblings d deeper tree node from_root each (p ∷ ps) from next h few inside =
    let rest = siblings_end (IsSubtree d tree) (subtree_end d tree) ps h.1.0 next h.1.2 in
    elim (Contains-append_cases (from_root p) (flat_map from_root ps) node inside) [
      | inl here ↦ each p h.1.0 h.1.1 (omega arith) here
      | inr later ↦ in_siblings d deeper tree node from_root each ps h.1.0 next h.1.2 few later
    ]

pub from_outside_parts : (f : ℕ → List ℕ) (form : Form) (ps : List ℕ) (x : ℕ) → Contains (flat_map f (outside_parts form ps)) x → Contains (flat_map f ps) x
from_outside_parts f Seq ps x h = absurd (Contains-nil x h)
from_outside_parts f Comp ps x h = absurd (Contains-nil x h)
from_outside_parts f Pipe ps x h = h
from_outside_parts f (Farm w) ps x h = Contains-flat_map_take f 1 ps x h
from_outside_parts f (Map w cut) ps x h = Contains-flat_map_take f 1 ps x h
from_outside_parts f (Reduce w len elem) ps x h = absurd (Contains-nil x h)
from_outside_parts f (Loop turns tokens) ps x h = Contains-flat_map_take f 1 ps x h

-- the nodes outside units are roots of subtrees
pub outside_roots : (d deeper : ℕ) (tree : Tree) (k next node : ℕ) → d ≤ deeper → IsSubtree d tree k next → next ≤ 128 → Contains (outside_from tree d k) node → RootsSmall deeper tree node
unfolding IsSubtree
outside_roots zero deeper tree k next node more h few inside = absurd h
outside_roots (suc d) deeper tree k next node more h few inside =
    let form = (node_at tree k).form in
    let parts = (node_at tree k).parts in
    let split = rw (outside_from-suc tree d k) at inside in
    elim (Contains-cons_cases k (flat_map (outside_from tree d) (outside_parts form parts)) node split) [
      | inl same ↦ rw same (next, subtree_mono (suc d) deeper tree k next more h, few)
      | inr later ↦ in_siblings d deeper tree node (outside_from tree d) (λ j n s f i. outside_roots d deeper tree j n node (omega arith) s f i) parts (k + 1) next h.1 few (from_outside_parts (outside_from tree d) form parts node later)
    ]
