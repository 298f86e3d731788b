-- More segments make no fewer firings.
use Rattle.std.proofs.Common.{◌≡◌, ℕ, zero, suc, ◌-◌, ◌<◌, ◌≤◌, List, [], ◌∷◌, ◌++◌, arith}
use Rattle.std.specs.Prelude.{sum_by, ⊤}
use Rattle.std.specs.List.{Contains, flat_map}
use Rattle.std.proofs.Math.Nat.{mul-le-mul_left}
use Rattle.std.proofs.lemmas.List.Elements.{Contains-append_left, Contains-append_right}
use Rattle.std.proofs.lemmas.List.Sums.{sum_by-cons}
use Rattle.p3l_base.specs.Cut.{element_count}
use Rattle.p3l_skel.specs.declared.tree.Form.{Form}
use Rattle.p3l_skel.specs.declared.tree.Form.TheVariants.{Seq, Comp, Pipe, Farm, Map, Reduce, Loop}
use Rattle.p3l_skel.specs.declared.tree.Tree.{Tree}
use Rattle.p3l_skel.specs.Tree.{node_at}
use Rattle.p3l_skel.specs.Counts.{own_counted, counted_from, outside_parts, IsLawfulCount}
use Rattle.p3l_skel.specs.Numbers.{joined_firings, firings_by, firings_row, most_segments}
use Rattle.p3l_skel.proofs.Below.{counted_from-step, firings_by-zero, firings_by-step}
use Rattle.p3l_model.proofs.Count.{reduce_bounded}
use Rattle.p3l_model.proofs.Members.{Contains-head}

-- a reduce with n segments fires no more often than one with m
abbrev pub FiresNoMore : Form → ℕ → ℕ → Type 0
FiresNoMore Seq n m = ⊤
FiresNoMore Comp n m = ⊤
FiresNoMore Pipe n m = ⊤
FiresNoMore (Farm w) n m = ⊤
FiresNoMore (Map w cut) n m = ⊤
FiresNoMore (Reduce w len elem) n m = joined_firings n ≤ joined_firings m
FiresNoMore (Loop turns tokens) n m = ⊤

row_mono : (form : Form) (k n m s t : ℕ) → (Contains (own_counted form k) k → FiresNoMore form n m) → s ≤ t → firings_row joined_firings form n s ≤ firings_row joined_firings form m t
row_mono Seq k n m s t own h = omega arith
row_mono Comp k n m s t own h = omega arith
row_mono Pipe k n m s t own h = h
row_mono (Farm w) k n m s t own h = omega arith
row_mono (Map w cut) k n m s t own h = omega (arith, mul-le-mul_left (element_count cut) h)
row_mono (Reduce w len elem) k n m s t own h = own (Contains-head k [])
row_mono (Loop turns tokens) k n m s t own h = omega (arith, mul-le-mul_left turns h)

pub sum_mono : (f g : ℕ → ℕ) (below : ℕ → List ℕ) (P : ℕ → Type 0) → ((p : ℕ) → ((x : ℕ) → Contains (below p) x → P x) → f p ≤ g p) → (ps : List ℕ) → ((x : ℕ) → Contains (flat_map below ps) x → P x) → sum_by f ps ≤ sum_by g ps
sum_mono f g below P each [] all = omega arith
sum_mono f g below P each (p ∷ ps) all =
    let here = each p (λ x h. all x (Contains-append_left (below p) (flat_map below ps) x h)) in
    let rest = sum_mono f g below P each ps (λ x h. all x (Contains-append_right (below p) (flat_map below ps) x h)) in
    omega (arith, sum_by-cons f p ps, sum_by-cons g p ps)

-- the whole fires no more often if no reduce does
pub firings_by-mono : (tree : Tree) (a b : ℕ → ℕ) (d k : ℕ) → ((x : ℕ) → Contains (counted_from tree d k) x → FiresNoMore (node_at tree x).form (a x) (b x)) → firings_by joined_firings tree a d k ≤ firings_by joined_firings tree b d k
firings_by-mono tree a b zero k more = rw (firings_by-zero joined_firings tree a k, firings_by-zero joined_firings tree b k) (omega arith)
firings_by-mono tree a b (suc d) k more =
    let some : 0 < suc d = omega arith in
    let e : suc d - 1 ≡ d = omega arith in
    let form = (node_at tree k).form in
    let parts = outside_parts form (node_at tree k).parts in
    let split = rw e at (counted_from-step tree (suc d) k some) in
    let P : ℕ → Type 0 = λ x. FiresNoMore (node_at tree x).form (a x) (b x) in
    let all : (x : ℕ) → Contains (own_counted form k ++ flat_map (counted_from tree d) parts) x → P x = rw split at more in
    let inner = sum_mono (firings_by joined_firings tree a d) (firings_by joined_firings tree b d) (counted_from tree d) P (λ p h. firings_by-mono tree a b d p h) parts
    (λ x h. all x (Contains-append_right (own_counted form k) (flat_map (counted_from tree d) parts) x h)) in
    rw (firings_by-step joined_firings tree a (suc d) k some, firings_by-step joined_firings tree b (suc d) k some, e)
    (row_mono form k (a k) (b k) _ _ (λ h. all k (Contains-append_left (own_counted form k) (flat_map (counted_from tree d) parts) k h)) inner)

-- a lawful count fires no more often than the most that is lawful
pub bounded : (form : Form) (n : ℕ) → IsLawfulCount form n → FiresNoMore form n (most_segments form)
bounded Seq n h = tt
bounded Comp n h = tt
bounded Pipe n h = tt
bounded (Farm w) n h = tt
bounded (Map w cut) n h = tt
bounded (Reduce w len elem) n h = reduce_bounded w len elem n h
bounded (Loop turns tokens) n h = tt
