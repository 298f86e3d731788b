-- The least lawful numbers of workers make the fewest processes.
use Rattle.std.proofs.Common.{◌≡◌, ℕ, zero, suc, ◌-◌, ◌*◌, ◌^◌, ◌<◌, ◌≤◌, List, [], ◌∷◌, ◌++◌, length, map, refl, sym, subst, arith, inl, inr, Option, Some, None}
use Rattle.std.specs.Prelude.{IfSome, ⊤}
use Rattle.std.specs.List.{Contains, flat_map}
use Rattle.std.proofs.Math.Nat.{mul-le-mul}
use Rattle.std.proofs.lemmas.Bool.{cases_lt}
use Rattle.std.proofs.lemmas.Bool.Decides.{nat_tests}
use Rattle.std.proofs.lemmas.List.Elements.{Contains-append_left, Contains-append_right, Contains-append_cases}
use Rattle.p3l_skel.specs.declared.tree.Form.{Form}
use Rattle.p3l_skel.specs.declared.tree.Form.TheVariants.{Seq, Comp, Pipe, Farm, Map, Reduce, Loop}
use Rattle.p3l_skel.specs.declared.tree.Tree.{Tree}
use Rattle.p3l_skel.specs.Tree.{node_at, nesting}
use Rattle.p3l_skel.specs.Counts.{own_counted, counted_from, counted, outside_parts, count_of, workers_of, IsCountInRange, IsLawfulCount, HasLawfulCounts}
use Rattle.p3l_skel.specs.Lawful.{IsLawfulForm, IsLawfulTree}
use Rattle.p3l_skel.specs.Numbers.{joined_procs, procs, procs_by, procs_row}
use Rattle.p3l_skel.proofs.Below.{counted_from-zero, counted_from-step, procs_by-zero, procs_by-step, node_at-past}
use Rattle.p3l_skel.proofs.Depth.{lawful_at}
use Rattle.p3l_model.proofs.Connect.{counted_within, own_only}
use Rattle.p3l_model.proofs.Count.{count_lawful}
use Rattle.p3l_model.proofs.Deep.{flat_map-which}
use Rattle.p3l_model.proofs.Members.{Contains-nil, Contains-head}
use Rattle.p3l_model.proofs.Monotone.{sum_mono}
use Rattle.p3l_model.proofs.Nested.{procs_by-small}
use Rattle.p3l_model.proofs.Timed.{takes-own, agrees-own, lawful_some}
use Rattle.p3l_alloc.specs.Need.{least_count, least_at, IsLeastProcs}

-- n workers make no more processes of a node of this form
abbrev FewerAt : Form → ℕ → ℕ → Type 0
FewerAt Seq n m = ⊤
FewerAt Comp n m = ⊤
FewerAt Pipe n m = ⊤
FewerAt (Farm w) n m = n ≤ m
FewerAt (Map w cut) n m = n ≤ m
FewerAt (Reduce w len elem) n m = joined_procs n ≤ joined_procs m
FewerAt (Loop turns tokens) n m = ⊤

joined_procs-mono : (n m : ℕ) → 1 ≤ n → n ≤ m → joined_procs n ≤ joined_procs m
joined_procs-mono n m some more = grind (arith, nat_tests)

fewer : (f : Form) (n m : ℕ) → 1 ≤ n → n ≤ m → FewerAt f n m
fewer Seq n m some more = tt
fewer Comp n m some more = tt
fewer Pipe n m some more = tt
fewer (Farm w) n m some more = more
fewer (Map w cut) n m some more = more
fewer (Reduce w len elem) n m some more = joined_procs-mono n m some more
fewer (Loop turns tokens) n m some more = tt

row_mono : (f : Form) (k n m s t : ℕ) → (Contains (own_counted f k) k → FewerAt f n m) → s ≤ t → procs_row f n s ≤ procs_row f m t
row_mono Seq k n m s t own h = omega arith
row_mono Comp k n m s t own h = omega arith
row_mono Pipe k n m s t own h = h
row_mono (Farm w) k n m s t own h = let q = mul-le-mul (own (Contains-head k [])) h in omega (arith, q)
row_mono (Map w cut) k n m s t own h = let q = mul-le-mul (own (Contains-head k [])) h in omega (arith, q)
row_mono (Reduce w len elem) k n m s t own h = own (Contains-head k [])
row_mono (Loop turns tokens) k n m s t own h = omega arith

procs_by-mono : (tree : Tree) (a b : ℕ → ℕ) (d k : ℕ) → ((x : ℕ) → Contains (counted_from tree d k) x → FewerAt (node_at tree x).form (a x) (b x)) → procs_by tree a d k ≤ procs_by tree b d k
procs_by-mono tree a b zero k more = rw (procs_by-zero tree a k, procs_by-zero tree b k) (omega arith)
procs_by-mono tree a b (suc d) k more =
    let some : 0 < suc d = omega arith in
    let e : suc d - 1 ≡ d = omega arith in
    let form = (node_at tree k).form in
    let parts = outside_parts form (node_at tree k).parts in
    let split = rw e at (counted_from-step tree (suc d) k some) in
    let P : ℕ → Type 0 = λ x. FewerAt (node_at tree x).form (a x) (b x) in
    let all : (x : ℕ) → Contains (own_counted form k ++ flat_map (counted_from tree d) parts) x → P x = rw split at more in
    let inner = sum_mono (procs_by tree a d) (procs_by tree b d) (counted_from tree d) P (λ p h. procs_by-mono tree a b d p h) parts
    (λ x h. all x (Contains-append_right (own_counted form k) (flat_map (counted_from tree d) parts) x h)) in
    rw (procs_by-step tree a (suc d) k some, procs_by-step tree b (suc d) k some, e)
    (row_mono form k (a k) (b k) _ _ (λ h. all k (Contains-append_left (own_counted form k) (flat_map (counted_from tree d) parts) k h)) inner)

-- a counted node has a number of workers
own_of_counted : (tree : Tree) (d k x : ℕ) → Contains (counted_from tree d k) x → Contains (own_counted (node_at tree x).form x) x
own_of_counted tree zero k x h = absurd (Contains-nil x (rw (counted_from-zero tree k) at h))
own_of_counted tree (suc d) k x h =
    let e : suc d - 1 ≡ d = omega arith in
    let f = (node_at tree k).form in
    let parts = outside_parts f (node_at tree k).parts in
    let split = rw e at (rw (counted_from-step tree (suc d) k (omega arith)) at h) in
    elim (Contains-append_cases (own_counted f k) (flat_map (counted_from tree d) parts) x split) [
      | inl own ↦ let same = own_only f k x own in
          subst (λ y. Contains (own_counted (node_at tree y).form y) y) (sym same) (subst (λ y. Contains (own_counted f k) y) same own)
      | inr later ↦ let q = flat_map-which (counted_from tree d) parts x later in own_of_counted tree d _ x q.2
    ]

-- the least number is lawful
least_lawful : (tree : Tree) (f : Form) (ins outs : ℕ) (parts : List ℕ) (x : ℕ) → 1 ≤ ins → IsLawfulForm tree f ins outs parts → IfSome (workers_of f) (IsCountInRange f) → Contains (own_counted f x) x → IsLawfulCount f (least_count f)
least_lawful tree Seq ins outs parts x some lawful clause own = absurd (Contains-nil x own)
least_lawful tree Comp ins outs parts x some lawful clause own = absurd (Contains-nil x own)
least_lawful tree Pipe ins outs parts x some lawful clause own = absurd (Contains-nil x own)
least_lawful tree (Farm None) ins outs parts x some lawful clause own = (tt, (omega arith, omega arith))
least_lawful tree (Farm (Some m)) ins outs parts x some lawful clause own = (refl, clause)
least_lawful tree (Map None cut) ins outs [] x some lawful clause own = absurd lawful
least_lawful tree (Map None cut) ins outs (p ∷ []) x some lawful clause own =
    let one : 1 * 1 ≤ cut.first * cut.second = mul-le-mul lawful.cuts.lawful_outs.some_first lawful.cuts.lawful_outs.some_second in
    (tt, (omega arith, omega arith, omega arith))
least_lawful tree (Map None cut) ins outs (p ∷ (q ∷ ps)) x some lawful clause own = absurd lawful
least_lawful tree (Map (Some m) cut) ins outs parts x some lawful clause own = (refl, clause)
least_lawful tree (Reduce None len elem) ins outs [] x some lawful clause own = absurd lawful
least_lawful tree (Reduce None zero elem) ins outs (p ∷ []) x some lawful clause own = let none = lawful.elements in absurd (omega arith)
least_lawful tree (Reduce None (suc len) elem) ins outs (p ∷ []) x some lawful clause own = (tt, ((0, refl), omega arith, omega arith))
least_lawful tree (Reduce None len elem) ins outs (p ∷ (q ∷ ps)) x some lawful clause own = absurd lawful
least_lawful tree (Reduce (Some m) len elem) ins outs parts x some lawful clause own = (refl, clause)
least_lawful tree (Loop turns tokens) ins outs parts x some lawful clause own = absurd (Contains-nil x own)

-- and no lawful number is smaller
meets_least : (w : Option ℕ) (n : ℕ) (f : Form) → workers_of f ≡ w → IsLawfulCount f n → least_count f ≤ n
meets_least (Some m) n f is lawful =
    let meets : n ≡ m = (rw is at lawful).0 in rw is (omega arith)
meets_least None n f is lawful = let some = lawful_some f n lawful in rw is some

module _ (tree : Tree) (lawful : IsLawfulTree tree) where
  lawful_least : (x : ℕ) → Contains (counted tree) x → IsLawfulCount (node_at tree x).form (least_at tree x)
  lawful_least x h =
      let within = counted_within 6 tree 0 (length tree.nodes) x lawful.preorder h in
      let node = lawful_at tree lawful x within.1 in
      least_lawful tree (node_at tree x).form (node_at tree x).ins (node_at tree x).outs (node_at tree x).parts x node.ins.0 node.form node.workers (own_of_counted tree 6 0 x h)

  least_below : (counts : List ℕ) → HasLawfulCounts tree counts → procs_by tree (least_at tree) nesting 0 ≤ procs tree counts 0
  least_below counts takes =
      procs_by-mono tree (least_at tree) (count_of tree counts) 6 0 (λ x h.
      let mine = count_lawful tree (counted tree) counts [] x takes h in
      let f = (node_at tree x).form in
      fewer f (least_at tree x) (count_of tree counts x) (lawful_some f (least_at tree x) (lawful_least x h)) (meets_least (workers_of f) (count_of tree counts x) f refl mine))

  pub least_procs_are : IsLeastProcs tree (procs_by tree (least_at tree) nesting 0)
  least_procs_are =
      let ns = map (least_at tree) (counted tree) in
      let takes : HasLawfulCounts tree ns = takes-own tree (least_at tree) (counted tree) lawful_least in
      let less = procs_by-mono tree (count_of tree ns) (least_at tree) 6 0 (λ x h.
      let same = agrees-own (least_at tree) (counted tree) x h in
      let f = (node_at tree x).form in
      let some = lawful_some f (least_at tree x) (lawful_least x h) in
      fewer f (count_of tree ns x) (least_at tree x) (omega arith) (omega arith)) in
      let more = least_below ns takes in
      record { below = least_below; reached = (ns, takes, omega arith) }

  small_clause : (f : Form) → IfSome (workers_of f) (IsCountInRange f) → least_count f ≤ 512
  small_clause Seq clause = omega arith
  small_clause Comp clause = omega arith
  small_clause Pipe clause = omega arith
  small_clause (Farm None) clause = omega arith
  small_clause (Farm (Some m)) clause = clause.1
  small_clause (Map None cut) clause = omega arith
  small_clause (Map (Some m) cut) clause = clause.2
  small_clause (Reduce None len elem) clause = omega arith
  small_clause (Reduce (Some m) len elem) clause = clause.2
  small_clause (Loop turns tokens) clause = omega arith

  small_at : (k : ℕ) → least_at tree k ≤ 512
  small_at k =
      elim (cases_lt k (length tree.nodes)) [
        | inl inside ↦ small_clause (node_at tree k).form (lawful_at tree lawful k inside).workers
        | inr past ↦ rw (node_at-past tree k past) (omega arith)
      ]

  pub least_small : procs_by tree (least_at tree) nesting 0 ≤ 1024 ^ 6
  least_small = procs_by-small tree (least_at tree) small_at 6 0 (length tree.nodes) lawful.preorder lawful.few_nodes
