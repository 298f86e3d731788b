-- Service times that can be counted.
use Rattle.std.proofs.Common.{◌≡◌, ℕ, zero, suc, ◌+◌, ◌-◌, ◌*◌, ◌==◌, ◌<◌, ◌≤◌, max, true, false, List, [], ◌∷◌, ◌++◌, length, get_or, map, take, drop, refl, sym, ap, ◌∙◌, arith, inl, inr, ⊎_elim}
use Rattle.std.specs.Int.{div_ceil}
use Rattle.std.specs.List.{Contains, flat_map}
use Rattle.std.proofs.Math.Nat.{mul-le-mul, mul-le-mul_left, mul-le-mul_right}
use Rattle.std.proofs.lemmas.Bool.{cases_eq}
use Rattle.std.proofs.lemmas.Bool.Decides.{nat_tests}
use Rattle.std.proofs.lemmas.List.Elements.{Contains-append_left, Contains-append_right}
use Rattle.p3l_base.specs.Cut.{element_count}
use Rattle.p3l_skel.specs.declared.tree.Form.{Form}
use Rattle.p3l_skel.specs.declared.tree.Form.TheVariants.{Seq, Comp, Pipe, Farm, Map, Reduce}
use Rattle.p3l_skel.specs.declared.tree.Form.TheVariants as form
use Rattle.p3l_skel.specs.declared.tree.Tree.{Tree}
use Rattle.p3l_skel.specs.Tree.{node_at, by_parts}
use Rattle.p3l_skel.specs.Counts.{IsLawfulCount, TakesLawful, counted_from, own_counted, outside_parts}
use Rattle.p3l_skel.specs.Lawful.{AreSubtrees, IsSubtree, IsLawfulForm, IsLawfulTree}
use Rattle.p3l_skel.proofs.Below.{counted_from-step}
use Rattle.p3l_skel.proofs.Depth.{lawful_at}
use Rattle.p3l_cost.specs.declared.costs.Costs.{Costs}
use Rattle.p3l_cost.specs.Costs.{AreCostsOf}
use Rattle.p3l_model.specs.declared.cost.Sharing.TheVariants.{Items, Elements}
use Rattle.p3l_model.specs.NodeCost.{never, timed, segments_service, node_cost, node_cost_row}
use Rattle.p3l_model.specs.Service.{service_by, greatest_by, reduce_service, expected_turns}
use Rattle.p3l_model.specs.Costed.{Costed, Empty, Leaf, Both, Workers, Segments, Loop, size, run_service, IsLawfulRun, slowest, stages, costed_row, costed_by}
use Rattle.p3l_model.specs.Timed.{IsTimed}
use Rattle.p3l_model.proofs.Connect.{costed_at, costed_by-step, some_turns, some_power}
use Rattle.p3l_model.proofs.Matches.{greatest-at}
use Rattle.p3l_model.proofs.Members.{Contains-cons_cases, Contains-nil, Contains-head, Contains-tail, Contains-flat_map}
use Rattle.p3l_model.proofs.Rules.{le_ceil}
use Rattle.p3l_model.proofs.Runs.{Agrees}
use Rattle.p3l_model.proofs.TickSums.{timed-mul}

-- no lawful counts have a greater service time than the slowest
pub bounded : (a : Costed) (xs : List ℕ) → IsLawfulRun a xs → run_service a xs ≤ slowest a
unfolding IsLawfulRun run_service slowest
bounded Empty xs h = omega arith
bounded (Leaf s) xs h = omega arith
bounded (Both a b) xs h =
    let p = bounded a (take (size a) xs) h.0 in let q = bounded b (drop (size a) xs) h.1 in omega (arith, p, q)
bounded (Workers r h e a) [] l = absurd l
bounded (Workers r Items e a) (n ∷ xs) l =
    let p = bounded a xs l.1 in
    let some = mul-le-mul_right (run_service a xs) l.0.0 in
    let q = le_ceil (run_service a xs) n (run_service a xs) l.0.0 (omega (arith, some)) in omega (arith, p, q)
bounded (Workers r (Elements m) e a) (n ∷ xs) l =
    let p = bounded a xs l.1 in
    let some = mul-le-mul_right m l.0.0 in
    let q = le_ceil m n m l.0.0 (omega (arith, some)) in
    let product : div_ceil m n * run_service a xs ≤ m * slowest a = mul-le-mul q p in omega (arith, product)
bounded (Segments r fold) [] l = absurd l
bounded (Segments r fold) (m ∷ xs) l = greatest-at (segments_service fold) r.high m l.0.1.0 l.0.1.2
bounded (Loop t e a) xs l = let p = mul-le-mul_left t (bounded a xs l) in omega (arith, p)

-- the counts of nodes, one for each, are a run with which they agree
pub takes-own : (tree : Tree) (count : ℕ → ℕ) (ks : List ℕ) → ((x : ℕ) → Contains ks x → IsLawfulCount (node_at tree x).form (count x)) → TakesLawful tree ks (map count ks) []
takes-own tree count [] all = refl
takes-own tree count (k ∷ ks) all = (all k (Contains-head k ks), takes-own tree count ks (λ x h. all x (Contains-tail k ks x h)))

pub agrees-own : (count : ℕ → ℕ) (ks : List ℕ) → Agrees count ks (map count ks)
agrees-own count [] = λ x h. absurd (Contains-nil x h)
agrees-own count (k ∷ ks) = λ x h.
    elim (cases_eq k x) [
      | inl same ↦ let test : (k == x) ≡ true = search (arith, nat_tests) in rw test (ap count (sym same))
      | inr other ↦ let test : (k == x) ≡ false = search (arith, nat_tests) in
          rw test (agrees-own count ks x (elim (Contains-cons_cases k ks x h) [ inl same ↦ absurd (other (sym same)) | inr there ↦ there ]))
    ]

pub service_by-zero : (tree : Tree) (costs : Costs) (count : ℕ → ℕ) (k : ℕ) → service_by tree costs count 0 k ≡ 0
unfolding service_by by_parts
service_by-zero tree costs count k = refl

pub lawful_some : (f : Form) (n : ℕ) → IsLawfulCount f n → 1 ≤ n
lawful_some Seq n h = absurd h.1
lawful_some Comp n h = absurd h.1
lawful_some Pipe n h = absurd h.1
lawful_some (Farm w) n h = h.1.0
lawful_some (Map w cut) n h = h.1.0
lawful_some (Reduce w len elem) n h = some_power n h.1.0
lawful_some (form.Loop turns tokens) n h = absurd h.1

-- a node that is counted is counted whatever its number
own-anywhere : (f : Form) (k : ℕ) → Contains (own_counted f 0) 0 → Contains (own_counted f k) k
own-anywhere Seq k h = absurd (Contains-nil 0 h)
own-anywhere Comp k h = absurd (Contains-nil 0 h)
own-anywhere Pipe k h = absurd (Contains-nil 0 h)
own-anywhere (Farm w) k h = Contains-head k []
own-anywhere (Map w cut) k h = Contains-head k []
own-anywhere (Reduce w len elem) k h = Contains-head k []
own-anywhere (form.Loop turns tokens) k h = absurd (Contains-nil 0 h)

-- it has a worker
pub some_worker : (tree : Tree) (costs : Costs) (count : ℕ → ℕ) (d k : ℕ) → 0 < d → IsTimed tree costs count d k → Contains (own_counted (node_at tree k).form 0) 0 → 1 ≤ count k
some_worker tree costs count d k some t own =
    let f = (node_at tree k).form in
    lawful_some f (count k) (t.lawful k (rw (counted_from-step tree d k some) (Contains-append_left (own_counted f k) (flat_map (counted_from tree (d - 1)) (outside_parts f (node_at tree k).parts)) k (own-anywhere f k own))))

-- one element more
pub greatest-more : (f : ℕ → ℕ) (xs : List ℕ) (i : ℕ) → i < length xs → greatest_by f (take (suc i) xs) ≡ max (greatest_by f (take i xs)) (f (get_or xs i 0))
greatest-more f [] i h = absurd (omega arith)
greatest-more f (x ∷ xs) zero h = omega arith
greatest-more f (x ∷ xs) (suc i) h = let q = greatest-more f xs i (omega arith) in omega (arith, q)

-- the operator's ticks count no further than the reduce's time does
pub reduce-timed : (carry : ℕ → ℕ) (len elem operator m : ℕ) → timed (reduce_service carry len elem (timed operator) m) ≡ timed (reduce_service carry len elem operator m)
reduce-timed carry len elem operator m =
    elim (cases_eq m 1) [
      | inl one ↦ let test : (m == 1) ≡ true = search (arith, nat_tests) in rw test (timed-mul (len - 1) operator (carry (len * elem) + carry elem))
      | inr other ↦ let test : (m == 1) ≡ false = search (arith, nat_tests) in
          let fold = timed-mul (div_ceil len m - 1) operator (carry (div_ceil len m * elem) + carry elem) in
          rw test (omega (arith, fold))
    ]

module _ (tree : Tree) (costs : Costs) (lawful : IsLawfulTree tree) (priced : AreCostsOf tree costs) (count : ℕ → ℕ) where
  pub timed_small : (d k : ℕ) → IsTimed tree costs count d k → service_by tree costs count d k < never
  timed_small d k t =
      let at = costed_at tree costs lawful priced d k t.next t.deep in
      let ks = counted_from tree d k in
      let takes = takes-own tree count ks t.lawful in
      let run = bounded (costed_by tree costs d k) (map count ks) (at.matches.into (map count ks) takes) in
      let same = at.matches.service_is count (map count ks) (agrees-own count ks) takes t.slow in
      let slow = t.slow in
      omega (arith, run, same, slow)

  siblings_at : (d : ℕ) (ps : List ℕ) (from next i : ℕ) → AreSubtrees (IsSubtree d tree) ps from next → i < length ps → (n : ℕ) × IsSubtree d tree (get_or ps i 0) n
  siblings_at d [] from next i h below = absurd (omega arith)
  siblings_at d (p ∷ ps) from next zero h below = (h.1.0, h.1.1)
  siblings_at d (p ∷ ps) from next (suc i) h below = siblings_at d ps h.1.0 next i h.1.2 (omega arith)

  slow_stage : (below : ℕ → Costed) (ps : List ℕ) (i : ℕ) → i < length ps → slowest (stages below ps) < never → slowest (below (get_or ps i 0)) < never
  unfolding stages slowest
  slow_stage below [] i h slow = absurd (omega arith)
  slow_stage below (p ∷ ps) zero h slow = omega arith
  slow_stage below (p ∷ ps) (suc i) h slow = slow_stage below ps i (omega arith) (omega arith)

  -- a part of a node outside units
  part_at_row : (d k next : ℕ) (f : Form) (ins outs : ℕ) (parts : List ℕ) (i : ℕ) → k < length tree.nodes → IsLawfulForm tree f ins outs parts → AreSubtrees (IsSubtree d tree) parts (k + 1) next → slowest (costed_row (node_cost_row tree costs k f) (costed_by tree costs d) parts) < never → i < length (outside_parts f parts) → ((n : ℕ) × IsSubtree d tree (get_or (outside_parts f parts) i 0) n) × (slowest (costed_by tree costs d (get_or (outside_parts f parts) i 0)) < never)
  unfolding costed_row slowest
  part_at_row d k next Seq ins outs parts i inside lawful' h slow below = absurd (omega arith)
  part_at_row d k next Comp ins outs parts i inside lawful' h slow below = absurd (omega arith)
  part_at_row d k next Pipe ins outs parts i inside lawful' h slow below = (siblings_at d parts (k + 1) next i h below, slow_stage (costed_by tree costs d) parts i below slow)
  part_at_row d k next (Farm w) ins outs [] i inside lawful' h slow below = absurd lawful'
  part_at_row d k next (Farm w) ins outs (p ∷ []) zero inside lawful' h slow below = ((h.1.0, h.1.1), omega arith)
  part_at_row d k next (Farm w) ins outs (p ∷ []) (suc i) inside lawful' h slow below = absurd (omega arith)
  part_at_row d k next (Farm w) ins outs (p ∷ (q ∷ ps)) i inside lawful' h slow below = absurd lawful'
  part_at_row d k next (Map w cut) ins outs [] i inside lawful' h slow below = absurd lawful'
  part_at_row d k next (Map w cut) ins outs (p ∷ []) zero inside lawful' h slow below =
      let some : 1 * 1 ≤ element_count cut = mul-le-mul lawful'.cuts.lawful_outs.some_first lawful'.cuts.lawful_outs.some_second in
      let once : 1 * slowest (costed_by tree costs d p) ≤ element_count cut * slowest (costed_by tree costs d p) = mul-le-mul_right (slowest (costed_by tree costs d p)) (omega arith) in
      ((h.1.0, h.1.1), omega arith)
  part_at_row d k next (Map w cut) ins outs (p ∷ []) (suc i) inside lawful' h slow below = absurd (omega arith)
  part_at_row d k next (Map w cut) ins outs (p ∷ (q ∷ ps)) i inside lawful' h slow below = absurd lawful'
  part_at_row d k next (Reduce w len elem) ins outs parts i inside lawful' h slow below = absurd (omega arith)
  part_at_row d k next (form.Loop turns tokens) ins outs [] i inside lawful' h slow below = absurd lawful'
  part_at_row d k next (form.Loop turns tokens) ins outs (b ∷ []) i inside lawful' h slow below = absurd lawful'
  part_at_row d k next (form.Loop turns tokens) ins outs (b ∷ (c ∷ [])) zero inside lawful' h slow below =
      let some = some_turns tree costs lawful priced k inside in
      let once : 1 * slowest (costed_by tree costs d b) ≤ expected_turns tree costs k * slowest (costed_by tree costs d b) = mul-le-mul_right (slowest (costed_by tree costs d b)) some in
      ((h.1.0, h.1.1), omega arith)
  part_at_row d k next (form.Loop turns tokens) ins outs (b ∷ (c ∷ [])) (suc i) inside lawful' h slow below = absurd (omega arith)
  part_at_row d k next (form.Loop turns tokens) ins outs (b ∷ (c ∷ (r ∷ ps))) i inside lawful' h slow below = absurd lawful'

  pub part_timed : (d k i : ℕ) → 0 < d → IsTimed tree costs count d k → i < length (outside_parts (node_at tree k).form (node_at tree k).parts) → IsTimed tree costs count (d - 1) (get_or (outside_parts (node_at tree k).form (node_at tree k).parts) i 0)
  unfolding IsSubtree node_cost
  part_timed zero k i some t below = absurd (omega arith)
  part_timed (suc d) k i some t below =
      let e : suc d - 1 ≡ d = omega arith in
      let f = (node_at tree k).form in
      let parts = (node_at tree k).parts in
      let inside = t.deep.0 in
      let tree_is : costed_by tree costs (suc d) k ≡ costed_row (node_cost tree costs k) (costed_by tree costs d) parts = rw e at (costed_by-step tree costs (suc d) k some) in
      let slow = rw tree_is at t.slow in
      let part = part_at_row d k t.next f (node_at tree k).ins (node_at tree k).outs parts i inside (lawful_at tree lawful k inside).form t.deep.1 slow below in
      rw e (record {
        next = part.0.0;
        deep = part.0.1;
        lawful = λ x h. t.lawful x (rw (counted_from-step tree (suc d) k some, e)
            (Contains-append_right (own_counted f k) (flat_map (counted_from tree d) (outside_parts f parts)) x
            (Contains-flat_map (counted_from tree d) (outside_parts f parts) i 0 x below h)));
        slow = part.1;
      })
