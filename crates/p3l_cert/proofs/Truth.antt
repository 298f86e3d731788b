-- Rows that follow by their rules are true, whoever made them.
use Rattle.std.proofs.Common.{◌≡◌, ℕ, zero, suc, ◌+◌, ◌-◌, ◌*◌, ◌/◌, ◌^◌, ◌≤◌, ◌<◌, ◌&&◌, min, leb, cond, List, [], ◌∷◌, Result, Ok, Err, get_or, length, refl, sym, ap, ◌∙◌, subst, arith, inl, inr}
use Rattle.std.specs.Prelude.{slice_index}
use Rattle.std.proofs.Math.Pow.{pow_mono}
use Rattle.std.proofs.Math.Nat.{mul-le-mul_right}
use Rattle.std.proofs.lemmas.Bool.{cases_lt, cases_Bool, leb-true, leb-false, le-leb, and_parts, and_cases, cond-true, cond-false}
use Rattle.p3l_skel.specs.Numbers.{joined_procs}
use Rattle.p3l_model.specs.declared.cost.Span.{Span}
use Rattle.p3l_model.specs.declared.cost.FoldCost.{FoldCost}
use Rattle.p3l_model.specs.declared.cost.Sharing.{Sharing}
use Rattle.p3l_model.specs.declared.cost.Sharing.TheVariants.{Items, Elements}
use Rattle.p3l_model.specs.declared.cost.NodeCost.{NodeCost}
use Rattle.p3l_model.specs.declared.cost.NodeCost.TheVariants as cost
use Rattle.p3l_model.specs.NodeCost.{never, timed, segments_service}
use Rattle.p3l_model.specs.Costed.{Costed, Empty, Leaf, Workers, Segments, Loop, run_procs, run_service, IsLawfulRun, slowest, HasProcess, IsSharing, IsSound, stages, costed_row}
use Rattle.p3l_model.specs.Least.{Serves, IsLeast, part_bound, least_over, capped}
use Rattle.p3l_model.proofs.Matches.{greatest-at}
use Rattle.p3l_model.proofs.Rules.{counted_least, workers_counted, leaf_least, none_least, both_least, loop_least, some_process}
use Rattle.p3l_cert.specs.declared.cert.Key.{Key}
use Rattle.p3l_cert.proofs.Nodes.{NeedsFirst, HasHigh}
use Rattle.p3l_cert.specs.Rule.{key, and_then, stages_rule, workers_step, workers_rule, low_of, run_of, segments_step, segments_rule, loop_rule, rule_of}

-- ---- what answers come from

ok_is : (x y : ℕ) → ◌≡◌ {A = Result ℕ Key} (Ok x) (Ok y) → x ≡ y
ok_is x y e = cc

value : Result ℕ Key → ℕ
value (Ok n) = n
value (Err k) = 0

value_is : (r : Result ℕ Key) (n : ℕ) → r ≡ Ok n → value r ≡ n
unfolding value
value_is r n e = ap value e

then_ok : (r : Result ℕ Key) (f : ℕ → Result ℕ Key) (w : ℕ) → and_then r f ≡ Ok w → (u : ℕ) × (r ≡ Ok u) × (f u ≡ Ok w)
then_ok (Ok u) f w e = (u, refl, e)
then_ok (Err k) f w e = absurd cc

-- ---- no stage

empty_least : (t cap : ℕ) → IsLeast Empty t cap 0
unfolding run_procs run_service IsLawfulRun
empty_least t cap = record {
  top = omega arith;
  below = λ xs s few. omega arith;
  reached = λ l. ([], record { lawful = refl; soon = omega arith }, refl);
}

-- ---- segments

over_top : (v : ℕ → ℕ) (low k cap : ℕ) → least_over v low k cap ≤ cap + 1
unfolding least_over
over_top v low zero cap = omega arith
over_top v low (suc k) cap = let p = over_top v low k cap in omega (arith, p)

over_below : (v : ℕ → ℕ) (k cap n : ℕ) → n < k → least_over v 0 k cap ≤ v n
unfolding least_over
over_below v zero cap n l = absurd (omega arith)
over_below v (suc k) cap n l =
    elim (cases_lt n k) [
      | inl lt ↦ let p = over_below v k cap n lt in omega (arith, p)
      | inr ge ↦ let e : 0 + k ≡ n = omega arith in subst (λ z. min (least_over v 0 k cap) (v (0 + k)) ≤ v z) e (omega arith)
    ]

over_reached : (v : ℕ → ℕ) (k cap : ℕ) → least_over v 0 k cap ≤ cap → (n : ℕ) × (least_over v 0 k cap ≡ v n)
unfolding least_over
over_reached v zero cap h = absurd (omega arith)
over_reached v (suc k) cap h =
    elim (cases_lt (v (0 + k)) (least_over v 0 k cap)) [
      | inl lt ↦ (0 + k, omega arith)
      | inr ge ↦ let p = over_reached v k cap (omega arith) in (p.0, omega (arith, p.1))
    ]

-- a power of two up to 512 is one of ten
few_power : (k : ℕ) → 2 ^ k ≤ 512 → k < 10
few_power k small =
    elim (cases_lt k 10) [
      | inl few ↦ few
      | inr many ↦ let more : 2 ^ 10 ≤ 2 ^ k = pow_mono {i = 10} {j = k} many in absurd (omega (arith, more))
    ]

step_yes : (r : Span) (fold : FoldCost) (t cap m : ℕ) → r.low ≤ m → m ≤ r.high → timed (segments_service fold m) ≤ t → segments_step r fold t cap m ≡ joined_procs m
step_yes r fold t cap m low high soon = rw (le-leb r.low m low, le-leb m r.high high, le-leb (timed (segments_service fold m)) t soon) refl

-- a step of no more than cap comes from a lawful number in time
step_is : (r : Span) (fold : FoldCost) (t cap m : ℕ) → segments_step r fold t cap m ≤ cap → (r.low ≤ m) × (m ≤ r.high) × (timed (segments_service fold m) ≤ t) × (segments_step r fold t cap m ≡ joined_procs m)
step_is r fold t cap m small =
    elim (cases_Bool (leb r.low m && (leb m r.high && leb (timed (segments_service fold m)) t))) [
      | inl holds ↦
          let p = and_parts (leb r.low m) (leb m r.high && leb (timed (segments_service fold m)) t) holds in
          let q = and_parts (leb m r.high) (leb (timed (segments_service fold m)) t) p.1 in
          (leb-true r.low m p.0, leb-true m r.high q.0, leb-true (timed (segments_service fold m)) t q.1, cond-true _ (joined_procs m) (cap + 1) holds)
      | inr fails ↦ let over : segments_step r fold t cap m ≡ cap + 1 = cond-false _ (joined_procs m) (cap + 1) fails in absurd (omega (arith, over))
    ]

segments_reached : (r : Span) (fold : FoldCost) (t cap : ℕ) → slowest (Segments r fold) < never → segments_rule r fold t cap ≤ cap → (xs : List ℕ) × Serves (Segments r fold) t xs × (run_procs (Segments r fold) xs ≡ segments_rule r fold t cap)
unfolding slowest run_procs run_service IsLawfulRun segments_rule
segments_reached r fold t cap slow small =
    let o = over_reached (λ k. segments_step r fold t cap (2 ^ k)) 10 cap small in
    let m : ℕ = 2 ^ o.0 in
    let low : segments_step r fold t cap m ≤ cap = omega (arith, o.1) in
    let is = step_is r fold t cap m low in
    let some : 1 ≤ m = pow_mono {i = 0} {j = o.0} (omega arith) in
    let least = greatest-at (segments_service fold) r.high m some is.1 in
    let soon : segments_service fold m ≤ t = omega (arith, is.2, least) in
    (m ∷ [], record { lawful = (((o.0, refl), (some, is.0, is.1)), refl); soon = soon }, sym (o.1 ∙ is.3))

segments_below : (r : Span) (fold : FoldCost) (t cap : ℕ) → r.high ≤ 512 → (xs : List ℕ) → Serves (Segments r fold) t xs → segments_rule r fold t cap ≤ run_procs (Segments r fold) xs
unfolding run_procs run_service IsLawfulRun segments_rule
segments_below r fold t cap few [] s = absurd s.lawful
segments_below r fold t cap few (m ∷ xs) s =
    let power = s.lawful.0.0 in
    let inside = s.lawful.0.1 in
    let soon = s.soon in
    let is : m ≡ 2 ^ power.0 = power.1 in
    let small = few_power power.0 (omega (arith, is, inside.2)) in
    let below = over_below (λ k. segments_step r fold t cap (2 ^ k)) 10 cap power.0 small in
    let step : segments_step r fold t cap (2 ^ power.0) ≡ joined_procs m = ap (segments_step r fold t cap) (sym is) ∙ step_yes r fold t cap m inside.1 inside.2 (omega (arith, soon)) in
    omega (arith, below, step)

pub segments_true : (r : Span) (fold : FoldCost) (t cap : ℕ) → r.high ≤ 512 → slowest (Segments r fold) < never → IsLeast (Segments r fold) t cap (segments_rule r fold t cap)
unfolding segments_rule
segments_true r fold t cap few slow = record {
  top = over_top (λ k. segments_step r fold t cap (2 ^ k)) 0 10 cap;
  below = λ xs s small. segments_below r fold t cap few xs s;
  reached = λ l. segments_reached r fold t cap slow l;
}

-- ---- by what there is at the keys of parts

leaf_true : (s t cap w : ℕ) → ◌≡◌ {A = Result ℕ Key} (Ok (cond (leb s t) 1 (cap + 1))) (Ok w) → IsLeast (Leaf s) t cap w
unfolding run_service
leaf_true s t cap w e =
    elim (cases_Bool (leb s t)) [
      | inl holds ↦
          let is : capped cap 1 ≡ w = omega (arith, cond-true _ 1 (cap + 1) holds, ok_is _ w e) in
          subst (IsLeast (Leaf s) t cap) is (leaf_least s t cap (leb-true s t holds))
      | inr fails ↦
          let is : cap + 1 ≡ w = sym (cond-false _ 1 (cap + 1) fails) ∙ ok_is _ w e in
          let late = leb-false s t fails in
          subst (IsLeast (Leaf s) t cap) is (none_least (Leaf s) t cap (λ xs serves few. let soon = serves.soon in omega (arith, late, soon)))
    ]

module _ (look : Key → Result ℕ Key) (part : ℕ → Costed) where
  -- the results for a part are true
  abbrev IsTrueAt : ℕ → Type 0
  IsTrueAt p = (t cap v : ℕ) → look (key p t cap) ≡ Ok v → slowest (part p) < never → IsLeast (part p) t cap v

  stages_true : (t cap before w : ℕ) (ps : List ℕ) → before ≤ cap + 1 → stages_rule look t cap before ps ≡ Ok w → ((i x : ℕ) → i < length ps → IsTrueAt (get_or ps i x)) → slowest (stages part ps) < never → (v : ℕ) × (w ≡ capped cap (before + v)) × IsLeast (stages part ps) t cap v
  unfolding stages_rule stages slowest
  stages_true t cap before w [] small e truth slow = (0, omega (arith, ok_is before w e), empty_least t cap)
  stages_true t cap before w (p ∷ ps) small e truth slow =
      let o = then_ok (look (key p t cap)) (λ least. stages_rule look t cap (capped cap (before + least)) ps) w e in
      let l = truth 0 0 (omega arith) t cap o.0 o.1 (omega arith) in
      let m = stages_true t cap (capped cap (before + o.0)) w ps (omega arith) o.2 (λ i x h. truth (suc i) x (omega arith)) (omega arith) in
      (capped cap (o.0 + m.0), omega (arith, m.1), both_least (part p) (stages part ps) t cap o.0 m.0 l m.2)

  number_of : ℕ → (ℕ → ℕ) → ℕ → ℕ → ℕ
  number_of p bound cap n = value (look (key p (bound n) ((cap - 2) / n)))

  workers_parts : (p : ℕ) (bound : ℕ → ℕ) (cap low k w : ℕ) → workers_rule look p bound cap low k ≡ Ok w
      → (w ≡ least_over (λ n. 2 + n * number_of p bound cap n) low k cap) × ((n : ℕ) → low ≤ n → n < low + k → look (key p (bound n) ((cap - 2) / n)) ≡ Ok (number_of p bound cap n))
  unfolding workers_rule least_over number_of value
  workers_parts p bound cap low zero w e = (sym (ok_is (cap + 1) w e), λ n h l. absurd (omega arith))
  workers_parts p bound cap low (suc k) w e =
      let n : ℕ = low + k in
      let o = then_ok (workers_rule look p bound cap low k) (workers_step look p bound cap n) w e in
      let q = then_ok (look (key p (bound n) ((cap - 2) / n))) (λ least. Ok (min o.0 (2 + n * least))) w o.2 in
      let before = workers_parts p bound cap low k o.0 o.1 in
      let is : value (look (key p (bound n) ((cap - 2) / n))) ≡ q.0 = value_is _ q.0 q.1 in (
        sym (ok_is (min o.0 (2 + n * q.0)) w q.2) ∙ (λ i. min (before.0 i) (2 + n * sym is i)),
        λ z h l. elim (cases_lt z n) [
          | inl lt ↦ before.1 z h lt
          | inr ge ↦ let same : n ≡ z = omega arith in
              subst (λ y. look (key p (bound y) ((cap - 2) / y)) ≡ Ok (value (look (key p (bound y) ((cap - 2) / y))))) same (q.1 ∙ ap (λ y. Ok y) (sym is))
        ],
      )

  workers_true : (r : Span) (h : Sharing) (e t cap p w : ℕ) → IsSharing h → HasProcess (part p) → IsTrueAt p → slowest (part p) < never
      → cond (leb e t) (workers_rule look p (part_bound h t) cap (low_of r) (run_of r cap)) (Ok (cap + 1)) ≡ Ok w → IsLeast (Workers r h e (part p)) t cap w
  workers_true r h e t cap p w sharing has truth slow eq =
      let counted = workers_counted r h e (part p) t sharing in
      elim (cases_Bool (leb e t)) [
        | inl holds ↦
            let o = workers_parts p (part_bound h t) cap (low_of r) (run_of r cap) w (sym (cond-true _ (workers_rule look p (part_bound h t) cap (low_of r) (run_of r cap)) (Ok (cap + 1)) holds) ∙ eq) in
            subst (IsLeast (Workers r h e (part p)) t cap) (sym o.0)
            (counted_least (Workers r h e (part p)) (part p) r e t cap (part_bound h t) (number_of p (part_bound h t) cap) (low_of r) (run_of r cap) has counted (leb-true e t holds)
            (λ n lo hi. ((omega arith, omega arith, omega arith), omega arith, truth (part_bound h t n) ((cap - 2) / n) (number_of p (part_bound h t) cap n) (o.1 n lo hi) slow))
            (λ n i room. (omega (arith, i.0, i.1), omega (arith, i.0, i.1, i.2))))
        | inr fails ↦
            let is : cap + 1 ≡ w = ok_is (cap + 1) w (sym (cond-false _ (workers_rule look p (part_bound h t) cap (low_of r) (run_of r cap)) (Ok (cap + 1)) fails) ∙ eq) in
            let late = leb-false e t fails in
            subst (IsLeast (Workers r h e (part p)) t cap) is (none_least (Workers r h e (part p)) t cap (λ xs s few. let o = counted.out xs s in omega (arith, late, o.4)))
      ]

  loop_true : (turns e t cap p w : ℕ) → 0 < turns → HasProcess (part p) → IsTrueAt p → slowest (part p) < never
      → cond (leb e t && leb 3 cap) (loop_rule look p (t / turns) cap) (Ok (cap + 1)) ≡ Ok w → IsLeast (Loop turns e (part p)) t cap w
  unfolding run_service run_procs IsLawfulRun
  loop_true turns e t cap p w some has truth slow eq =
      elim (cases_Bool (leb e t && leb 3 cap)) [
        | inl holds ↦
            let q = and_parts (leb e t) (leb 3 cap) holds in
            let o = then_ok (look (key p (t / turns) (cap - 2))) (λ least. Ok (capped cap (2 + least))) w (sym (cond-true _ (loop_rule look p (t / turns) cap) (Ok (cap + 1)) holds) ∙ eq) in
            let room = leb-true 3 cap q.1 in
            let l = truth (t / turns) (cap - 2) o.0 o.1 slow in
            let top = l.top in
            let is : 2 + o.0 ≡ w = omega (arith, top, room, ok_is (capped cap (2 + o.0)) w o.2) in
            subst (IsLeast (Loop turns e (part p)) t cap) is (loop_least turns e (part p) t cap o.0 some (leb-true e t q.0) room l)
        | inr fails ↦
            let is : cap + 1 ≡ w = ok_is (cap + 1) w (sym (cond-false _ (loop_rule look p (t / turns) cap) (Ok (cap + 1)) fails) ∙ eq) in
            subst (IsLeast (Loop turns e (part p)) t cap) is
            (none_least (Loop turns e (part p)) t cap
            (λ xs s few. let soon = s.soon in let one = some_process (part p) xs has s.lawful in
            elim (and_cases (leb e t) (leb 3 cap) fails) [
              | inl a ↦ let late = leb-false e t a in omega (arith, late, soon)
              | inr b ↦ let small = leb-false 3 cap b in omega (arith, small, one, few)
            ]))
      ]

  -- one row
  pub rule_true : (c : NodeCost) (parts : List ℕ) (t cap w : ℕ) → rule_of look c parts t cap ≡ Ok w → IsSound (costed_row c part parts) → slowest (costed_row c part parts) < never → HasHigh c
      → ((i x : ℕ) → i < length parts → IsTrueAt (get_or parts i x)) → (NeedsFirst c → HasProcess (part (slice_index parts 0)) × IsTrueAt (slice_index parts 0)) → IsLeast (costed_row c part parts) t cap w
  unfolding rule_of costed_row IsSound slowest
  rule_true (cost.Unit s) parts t cap w e sound slow high each first = leaf_true s t cap w e
  rule_true cost.Stages parts t cap w e sound slow high each first =
      let o = stages_true t cap 0 w parts (omega arith) e each slow in
      let top = o.2.top in
      subst (IsLeast (stages part parts) t cap) (omega (arith, top, o.1)) o.2
  rule_true (cost.Workers r Items e) parts t cap w eq sound slow high each first =
      workers_true r Items e t cap (slice_index parts 0) w sound.0 (first tt).0 (first tt).1 (omega arith) eq
  rule_true (cost.Workers r (Elements m) e) parts t cap w eq sound slow high each first =
      let once : 1 * slowest (part (slice_index parts 0)) ≤ m * slowest (part (slice_index parts 0)) = mul-le-mul_right (slowest (part (slice_index parts 0))) sound.0 in
      workers_true r (Elements m) e t cap (slice_index parts 0) w sound.0 (first tt).0 (first tt).1 (omega arith) eq
  rule_true (cost.Segments r fold) parts t cap w e sound slow high each first =
      subst (IsLeast (Segments r fold) t cap) (ok_is (segments_rule r fold t cap) w e) (segments_true r fold t cap high slow)
  rule_true (cost.Loop turns e) parts t cap w eq sound slow high each first =
      let once : 1 * slowest (part (slice_index parts 0)) ≤ turns * slowest (part (slice_index parts 0)) = mul-le-mul_right (slowest (part (slice_index parts 0))) sound.0 in
      loop_true turns e t cap (slice_index parts 0) w sound.0 (first tt).0 (first tt).1 (omega arith) eq
