-- Results of the rule of a key if the rows that it depends on are there, and the keys that it depends on.
use Rattle.std.proofs.Common.{◌≡◌, ℕ, zero, suc, ◌+◌, ◌-◌, ◌*◌, ◌/◌, ◌^◌, ◌≤◌, ◌&&◌, leb, min, List, [], ◌∷◌, ◌++◌, map, Result, Ok, Err, length, refl, ap, ◌∙◌, subst, arith, inl, inr}
use Rattle.std.specs.Prelude.{slice_index}
use Rattle.std.specs.List.{All}
use Rattle.std.proofs.Math.Pow.{pow_mono}
use Rattle.std.proofs.lemmas.Bool.{cases_Bool}
use Rattle.std.proofs.lemmas.Bool.Decides.{nat_tests}
use Rattle.std.proofs.lemmas.List.{get_or_append_left, get_or_push, length-append}
use Rattle.p3l_skel.specs.Numbers.{joined_procs}
use Rattle.p3l_model.specs.declared.cost.Span.{Span}
use Rattle.p3l_model.specs.declared.cost.FoldCost.{FoldCost}
use Rattle.p3l_model.specs.declared.cost.NodeCost.{NodeCost}
use Rattle.p3l_model.specs.declared.cost.NodeCost.TheVariants.{Unit, Stages, Workers, Segments, Loop}
use Rattle.p3l_model.specs.NodeCost.{timed, segments_service}
use Rattle.p3l_model.specs.Least.{part_bound, least_over, capped}
use Rattle.p3l_cert.specs.declared.cert.Key.{Key}
use Rattle.p3l_cert.specs.Keys.{worker_keys, dependencies_of}
use Rattle.p3l_cert.specs.Rule.{key, and_then, stages_rule, workers_step, workers_rule, low_of, run_of, segments_step, segments_rule, rule_of}

-- a look-up finds a number of processes
abbrev pub Finds : (Key → Result ℕ Key) → Key → Type 0
Finds look k = (v : ℕ) × (look k ≡ Ok v) × (1 ≤ v)

-- a rule finds one, and no more than one above the cap
abbrev pub FindsWithin : ℕ → Result ℕ Key → Type 0
FindsWithin cap r = (w : ℕ) × (r ≡ Ok w) × (1 ≤ w) × (w ≤ cap + 1)

head_all : (P : Key → Type 0) (k : Key) (keys : List Key) → All P (k ∷ keys) → P k
head_all P k keys all = all 0 k (omega arith)

tail_all : (P : Key → Type 0) (k : Key) (keys : List Key) → All P (k ∷ keys) → All P keys
tail_all P k keys all i d inside = all (suc i) d (omega arith)

front_all : (P : Key → Type 0) (keys : List Key) (k : Key) → All P (keys ++ k ∷ []) → All P keys
front_all P keys k all i d inside = subst P (get_or_append_left keys (k ∷ []) d i inside) (all i d (omega (arith, inside, length-append keys (k ∷ []))))

last_all : (P : Key → Type 0) (keys : List Key) (k : Key) → All P (keys ++ k ∷ []) → P k
last_all P keys k all = subst P (get_or_push keys k k (length keys) refl) (all (length keys) k (omega (arith, length-append keys (k ∷ []))))

-- ---- what is found

joined_some : (m : ℕ) → 1 ≤ m → 1 ≤ joined_procs m
joined_some m some = grind (arith, nat_tests)

step_some : (r : Span) (fold : FoldCost) (t cap m : ℕ) → 1 ≤ m → 1 ≤ segments_step r fold t cap m
step_some r fold t cap m some =
    let each = joined_some m some in
    elim (cases_Bool (leb r.low m && (leb m r.high && leb (timed (segments_service fold m)) t))) [
      | inl holds ↦ rw holds each
      | inr fails ↦ rw fails (omega arith)
    ]

over_some : (v : ℕ → ℕ) (k cap : ℕ) → ((n : ℕ) → 1 ≤ v n) → (1 ≤ least_over v 0 k cap) × (least_over v 0 k cap ≤ cap + 1)
unfolding least_over
over_some v zero cap each = (omega arith, omega arith)
over_some v (suc k) cap each = let p = over_some v k cap each in let q = each (0 + k) in (omega (arith, p.0, q), omega (arith, p.1))

segments_found : (r : Span) (fold : FoldCost) (t cap : ℕ) → (1 ≤ segments_rule r fold t cap) × (segments_rule r fold t cap ≤ cap + 1)
unfolding segments_rule
segments_found r fold t cap = over_some (λ k. segments_step r fold t cap (2 ^ k)) 10 cap (λ k. step_some r fold t cap (2 ^ k) (pow_mono {i = 0} {j = k} (omega arith)))

module _ (look : Key → Result ℕ Key) where
  stages_found : (t cap before : ℕ) (ps : List ℕ) → before ≤ cap + 1 → 1 ≤ before + length ps → All (Finds look) (map (λ p. key p t cap) ps) → FindsWithin cap (stages_rule look t cap before ps)
  unfolding stages_rule
  stages_found t cap before [] small some all = (before, refl, omega arith, small)
  stages_found t cap before (p ∷ ps) small some all =
      let here = head_all (Finds look) (key p t cap) (map (λ q. key q t cap) ps) all in
      let rest = stages_found t cap (capped cap (before + here.0)) ps (omega arith) (omega (arith, here.2)) (tail_all (Finds look) (key p t cap) (map (λ q. key q t cap) ps) all) in
      (rest.0, rw here.1 rest.1, rest.2, rest.3)

  workers_found : (part : ℕ) (bound : ℕ → ℕ) (cap low k : ℕ) → All (Finds look) (worker_keys part bound cap low k) → FindsWithin cap (workers_rule look part bound cap low k)
  unfolding workers_rule worker_keys
  workers_found part bound cap low zero all = (cap + 1, refl, omega arith, omega arith)
  workers_found part bound cap low (suc k) all =
      let n : ℕ = low + k in
      let last = key part (bound n) ((cap - 2) / n) in
      let before = workers_found part bound cap low k (front_all (Finds look) (worker_keys part bound cap low k) last all) in
      let here = last_all (Finds look) (worker_keys part bound cap low k) last all in
      (min before.0 (2 + n * here.0), rw (before.1, here.1) refl, omega (arith, before.2), omega (arith, before.3))

  pub rule_found : (c : NodeCost) (parts : List ℕ) (t cap : ℕ) → 1 ≤ cap → (c ≡ Stages → 1 ≤ length parts) → All (Finds look) (dependencies_of c parts t cap) → FindsWithin cap (rule_of look c parts t cap)
  unfolding rule_of dependencies_of
  rule_found (Unit s) parts t cap room some all =
      elim (cases_Bool (leb s t)) [
        | inl holds ↦ (1, rw holds refl, omega arith, omega arith)
        | inr fails ↦ (cap + 1, rw fails refl, omega arith, omega arith)
      ]
  rule_found Stages parts t cap room some all = let parts_some = some refl in stages_found t cap 0 parts (omega arith) (omega arith) all
  rule_found (Workers r h e) parts t cap room some all =
      elim (cases_Bool (leb e t)) [
        | inl holds ↦
            let w = workers_found (slice_index parts 0) (part_bound h t) cap (low_of r) (run_of r cap) (rw holds at all) in
            (w.0, rw holds w.1, w.2, w.3)
        | inr fails ↦ (cap + 1, rw fails refl, omega arith, omega arith)
      ]
  rule_found (Segments r fold) parts t cap room some all = let p = segments_found r fold t cap in (segments_rule r fold t cap, refl, p.0, p.1)
  rule_found (Loop turns e) parts t cap room some all =
      elim (cases_Bool (leb e t && leb 3 cap)) [
        | inl holds ↦
            let here = head_all (Finds look) (key (slice_index parts 0) (t / turns) (cap - 2)) [] (rw holds at all) in
            (capped cap (2 + here.0), rw (holds, here.1) refl, omega arith, omega arith)
        | inr fails ↦ (cap + 1, rw fails refl, omega arith, omega arith)
      ]

-- ---- what a rule depends on

then_same : (r : Result ℕ Key) (f g : ℕ → Result ℕ Key) → ((n : ℕ) → f n ≡ g n) → and_then r f ≡ and_then r g
then_same (Ok n) f g same = same n
then_same (Err k) f g same = refl

module _ (look other : Key → Result ℕ Key) where
  abbrev Same : Key → Type 0
  Same k = look k ≡ other k

  stages_same : (t cap before : ℕ) (ps : List ℕ) → All Same (map (λ p. key p t cap) ps) → stages_rule look t cap before ps ≡ stages_rule other t cap before ps
  unfolding stages_rule
  stages_same t cap before [] all = refl
  stages_same t cap before (p ∷ ps) all =
      let here = head_all Same (key p t cap) (map (λ q. key q t cap) ps) all in
      let rest = tail_all Same (key p t cap) (map (λ q. key q t cap) ps) all in
      ap (λ r. and_then r (λ least. stages_rule look t cap (capped cap (before + least)) ps)) here
      ∙ then_same (other (key p t cap)) (λ least. stages_rule look t cap (capped cap (before + least)) ps) (λ least. stages_rule other t cap (capped cap (before + least)) ps) (λ least. stages_same t cap (capped cap (before + least)) ps rest)

  workers_same : (part : ℕ) (bound : ℕ → ℕ) (cap low k : ℕ) → All Same (worker_keys part bound cap low k) → workers_rule look part bound cap low k ≡ workers_rule other part bound cap low k
  unfolding workers_rule worker_keys
  workers_same part bound cap low zero all = refl
  workers_same part bound cap low (suc k) all =
      let n : ℕ = low + k in
      let last = key part (bound n) ((cap - 2) / n) in
      let here = last_all Same (worker_keys part bound cap low k) last all in
      ap (λ r. and_then r (workers_step look part bound cap n)) (workers_same part bound cap low k (front_all Same (worker_keys part bound cap low k) last all))
      ∙ then_same (workers_rule other part bound cap low k) (workers_step look part bound cap n) (workers_step other part bound cap n) (λ best. ap (λ r. and_then r (λ least. Ok (min best (2 + n * least)))) here)

  pub rule_same : (c : NodeCost) (parts : List ℕ) (t cap : ℕ) → All Same (dependencies_of c parts t cap) → rule_of look c parts t cap ≡ rule_of other c parts t cap
  unfolding rule_of dependencies_of
  rule_same (Unit s) parts t cap all = refl
  rule_same Stages parts t cap all = stages_same t cap 0 parts all
  rule_same (Workers r h e) parts t cap all =
      elim (cases_Bool (leb e t)) [
        | inl holds ↦ rw holds (workers_same (slice_index parts 0) (part_bound h t) cap (low_of r) (run_of r cap) (rw holds at all))
        | inr fails ↦ rw fails refl
      ]
  rule_same (Segments r fold) parts t cap all = refl
  rule_same (Loop turns e) parts t cap all =
      elim (cases_Bool (leb e t && leb 3 cap)) [
        | inl holds ↦ rw holds (ap (λ r. and_then r (λ least. Ok (capped cap (2 + least)))) (head_all Same (key (slice_index parts 0) (t / turns) (cap - 2)) [] (rw holds at all)))
        | inr fails ↦ rw fails refl
      ]
