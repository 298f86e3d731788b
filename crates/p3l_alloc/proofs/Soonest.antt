-- The soonest service time within a number of processes, form by form.
use Rattle.std.proofs.Common.{◌≡◌, ℕ, ◌+◌, ◌-◌, ◌*◌, ◌/◌, ◌^◌, ◌==◌, ◌≤◌, ◌<◌, max, min, false, List, [], ◌∷◌, ◌++◌, take, drop, refl, sym, ap, ◌∙◌, subst, arith, inl, inr}
use Rattle.std.specs.Prelude.{slice_index_or}
use Rattle.std.specs.Int.{div_ceil}
use Rattle.std.proofs.Math.Nat.{mul-le-mul, mul-le-mul_left, mul-le-mul_right, mul-div-le}
use Rattle.std.proofs.Math.Pow.{pow_mono}
use Rattle.std.proofs.lemmas.Nat.{le-div}
use Rattle.std.proofs.lemmas.Bool.{cases_lt}
use Rattle.std.proofs.lemmas.Bool.Decides.{nat_tests, leb_tells}
use Rattle.p3l_skel.specs.Numbers.{joined_procs}
use Rattle.p3l_model.specs.declared.cost.Span.{Span}
use Rattle.p3l_model.specs.declared.cost.Sharing.{Sharing}
use Rattle.p3l_model.specs.declared.cost.Sharing.TheVariants.{Items, Elements}
use Rattle.p3l_model.specs.declared.cost.FoldCost.{FoldCost}
use Rattle.p3l_model.specs.NodeCost.{never, timed, shared, segments_service}
use Rattle.p3l_model.specs.Costed.{Costed, Empty, Leaf, Both, Workers, Segments, Loop, IsIn, AreSegments, size, run_procs, run_service, IsLawfulRun}
use Rattle.p3l_model.specs.Least.{FitsRun}
use Rattle.p3l_model.proofs.Rules.{ceil_le, le_ceil, le_times, some_process, joined_lawful, joined_run_procs, joined_service}
use Rattle.p3l_model.proofs.Timed.{bounded}
use Rattle.p3l_alloc.specs.Soonest.{IsSoonest, IsRow, IsShared, IsCrossing, shared_time, split_time}

pub leaf_soonest : (s p : ℕ) → 1 ≤ p → IsSoonest (Leaf s) p (min s never)
unfolding IsLawfulRun run_service run_procs
leaf_soonest s p some = record {
  top = omega arith;
  below = λ xs f. omega arith;
  reached = λ less. ([], record { lawful = refl; few = some }, omega arith);
}

-- nothing that fits has a service time before never
pub late_soonest : (a : Costed) (p : ℕ) → ((xs : List ℕ) → FitsRun a p xs → never ≤ run_service a xs) → IsSoonest a p never
late_soonest a p late = record {
  top = omega arith;
  below = late;
  reached = λ less. absurd (omega arith);
}

pub leaf_late : (s : ℕ) → IsSoonest (Leaf s) 0 never
unfolding run_procs
leaf_late s = late_soonest (Leaf s) 0 (λ xs f. let few = f.few in absurd (omega (arith, few)))

pub empty_soonest : (p : ℕ) → IsSoonest Empty p 0
unfolding IsLawfulRun run_service run_procs
empty_soonest p = record {
  top = omega arith;
  below = λ xs f. omega arith;
  reached = λ less. ([], record { lawful = refl; few = omega arith }, refl);
}

module _ (t e p : ℕ) (a : Costed) where
  pub loop_late : p < 2 → IsSoonest (Loop t e a) p never
  unfolding run_procs
  loop_late few = late_soonest (Loop t e a) p (λ xs f. let least = f.few in absurd (omega (arith, least)))

  -- the body is too late, and so is the loop
  pub loop_never : (u : ℕ) → 1 ≤ t → 2 ≤ p → never ≤ u → IsSoonest a (p - 2) u → IsSoonest (Loop t e a) p never
  unfolding IsLawfulRun run_service run_procs
  loop_never u some room late body = late_soonest (Loop t e a) p (λ xs f.
      let few = f.few in
      let part = body.below xs (record { lawful = f.lawful; few = omega arith }) in
      let once : 1 * run_service a xs ≤ t * run_service a xs = mul-le-mul_right (run_service a xs) some in
      omega arith)

  pub loop_soonest : (u : ℕ) → 2 ≤ p → u < never → IsSoonest a (p - 2) u → IsSoonest (Loop t e a) p (min (max e (t * u)) never)
  unfolding IsLawfulRun run_service run_procs
  loop_soonest u room soon body = record {
    top = omega arith;
    below = λ xs f.
        let few = f.few in
        let part = body.below xs (record { lawful = f.lawful; few = omega arith }) in
        let turned = mul-le-mul_left t part in omega arith;
    reached = λ less.
        let o = body.reached soon in
        let few = o.1.few in
        (o.0, record { lawful = o.1.lawful; few = omega arith }, ap (λ x. max e (t * x)) o.2 ∙ omega arith);
  }

-- a share of less among more workers is no greater
share-mono : (h : Sharing) (n m u v : ℕ) → 1 ≤ m → m ≤ n → u ≤ v → shared h n u ≤ shared h m v
share-mono Items n m u v some more less =
    let whole = ceil_le v m (div_ceil v m) some (omega arith) in
    let grown : m * div_ceil v m ≤ n * div_ceil v m = mul-le-mul_right (div_ceil v m) more in
    le_ceil u n (div_ceil v m) (omega arith) (omega arith)
share-mono (Elements c) n m u v some more less =
    let whole = ceil_le c m (div_ceil c m) some (omega arith) in
    let grown : m * div_ceil c m ≤ n * div_ceil c m = mul-le-mul_right (div_ceil c m) more in
    let fewer = le_ceil c n (div_ceil c m) (omega arith) (omega arith) in
    mul-le-mul fewer less

-- the last number of workers that leaves `each` processes to each is no smaller than the others
pub last_grows : (p n each : ℕ) → 1 ≤ n → n ≤ p - 2 → each ≡ (p - 2) / n → n ≤ (p - 2) / each
last_grows p n each some room is =
    let one : 1 ≤ each = rw is (le-div 1 (p - 2) n some (omega arith)) in
    let down : n * each ≤ p - 2 = rw is (mul-div-le (p - 2) n) in
    le-div n (p - 2) each one (omega arith)

-- the best service time of the counts with fewer workers than n
pub record IsBestBefore (w : Costed) (p n best : ℕ) : Type 0 where
  pub top : best ≤ never
  pub below : (m : ℕ) (xs : List ℕ) → m < n → FitsRun w p (m ∷ xs) → best ≤ run_service w (m ∷ xs)
  pub reached : best < never → (xs : List ℕ) × FitsRun w p xs × (run_service w xs ≡ best)

module _ (r : Span) (h : Sharing) (e p : ℕ) (a : Costed) (row : List ℕ) (part : IsShared h a p row) where
  w : Costed
  w = Workers r h e a

  -- the counts of workers, taken apart
  opened : (m : ℕ) (xs : List ℕ) → FitsRun (Workers r h e a) p (m ∷ xs) → IsIn r m × IsLawfulRun a xs × (m * run_procs a xs ≤ p - 2) × (2 ≤ p)
  unfolding IsLawfulRun run_procs
  opened m xs f = let few = f.few in (f.lawful.0, f.lawful.1, omega arith, omega arith)

  made : (m : ℕ) (xs : List ℕ) → IsIn r m → FitsRun a ((p - 2) / m) xs → 2 ≤ p → FitsRun (Workers r h e a) p (m ∷ xs)
  unfolding IsLawfulRun run_procs
  made m xs i f room = record {
    lawful = (i, f.lawful);
    few = let few = mul-le-mul_left m f.few in let down = mul-div-le (p - 2) m in omega arith;
  }

  time : (m : ℕ) (xs : List ℕ) → run_service (Workers r h e a) (m ∷ xs) ≡ max e (shared h m (run_service a xs))
  unfolding run_service
  time m xs = refl

  pub workers_start : (n : ℕ) → n ≡ max r.low 1 → IsBestBefore (Workers r h e a) p n never
  workers_start n is = record {
    top = omega arith;
    below = λ m xs before f. let o = opened m xs f in absurd (omega (arith, o.0.0, o.0.1));
    reached = λ less. absurd (omega arith);
  }

  -- the last number of workers that leaves `each` processes to each is the best of them
  shared-below : (n each last m : ℕ) (xs : List ℕ) → 1 ≤ n → each ≡ (p - 2) / n → n ≤ m → m ≤ last → FitsRun (Workers r h e a) p (m ∷ xs) → shared_time h e last (slice_index_or row each never) ≤ run_service (Workers r h e a) (m ∷ xs)
  shared-below n each last m xs some is from to f =
      let o = opened m xs f in
      let u = slice_index_or row each never in
      let fewer : n * run_procs a xs ≤ m * run_procs a xs = mul-le-mul_right (run_procs a xs) from in
      let few : run_procs a xs ≤ (p - 2) / n = le-div (run_procs a xs) (p - 2) n some (omega (arith, o.2)) in
      let within : each ≤ p = let down = mul-div-le (p - 2) n in let once : 1 * ((p - 2) / n) ≤ n * ((p - 2) / n) = mul-le-mul_right ((p - 2) / n) some in omega arith in
      let soon = (part.soonest each within).below xs (record { lawful = o.1; few = omega arith }) in
      let bound = bounded a xs o.1 in
      let slow = part.slow in
      let share = share-mono h last m u (run_service a xs) o.0.0 to soon in
      elim (leb_tells never u) [
        | inl late ↦ absurd (omega (arith, late.1))
        | inr early ↦ rw early.0 (omega (arith, share, time m xs))
      ]

  pub workers_step : (n each last best new : ℕ) → 1 ≤ n → r.low ≤ n → n ≤ r.high → n ≤ p - 2 → each ≡ (p - 2) / n → last ≡ min ((p - 2) / each) r.high → new ≡ min best (shared_time h e last (slice_index_or row each never)) → IsBestBefore (Workers r h e a) p n best → IsBestBefore (Workers r h e a) p (last + 1) new
  workers_step n each last best new some low high room is ends more b =
      let u = slice_index_or row each never in
      let one : 1 ≤ each = rw is (le-div 1 (p - 2) n some (omega arith)) in
      let down : n * each ≤ p - 2 = rw is (mul-div-le (p - 2) n) in
      let whole : n ≤ (p - 2) / each = le-div n (p - 2) each one (omega arith) in
      let from : n ≤ last = omega arith in
      let top = b.top in
      record {
        top = omega arith;
        below = λ m xs before f. elim (cases_lt m n) [
          | inl old ↦ let q = b.below m xs old f in omega (arith, q)
          | inr late ↦ let q = shared-below n each last m xs some is late (omega arith) f in omega (arith, q)
        ];
        reached = λ less. elim (cases_lt best never) [
          | inl early ↦ elim (cases_lt (shared_time h e last u) best) [
            | inl better ↦ found each last some new from one ends (omega arith) (omega arith) room high low
            | inr same ↦ let o = b.reached early in (o.0, o.1, o.2 ∙ omega arith)
          ]
          | inr late ↦ found each last some new from one ends (omega arith) (omega arith) room high low
        ];
      }
    where
      found : (each last : ℕ) → 1 ≤ n → (new : ℕ) → n ≤ last → 1 ≤ each → last ≡ min ((p - 2) / each) r.high → new ≡ shared_time h e last (slice_index_or row each never) → new < never → n ≤ p - 2 → n ≤ r.high → r.low ≤ n → (xs : List ℕ) × FitsRun (Workers r h e a) p xs × (run_service (Workers r h e a) xs ≡ new)
      found each last some new from one ends now less room high low =
          let u = slice_index_or row each never in
          let count : 1 ≤ last = omega arith in
          let all : last * each ≤ p - 2 = let q = le_times each last (p - 2) (omega arith) in omega (arith, q) in
          let within : each ≤ p = let once : 1 * each ≤ last * each = mul-le-mul_right each count in omega arith in
          elim (leb_tells never u) [
            | inl late ↦ let e' : new ≡ never = now ∙ rw late.0 refl in absurd (omega arith)
            | inr early ↦
                let o = (part.soonest each within).reached (omega (arith, early.1)) in
                let time' : new ≡ min (max e (timed (shared h last u))) never = now ∙ rw early.0 refl in
                let fits : run_procs a o.0 ≤ (p - 2) / last = le-div (run_procs a o.0) (p - 2) last count
                (let few = mul-le-mul_left last o.1.few in omega arith) in
                (last ∷ o.0, made last o.0 (count, omega arith, omega arith) (record { lawful = o.1.lawful; few = fits }) (omega arith), time last o.0 ∙ (ap (λ x. max e (shared h last x)) o.2 ∙ omega arith))
          ]

  -- all numbers that fit have been tried
  pub workers_end : (n best : ℕ) → min r.high (p - 2) < n → IsBestBefore (Workers r h e a) p n best → IsSoonest (Workers r h e a) p best
  unfolding IsLawfulRun
  workers_end n best past b = record { top = b.top; below = all; reached = b.reached }
    where
      all : (ys : List ℕ) → FitsRun (Workers r h e a) p ys → best ≤ run_service (Workers r h e a) ys
      all [] f = absurd f.lawful
      all (m ∷ xs) f =
          let o = opened m xs f in
          let one = mul-le-mul_left m (some_process a xs part.process o.1) in
          let within : m < n = omega (arith, o.0.2, o.2, one) in
          b.below m xs within f

-- the best service time of the powers of two of segments below a level
pub record IsBestBelow (r : Span) (fold : FoldCost) (p level best : ℕ) : Type 0 where
  pub top : best ≤ never
  pub below : (k : ℕ) → k < level → IsIn r (2 ^ k) → joined_procs (2 ^ k) ≤ p → best ≤ segments_service fold (2 ^ k)
  pub reached : best < never → (m : ℕ) × AreSegments r m × (joined_procs m ≤ p) × (segments_service fold m ≡ best)

pub segments_start : (r : Span) (fold : FoldCost) (p : ℕ) → IsBestBelow r fold p 0 never
segments_start r fold p = record {
  top = omega arith;
  below = λ k before i few. absurd (omega arith);
  reached = λ less. absurd (omega arith);
}

-- one level that may be taken
pub segments_more : (r : Span) (fold : FoldCost) (p level m best new : ℕ) → m ≡ 2 ^ level → 1 ≤ m → r.low ≤ m → m ≤ r.high → joined_procs m ≤ p → new ≡ min best (timed (segments_service fold m)) → IsBestBelow r fold p level best → IsBestBelow r fold p (level + 1) new
segments_more r fold p level m best new is some low high few more b = record {
  top = let top = b.top in omega arith;
  below = λ k before i fits. elim (cases_lt k level) [
    | inl old ↦ let q = b.below k old i fits in omega (arith, q)
    | inr late ↦ let e : k ≡ level = omega arith in
        let same : m ≡ 2 ^ k = is ∙ ap (λ x. 2 ^ x) (sym e) in
        subst (λ x. new ≤ segments_service fold x) same (omega arith)
  ];
  reached = λ less. elim (cases_lt best (timed (segments_service fold m))) [
    | inl old ↦ let o = b.reached (omega arith) in (o.0, o.1, o.2, o.3 ∙ omega arith)
    | inr here ↦ (m, ((level, is), (some, low, high)), few, omega arith)
  ];
}

-- one level that may not
pub segments_same : (r : Span) (fold : FoldCost) (p level m best : ℕ) → m ≡ 2 ^ level → ((r.low ≤ m) × (m ≤ r.high) × (joined_procs m ≤ p) → ⊥) → IsBestBelow r fold p level best → IsBestBelow r fold p (level + 1) best
segments_same r fold p level m best is never' b = record {
  top = b.top;
  below = λ k before i fits. elim (cases_lt k level) [
    | inl old ↦ b.below k old i fits
    | inr late ↦ let e : k ≡ level = omega arith in
        let same : 2 ^ k ≡ m = ap (λ x. 2 ^ x) e ∙ sym is in
        absurd (never' (subst (λ x. (r.low ≤ x) × (x ≤ r.high) × (joined_procs x ≤ p)) same (i.1, i.2, fits)))
  ];
  reached = b.reached;
}

pub segments_end : (r : Span) (fold : FoldCost) (p best : ℕ) → p ≤ 512 → IsBestBelow r fold p 10 best → IsSoonest (Segments r fold) p best
unfolding IsLawfulRun run_procs run_service
segments_end r fold p best small b = record {
  top = b.top;
  below = all;
  reached = λ less. let o = b.reached less in (o.0 ∷ [], record { lawful = (o.1, refl); few = o.2 }, o.3);
}
  where
    few_levels : (k : ℕ) → joined_procs (2 ^ k) ≤ p → k < 10
    few_levels k fits =
        elim (cases_lt k 10) [
          | inl less ↦ less
          | inr more ↦ let power : 2 ^ 10 ≤ 2 ^ k = pow_mono more in
              let test : (2 ^ k == 1) ≡ false = grind (arith, nat_tests) in
              let twice : 2 * 2 ^ k ≤ p = rw test at fits in absurd (omega arith)
        ]

    all : (ys : List ℕ) → FitsRun (Segments r fold) p ys → best ≤ run_service (Segments r fold) ys
    all [] f = absurd f.lawful
    all (m ∷ xs) f =
        let k = f.lawful.0.0.0 in
        let is = f.lawful.0.0.1 in
        let fits : joined_procs (2 ^ k) ≤ p = subst (λ x. joined_procs x ≤ p) is f.few in
        subst (λ x. best ≤ segments_service fold x) (sym is) (b.below k (few_levels k fits) (subst (IsIn r) is f.lawful.0.1) fits)

module _ (a b : Costed) (p : ℕ) where
  -- the first part gets q processes, and the second the rest
  split_reached : (q u v : ℕ) → q ≤ p → IsSoonest a q u → IsSoonest b (p - q) v → max u v < never → (zs : List ℕ) × FitsRun (Both a b) p zs × (run_service (Both a b) zs ≡ max u v)
  unfolding IsLawfulRun run_procs run_service
  split_reached q u v within left right less =
      let x = left.reached (omega arith) in
      let y = right.reached (omega arith) in
      let cost = joined_run_procs a b x.0 y.0 x.1.lawful in
      let few = x.1.few in
      let fewer = y.1.few in
      (x.0 ++ y.0, record { lawful = joined_lawful a b x.0 y.0 x.1.lawful y.1.lawful; few = omega (arith, cost) }, joined_service a b x.0 y.0 x.1.lawful ∙ omega (arith, x.2, y.2))

  -- counts that give the first part at most q processes are no sooner than that part with q
  first_below : (q u : ℕ) → IsSoonest a q u → (zs : List ℕ) → FitsRun (Both a b) p zs → run_procs a (take (size a) zs) ≤ q → u ≤ run_service (Both a b) zs
  unfolding IsLawfulRun run_procs run_service
  first_below q u left zs f few =
      let one = left.below (take (size a) zs) (record { lawful = f.lawful.0; few = few }) in
      omega (arith, one)

  -- counts that give it at least q are no sooner than the second part with the rest
  second_below : (q v : ℕ) → IsSoonest b (p - q) v → (zs : List ℕ) → FitsRun (Both a b) p zs → q ≤ run_procs a (take (size a) zs) → v ≤ run_service (Both a b) zs
  unfolding IsLawfulRun run_procs run_service
  second_below q v right zs f many =
      let few = f.few in
      let two = right.below (drop (size a) zs) (record { lawful = f.lawful.1; few = omega arith }) in
      omega (arith, two)

  first_within : (zs : List ℕ) → FitsRun (Both a b) p zs → run_procs a (take (size a) zs) ≤ p
  unfolding run_procs
  first_within zs f = let few = f.few in omega arith

  -- the soonest time of two parts is at the crossing of their times, or with one process fewer for the first
  pub both_soonest : (first others : List ℕ) (given best : ℕ) → IsRow a p first → IsRow b p others → IsCrossing first others p given → best ≡ min (split_time first others p given) (split_time first others p (given - 1)) → IsSoonest (Both a b) p best
  both_soonest first others given best left right c is = record { top = top; below = below; reached = reached }
    where
      within : given ≤ p
      within = c.within

      one : (q : ℕ) → q ≤ p → IsSoonest a q (slice_index_or first q never)
      one q less = left q less

      two : (q : ℕ) → IsSoonest b (p - q) (slice_index_or others (p - q) never)
      two q = right (p - q) (omega arith)

      top : best ≤ never
      top = let u = (one given within).top in let v = (two given).top in omega (arith, u, v, is)

      below : (zs : List ℕ) → FitsRun (Both a b) p zs → best ≤ run_service (Both a b) zs
      below zs f =
          let most = first_within zs f in
          elim (cases_lt (run_procs a (take (size a) zs)) given) [
            | inl fewer ↦
                let late = c.before (omega arith) in
                let time = first_below (given - 1) (slice_index_or first (given - 1) never) (one (given - 1) (omega (arith, within))) zs f (omega arith) in
                omega (arith, late, time, is)
            | inr more ↦
                let time = second_below given (slice_index_or others (p - given) never) (two given) zs f more in
                elim (cases_lt given p) [
                  | inl some ↦ let soon = c.from some in omega (arith, soon, time, is)
                  | inr all ↦
                      let full = first_below given (slice_index_or first given never) (one given within) zs f (omega (arith, most, all)) in
                      omega (arith, full, time, is)
                ]
          ]

      reached : best < never → (zs : List ℕ) × FitsRun (Both a b) p zs × (run_service (Both a b) zs ≡ best)
      reached less = elim (cases_lt (split_time first others p (given - 1)) (split_time first others p given)) [
        | inl fewer ↦
            let o = split_reached (given - 1) (slice_index_or first (given - 1) never) (slice_index_or others (p - (given - 1)) never) (omega (arith, within)) (one (given - 1) (omega (arith, within))) (two (given - 1)) (omega (arith, is)) in
            (o.0, o.1, o.2 ∙ omega (arith, is))
        | inr here ↦
            let o = split_reached given (slice_index_or first given never) (slice_index_or others (p - given) never) within (one given within) (two given) (omega (arith, is)) in
            (o.0, o.1, o.2 ∙ omega (arith, is))
      ]
