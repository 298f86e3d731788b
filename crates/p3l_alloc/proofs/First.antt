-- The first counts in lexicographic order, part by part.
use Rattle.std.proofs.Common.{◌≡◌, ℕ, zero, suc, ◌+◌, ◌-◌, ◌*◌, ◌/◌, ◌^◌, ◌==◌, ◌≤◌, ◌<◌, false, min, List, [], ◌∷◌, ◌++◌, take, drop, get_or, length, refl, sym, ap, ap₂, ◌∙◌, subst, arith, inl, inr}
use Rattle.std.specs.Prelude.{slice_index_or}
use Rattle.std.proofs.Math.Nat.{mul-le-mul_left, mul-le-mul_right, mul-div-le}
use Rattle.std.proofs.Math.Pow.{pow_mono}
use Rattle.std.proofs.lemmas.Nat.{le-div}
use Rattle.std.proofs.lemmas.List.{take-append-drop, get_or_past}
use Rattle.std.proofs.lemmas.Bool.{cases_order, cases_lt}
use Rattle.std.proofs.lemmas.Bool.Decides.{leb_tells, nat_tests}
use Rattle.p3l_skel.specs.Numbers.{joined_procs}
use Rattle.p3l_model.specs.declared.cost.Span.{Span}
use Rattle.p3l_model.specs.declared.cost.Sharing.{Sharing}
use Rattle.p3l_model.specs.declared.cost.FoldCost.{FoldCost}
use Rattle.p3l_model.specs.NodeCost.{never, segments_service}
use Rattle.p3l_model.specs.Costed.{Costed, Empty, Leaf, Both, Workers, Segments, Loop, IsIn, AreSegments, size, run_procs, run_service, IsLawfulRun, slowest}
use Rattle.p3l_model.specs.Least.{Serves, IsCounted, part_bound}
use Rattle.p3l_model.specs.Optimal.{IsNoLater}
use Rattle.p3l_model.proofs.Rules.{joined, joined_run_procs, separated, lawful_length, le_times, times_le, some_process, workers_counted}
use Rattle.p3l_model.proofs.Timed.{bounded}
use Rattle.p3l_alloc.specs.Soonest.{IsRow, IsShared}
use Rattle.p3l_alloc.specs.Walk.{first_within, latest, part_time, IsFirst, CanServe, IsFewest, IsFirstCount, IsFirstSegments}

lex_append : (xs zs ys ws : List ℕ) → length xs ≡ length zs → IsNoLater xs zs → (xs ≡ zs → IsNoLater ys ws) → IsNoLater (xs ++ ys) (zs ++ ws)
unfolding IsNoLater
lex_append [] [] ys ws e h k = k refl
lex_append [] (z ∷ zs) ys ws e h k = absurd (omega arith)
lex_append (x ∷ xs) [] ys ws e h k = absurd h
lex_append (x ∷ xs) (z ∷ zs) ys ws e h k =
    elim h [
      | inl lt ↦ inl lt
      | inr same ↦ inr (same.0, lex_append xs zs ys ws (omega arith) same.1 (λ q. k (ap₂ (λ i js. i ∷ js) same.0 q)))
    ]

-- a time that is counted as far as the last before never serves as well
pub serves_timed : (a : Costed) (t : ℕ) (xs : List ℕ) → slowest a < never → Serves a t xs → Serves a (min t latest) xs
serves_timed a t xs slow s = record { lawful = s.lawful; soon = let soon = s.soon in let b = bounded a xs s.lawful in omega (arith, b) }

pub timed_serves : (a : Costed) (t : ℕ) (xs : List ℕ) → Serves a (min t latest) xs → Serves a t xs
timed_serves a t xs s = record { lawful = s.lawful; soon = let soon = s.soon in omega arith }

pub first_timed : (a : Costed) (t p : ℕ) (xs : List ℕ) → slowest a < never → IsFirst a (min t latest) p xs → IsFirst a t p xs
first_timed a t p xs slow f = record {
  serves = timed_serves a t xs f.serves;
  few = f.few;
  first = λ ys s few. f.first ys (serves_timed a t ys slow s) few;
}

pub leaf_first : (s t p : ℕ) → CanServe (Leaf s) t p → IsFirst (Leaf s) t p []
unfolding IsLawfulRun run_service run_procs IsNoLater
leaf_first s t p can = record {
  serves = record { lawful = refl; soon = can.serves.soon };
  few = can.few;
  first = λ ys w few. tt;
}

pub empty_first : (t p : ℕ) → IsFirst Empty t p []
unfolding IsLawfulRun run_service run_procs IsNoLater
empty_first t p = record {
  serves = record { lawful = refl; soon = omega arith };
  few = omega arith;
  first = λ ys w few. tt;
}

module _ (a b : Costed) (t p cap l : ℕ) (least : IsFewest b t cap l) (small : p ≤ cap) where
  -- the first part can serve with the processes left by the fewest of the second
  pub both_room : CanServe (Both a b) t p → CanServe a t (p - l) × (l ≤ p)
  unfolding run_procs
  both_room can =
      let o = separated a b t can.counts can.serves in
      let few = can.few in
      let one = least.below (drop (size a) can.counts) o.1 (omega arith) in
      (record { counts = take (size a) can.counts; serves = o.0; few = omega (arith, one) }, omega (arith, one))

  pub rest_room : (used : ℕ) → used + l ≤ p → CanServe b t (p - used)
  rest_room used fits =
      let o = least.reached in
      record { counts = o.0; serves = o.1; few = omega (arith, o.2) }

  both_before : (xs ys zs : List ℕ) → IsFirst a t (p - l) xs → IsFirst b t (p - run_procs a xs) ys → Serves (Both a b) t zs → run_procs (Both a b) zs ≤ p → IsNoLater (xs ++ ys) zs
  unfolding run_procs
  both_before xs ys zs f g w few =
      let o = separated a b t zs w in
      let one = least.below (drop (size a) zs) o.1 (omega arith) in
      let same : length xs ≡ length (take (size a) zs) = lawful_length a xs f.serves.lawful ∙ sym (lawful_length a (take (size a) zs) o.0.lawful) in
      subst (λ z. IsNoLater (xs ++ ys) z) (take-append-drop (size a) zs)
      (lex_append xs (take (size a) zs) ys (drop (size a) zs) same (f.first (take (size a) zs) o.0 (omega (arith, one)))
      (λ e. g.first (drop (size a) zs) o.1 (let k = ap (run_procs a) e in omega (arith, k))))

  -- the first part leaves the least that the second needs
  pub both_first : (xs ys : List ℕ) → l ≤ p → IsFirst a t (p - l) xs → IsFirst b t (p - run_procs a xs) ys → IsFirst (Both a b) t p (xs ++ ys)
  both_first xs ys room f g = record {
    serves = joined a b t xs ys f.serves g.serves;
    few = let c = joined_run_procs a b xs ys f.serves.lawful in let q = g.few in let r = f.few in omega (arith, c, q);
    first = λ zs w few. both_before xs ys zs f g w few;
  }

pub both_fewest : (a b : Costed) (t cap u v : ℕ) → IsFewest a t cap u → IsFewest b t cap v → IsFewest (Both a b) t cap (u + v)
unfolding run_procs
both_fewest a b t cap u v p q = record {
  below = λ xs s few.
      let o = separated a b t xs s in
      let x = p.below (take (size a) xs) o.0 (omega arith) in
      let y = q.below (drop (size a) xs) o.1 (omega arith) in
      omega (arith, x, y);
  reached =
      let x = p.reached in
      let y = q.reached in
      (x.0 ++ y.0, joined a b t x.0 y.0 x.1 y.1, joined_run_procs a b x.0 y.0 x.1.lawful ∙ omega (arith, x.2, y.2));
}

pub empty_fewest : (t cap : ℕ) → IsFewest Empty t cap 0
unfolding IsLawfulRun run_service run_procs
empty_fewest t cap = record {
  below = λ xs s few. omega arith;
  reached = ([], record { lawful = refl; soon = omega arith }, refl);
}

-- the entries before the first within a time are later
within_before : (t : ℕ) (row : List ℕ) (q d : ℕ) → q < first_within t row → t < get_or row q d
within_before t [] q d h = absurd (omega arith)
within_before t (x ∷ xs) zero d h =
    elim (leb_tells x t) [
      | inl near ↦ let z = rw near.0 at h in absurd (omega arith)
      | inr far ↦ far.1
    ]
within_before t (x ∷ xs) (suc q) d h =
    elim (leb_tells x t) [
      | inl near ↦ let z = rw near.0 at h in absurd (omega arith)
      | inr far ↦ let z = rw far.0 at h in within_before t xs q d (omega arith)
    ]

-- and the first is within it, unless the row ends
within_here : (t : ℕ) (row : List ℕ) (d : ℕ) → first_within t row < length row → get_or row (first_within t row) d ≤ t
within_here t [] d h = absurd (omega arith)
within_here t (x ∷ xs) d h =
    elim (leb_tells x t) [
      | inl near ↦ rw near.0 near.1
      | inr far ↦ let z = rw far.0 at h in rw far.0 (within_here t xs d (omega arith))
    ]

pub row_fewest : (a : Costed) (t most p : ℕ) (row : List ℕ) → IsRow a most row → t < never → p ≤ most → CanServe a t p → IsFewest a t most (first_within t row)
row_fewest a t most p row rows early small can = record { below = least; reached = found }
  where
    least : (xs : List ℕ) → Serves a t xs → run_procs a xs ≤ most → first_within t row ≤ run_procs a xs
    least xs s few =
        elim (cases_lt (run_procs a xs) (first_within t row)) [
          | inl before ↦
              let late = within_before t row (run_procs a xs) never before in
              let soon = s.soon in
              let entry = (rows (run_procs a xs) few).below xs (record { lawful = s.lawful; few = omega arith }) in
              absurd (omega (arith, late, entry))
          | inr after ↦ after
        ]

    found : (xs : List ℕ) × Serves a t xs × (run_procs a xs ≡ first_within t row)
    found =
        let few = can.few in
        let l = first_within t row in
        let fits = least can.counts can.serves (omega arith) in
        elim (cases_lt l (length row)) [
          | inl inside ↦
              let here = within_here t row never inside in
              let o = (rows l (omega arith)).reached (omega (arith, here)) in
              let serves : Serves a t o.0 = record { lawful = o.1.lawful; soon = omega (arith, here, o.2) } in
              let more = o.1.few in
              let back = least o.0 serves (omega arith) in
              (o.0, serves, omega (arith, back))
          | inr past ↦
              let none : get_or row (run_procs a can.counts) never ≡ never = get_or_past row (run_procs a can.counts) never (omega arith) in
              let soon = can.serves.soon in
              let entry = (rows (run_procs a can.counts) (omega arith)).below can.counts (record { lawful = can.serves.lawful; few = omega arith }) in
              absurd (omega (arith, none, entry))
        ]

module _ (r : Span) (h : Sharing) (e t p : ℕ) (a : Costed) (row : List ℕ) (part : IsShared h a p row) (early : t < never) where
  counted : IsCounted (Workers r h e a) a r e t (part_bound h t)
  counted = workers_counted r h e a t part.sharing

  -- counts that serve have a number of workers whose part is soon enough
  opened : (ys : List ℕ) → Serves (Workers r h e a) t ys → run_procs (Workers r h e a) ys ≤ p → (m : ℕ) × (xs : List ℕ) × (ys ≡ m ∷ xs) × IsIn r m × (m + 2 ≤ p) × Serves a (part_time h t m) xs × (run_procs a xs ≤ (p - 2) / m)
  opened ys s few =
      let o = counted.out ys s in
      let m = o.0 in
      let xs = o.1 in
      let cost : run_procs (Workers r h e a) ys ≡ 2 + m * run_procs a xs = ap (run_procs (Workers r h e a)) o.2 ∙ counted.cost m xs in
      let one = mul-le-mul_left m (some_process a xs part.process o.5.lawful) in
      (m, xs, o.2, o.3, omega (arith, one, cost), serves_timed a (part_bound h t m) xs part.slow o.5, le-div (run_procs a xs) (p - 2) m o.3.0 (omega (arith, cost)))

  within : (m : ℕ) → 1 ≤ m → (p - 2) / m ≤ p
  within m some = let down = mul-div-le (p - 2) m in let once : 1 * ((p - 2) / m) ≤ m * ((p - 2) / m) = mul-le-mul_right ((p - 2) / m) some in omega arith

  soon_enough : (m : ℕ) (xs : List ℕ) → 1 ≤ m → Serves a (part_time h t m) xs → run_procs a xs ≤ (p - 2) / m → slice_index_or row ((p - 2) / m) never ≤ part_time h t m
  soon_enough m xs some s few =
      let q = (part.soonest ((p - 2) / m) (within m some)).below xs (record { lawful = s.lawful; few = few }) in
      let soon = s.soon in omega (arith, q)

  -- some number of workers is found
  pub count_found : CanServe (Workers r h e a) t p → ((m : ℕ) → IsIn r m → m + 2 ≤ p → part_time h t m < slice_index_or row ((p - 2) / m) never) → ⊥
  count_found can none =
      let o = opened can.counts can.serves can.few in
      let here = soon_enough o.0 o.1 o.3.0 o.5 o.6 in
      omega (arith, none o.0 o.3 o.4, here)

  -- and its part can stay within its time
  pub part_room : (n : ℕ) → IsFirstCount r h row t p n → CanServe a (part_time h t n) ((p - 2) / n)
  part_room n f =
      let here = f.here in
      let o = (part.soonest ((p - 2) / n) (within n f.inside.0)).reached (omega arith) in
      record { counts = o.0; serves = record { lawful = o.1.lawful; soon = omega (arith, o.2) }; few = o.1.few }

  head : (n m : ℕ) (xs zs : List ℕ) → (m < n → ⊥) → IsFirst a (part_time h t n) ((p - 2) / n) xs → Serves a (part_time h t m) zs → run_procs a zs ≤ (p - 2) / m → IsNoLater (n ∷ xs) (m ∷ zs)
  unfolding IsNoLater
  head n m xs zs never_less f s few =
      elim (cases_order n m) [
        | inl same ↦ inr (same, f.first zs (subst (λ z. Serves a (part_time h t z) zs) (sym same) s) (subst (λ z. run_procs a zs ≤ (p - 2) / z) (sym same) few))
        | inr apart ↦ elim apart [ inl lt ↦ inl lt | inr gt ↦ absurd (never_less gt) ]
      ]

  ends : CanServe (Workers r h e a) t p → e ≤ t
  ends can = (counted.out can.counts can.serves).4

  pub workers_first : (n : ℕ) (xs : List ℕ) → CanServe (Workers r h e a) t p → IsFirstCount r h row t p n → IsFirst a (part_time h t n) ((p - 2) / n) xs → IsFirst (Workers r h e a) t p (n ∷ xs)
  workers_first n xs can f g = record {
    serves = counted.into n xs f.inside (ends can) (timed_serves a (part_bound h t n) xs g.serves);
    few = let k = counted.cost n xs in let q = mul-le-mul_left n g.few in let down = mul-div-le (p - 2) n in let room = f.room in omega (arith, k, q, down);
    first = λ ys s few.
        let o = opened ys s few in
        subst (λ z. IsNoLater (n ∷ xs) z) (sym o.2)
        (head n o.0 xs o.1 (λ lt.
        let late = f.before o.0 o.3 lt in
        let here = soon_enough o.0 o.1 o.3.0 o.5 o.6 in
        omega (arith, late, here)) g o.5 o.6);
  }

taken_apart : (r : Span) (fold : FoldCost) (t p : ℕ) → ((m : ℕ) → AreSegments r m → joined_procs m ≤ p → t < segments_service fold m) → (ys : List ℕ) → IsLawfulRun (Segments r fold) ys → run_service (Segments r fold) ys ≤ t → run_procs (Segments r fold) ys ≤ p → ⊥
unfolding IsLawfulRun run_service run_procs
taken_apart r fold t p none [] l soon few = l
taken_apart r fold t p none (m ∷ ys) l soon few = omega (arith, none m l.0 few)

module _ (r : Span) (fold : FoldCost) (t p : ℕ) where
  pub segments_found : CanServe (Segments r fold) t p → ((m : ℕ) → AreSegments r m → joined_procs m ≤ p → t < segments_service fold m) → ⊥
  segments_found can none = taken_apart r fold t p none can.counts can.serves.lawful can.serves.soon can.few

  pub segments_first : (m : ℕ) → IsFirstSegments r fold t p m → IsFirst (Segments r fold) t p (m ∷ [])
  unfolding IsLawfulRun run_service run_procs IsNoLater
  segments_first m f = record {
    serves = record { lawful = (f.inside, refl); soon = f.soon };
    few = f.few;
    first = λ ys s few. before ys s.lawful s.soon few;
  }
    where
      before : (ys : List ℕ) → IsLawfulRun (Segments r fold) ys → run_service (Segments r fold) ys ≤ t → run_procs (Segments r fold) ys ≤ p → IsNoLater (m ∷ []) ys
      before [] l soon few = absurd l
      before (n ∷ ys) l soon few =
          elim (cases_order m n) [
            | inl same ↦ inr (same, tt)
            | inr apart ↦ elim apart [ inl lt ↦ inl lt | inr gt ↦ absurd (omega (arith, f.before n l.0 gt few)) ]
          ]

module _ (k e t p : ℕ) (a : Costed) (some : 1 ≤ k) where
  pub loop_room : CanServe (Loop k e a) t p → CanServe a (t / k) (p - 2) × (e ≤ t) × (2 ≤ p)
  unfolding IsLawfulRun run_service run_procs
  loop_room can =
      let few = can.few in
      let soon = can.serves.soon in
      (record { counts = can.counts; serves = record { lawful = can.serves.lawful; soon = times_le k (run_service a can.counts) t some (omega arith) }; few = omega arith }, omega arith, omega arith)

  pub loop_first : (xs : List ℕ) → e ≤ t → 2 ≤ p → IsFirst a (t / k) (p - 2) xs → IsFirst (Loop k e a) t p xs
  unfolding IsLawfulRun run_service run_procs
  loop_first xs h room f = record {
    serves = record { lawful = f.serves.lawful; soon = let q = le_times k (run_service a xs) t f.serves.soon in omega (arith, q) };
    few = let q = f.few in omega (arith, q);
    first = λ ys s few.
        let l = s.soon in
        f.first ys (record { lawful = s.lawful; soon = times_le k (run_service a ys) t some (omega arith) }) (omega arith);
  }

-- no more than 512 processes are enough for the first ten powers of two only
pub few_levels : (k p : ℕ) → p ≤ 512 → joined_procs (2 ^ k) ≤ p → k < 10
few_levels k p small fits =
    elim (cases_lt k 10) [
      | inl less ↦ less
      | inr more ↦ let power : 2 ^ 10 ≤ 2 ^ k = pow_mono more in
          let test : (2 ^ k == 1) ≡ false = grind (arith, nat_tests) in
          let twice : 2 * 2 ^ k ≤ p = rw test at fits in absurd (omega arith)
    ]
