-- The laws of timed runs, by one walk over their picks.
use Rattle.std.proofs.Common.{◌≡◌, ◌≢◌, ℕ, ℤ, zero, suc, ◌+◌, ◌*◌, ◌<◌, ◌≤◌, ◌⊎◌, inl, inr, Bool, true, false, not, ◌&&◌, cond, List, [], ◌∷◌, ◌++◌, length, sum_by, Option, Some, None, refl, sym, ap, ◌∙◌, subst, arith, suc-mul, zero-mul}
use Rattle.std.proofs.lemmas.Bool.Decides.{nat_tests}
use Rattle.std.specs.Prelude.{unwrap_or, nat_eq}
use Rattle.std.specs.List.{range_with_len}
use Rattle.std.specs.Option.{is_some}
use Rattle.std.proofs.lemmas.Bool.{cases_eq, cases_lt, cond-true}
use Rattle.std.proofs.lemmas.List.Sums.{sum_by-cons}
use Rattle.std.proofs.lemmas.Option.{slice_get_past}
use Rattle.p3l_skel.specs.declared.tree.Tree.{Tree}
use Rattle.p3l_firing.specs.declared.net.Net.{Net}
use Rattle.p3l_firing.specs.Fire.{IsStuck, can_fire}
use Rattle.p3l_firing.specs.Nodes.{Leaf}
use Rattle.p3l_firing.specs.Process.{times}
use Rattle.p3l_firing.specs.Run.{Course, after_picks, picked}
use Rattle.p3l_firing.specs.State.{State, first_state}
use Rattle.p3l_firing.specs.Token.{has_trap}
use Rattle.p3l_firing.proofs.Rows.{none_ready}
use Rattle.p3l_timed.specs.Moments.{IsNoLater}
use Rattle.p3l_timed.specs.Due.{IsNext, nothing_due, without}
use Rattle.p3l_timed.specs.Laws.{IsRun, IsWithinBusy}
use Rattle.p3l_timed.specs.Timed.{FiresInTime, FiresNext, IsTimed, Timing, all_busy, busy_of, moment_of, timed_after, timed_step, timing_from}
use Rattle.p3l_timed.proofs.Round.{due_from, due_where, without_own, without_other}

some_due : (o : Option ℕ) → o ≢ None → (d : ℕ) × (o ≡ Some d)
some_due None h = absurd (h refl)
some_due (Some d) h = (d, refl)

-- a process past the last can't fire
past_last : (tree : Tree) (net : Net) (s : State) (p : ℕ) → length net.procs ≤ p → can_fire tree net s p ≡ false
unfolding can_fire
past_last tree net s p past = ap (λ b. not (has_trap s.emitted) && b) (none_ready tree net s p (slice_get_past net.procs p past)) ∙ and_false (not (has_trap s.emitted))
  where
    and_false : (b : Bool) → (b && false) ≡ false
    and_false true = refl
    and_false false = refl

module _ (tree : Tree) (leaf : Leaf) (net : Net) (price : ℕ → ℕ) where
  -- due are the processes that can fire
  abbrev IsTold : Timing → Type 0
  IsTold t = (q : ℕ) → is_some (t.due q) ≡ can_fire tree net t.course.state q

  told_first : (items : List (List ℤ)) → IsTold (timing_from tree net price items)
  told_first items q = due_where (can_fire tree net (first_state net items) q) (0 + price q) None

  told_step : (t : Timing) (p : ℕ) → IsTold (timed_step tree leaf net price t p)
  unfolding timed_step
  told_step t p q = due_where (can_fire tree net (picked tree leaf net t.course p).state q) (moment_of t p + price q) (without p t.due q)

  next_can : (t : Timing) → IsTold t → (p : ℕ) → IsNext t.due p → can_fire tree net t.course.state p ≡ true
  next_can t told p next = let d = some_due (t.due p) next.due_is in sym (told p) ∙ ap is_some d.1

  next_there : (t : Timing) → IsTold t → (p : ℕ) → IsNext t.due p → p < length net.procs
  next_there t told p next = elim (cases_lt p (length net.procs)) [
    | inl l ↦ l
    | inr past ↦ let a = next_can t told p next in let b = past_last tree net t.course.state p past in absurd (true_false (sym a ∙ b))
  ]
    where
      true_false : true ≡ false → ⊥
      true_false e = cc

  -- THE RUN
  course_step : (t : Timing) (p : ℕ) → (timed_step tree leaf net price t p).course ≡ picked tree leaf net t.course p
  unfolding timed_step
  course_step t p = refl

  pub same_course : (t : Timing) (picks : List ℕ) → (timed_after tree leaf net price t picks).course ≡ after_picks tree leaf net t.course picks
  unfolding timed_after after_picks
  same_course t [] = refl
  same_course t (p ∷ picks) = same_course (timed_step tree leaf net price t p) picks ∙ ap (λ c. after_picks tree leaf net c picks) (course_step t p)

  fired_one : (c : Course) (p : ℕ) → can_fire tree net c.state p ≡ true → ((picked tree leaf net c p).fired ≡ c.fired + 1) × ((picked tree leaf net c p).idle ≡ c.idle)
  unfolding picked
  fired_one c p can = (ap (λ (x : Course). x.fired) (cond-true _ _ _ can), ap (λ (x : Course). x.idle) (cond-true _ _ _ can))

  record Fires (t : Timing) (picks : List ℕ) : Type 0 where
    fired : (timed_after tree leaf net price t picks).course.fired ≡ t.course.fired + length picks
    idle : (timed_after tree leaf net price t picks).course.idle ≡ t.course.idle
    stuck : IsStuck tree net (timed_after tree leaf net price t picks).course.state

  none_can : (t : Timing) → IsTold t → ((q : ℕ) → t.due q ≡ None) → IsStuck tree net t.course.state
  none_can t told none q = sym (told q) ∙ ap is_some (none q)

  fires : (t : Timing) (picks : List ℕ) → IsTold t → FiresInTime tree leaf net price t picks → Fires t picks
  unfolding timed_after FiresInTime
  fires t [] told timed = record { fired = omega arith; idle = refl; stuck = none_can t told timed }
  fires t (p ∷ picks) told timed =
      let s : Timing = timed_step tree leaf net price t p in
      let rest = fires s picks (told_step t p) timed.1 in
      let one = fired_one t.course p (next_can t told p timed.0) in
      let up : s.course.fired ≡ t.course.fired + 1 = ap (λ (c : Course). c.fired) (course_step t p) ∙ one.0 in
      record {
        fired = omega (arith, rest.fired, up);
        idle = rest.idle ∙ ap (λ (c : Course). c.idle) (course_step t p) ∙ one.1;
        stuck = rest.stuck;
      }

  pub timed_is_run : (items : List (List ℤ)) (picks : List ℕ) → IsTimed tree leaf net price items picks → IsRun tree leaf net price items picks
  timed_is_run items picks timed =
      let t : Timing = timing_from tree net price items in
      let same = same_course t picks in
      let all = fires t picks (told_first items) timed in
      record {
        course = same;
        each_fires = ap (λ (c : Course). c.fired) (sym same) ∙ all.fired ∙ omega arith;
        none_idle = ap (λ (c : Course). c.idle) (sym same) ∙ all.idle;
        stuck = subst (λ (c : Course). IsStuck tree net c.state) same all.stuck;
      }

  -- one firing more, after those so far
  pub timed_more : (t : Timing) (picks : List ℕ) (p : ℕ) → timed_after tree leaf net price t (picks ++ p ∷ []) ≡ timed_step tree leaf net price (timed_after tree leaf net price t picks) p
  unfolding timed_after
  timed_more t [] p = refl
  timed_more t (q ∷ picks) p = timed_more (timed_step tree leaf net price t q) picks p

  -- no picks begin a timed run, and so does one more than some that begin it
  pub begins_none : (t : Timing) → FiresNext tree leaf net price t []
  unfolding FiresNext
  begins_none t = tt

  pub begins_more : (t : Timing) (picks : List ℕ) (p : ℕ) → FiresNext tree leaf net price t picks → IsNext (timed_after tree leaf net price t picks).due p → FiresNext tree leaf net price t (picks ++ p ∷ [])
  unfolding FiresNext timed_after
  begins_more t [] p begins next = (next, tt)
  begins_more t (q ∷ picks) p begins next = (begins.0, begins_more (timed_step tree leaf net price t q) picks p begins.1 next)

  -- they are all of it where none is due after them
  pub begins_all : (t : Timing) (picks : List ℕ) → FiresNext tree leaf net price t picks → ((q : ℕ) → (timed_after tree leaf net price t picks).due q ≡ None) → FiresInTime tree leaf net price t picks
  unfolding FiresNext FiresInTime timed_after
  begins_all t [] begins none = none
  begins_all t (q ∷ picks) begins none = (begins.0, begins_all (timed_step tree leaf net price t q) picks begins.1 none)

  pub all_begins : (t : Timing) (picks : List ℕ) → FiresInTime tree leaf net price t picks → FiresNext tree leaf net price t picks
  unfolding FiresNext FiresInTime
  all_begins t [] fires = tt
  all_begins t (q ∷ picks) fires = (fires.0, all_begins (timed_step tree leaf net price t q) picks fires.1)

  pub no_step : (t : Timing) → timed_after tree leaf net price t [] ≡ t
  unfolding timed_after
  no_step t = refl

  -- THE BOUNDS: with how long each process was busy so far, and all of them
  record IsWithin (t : Timing) (busy : ℕ → ℕ) (all : ℕ) : Type 0 where
    low : (p : ℕ) → busy p ≤ t.moment
    low_due : (p d : ℕ) → t.due p ≡ Some d → busy p + price p ≤ d
    later : (p d : ℕ) → t.due p ≡ Some d → t.moment ≤ d
    high : t.moment ≤ all
    high_due : (p d : ℕ) → t.due p ≡ Some d → d ≤ all + price p

  none_before : (q e : ℕ) → nothing_due q ≡ Some e → ⊥
  none_before q e h = cc

  within_first : (items : List (List ℤ)) → IsWithin (timing_from tree net price items) (λ p. 0) 0
  within_first items =
      let from : (q e : ℕ) → (timing_from tree net price items).due q ≡ Some e → 0 + price q ≡ e = λ q e h.
      elim (due_from (can_fire tree net (first_state net items) q) (0 + price q) e (nothing_due q) h) [
        | inl before ↦ absurd (none_before q e before)
        | inr fresh ↦ fresh
      ] in
      record {
        low = λ p. omega arith;
        low_due = λ p d h. let e = from p d h in omega (arith, e);
        later = λ p d h. omega arith;
        high = omega arith;
        high_due = λ p d h. let e = from p d h in omega (arith, e);
      }

  -- one was busy once more
  abbrev busier : (ℕ → ℕ) → ℕ → ℕ → ℕ
  busier busy p q = cond (nat_eq p q) (price q + busy q) (busy q)

  busier_own : (busy : ℕ → ℕ) (p : ℕ) → busier busy p p ≡ price p + busy p
  busier_own busy p = grind (arith, nat_tests)

  busier_other : (busy : ℕ → ℕ) (p q : ℕ) → q ≢ p → busier busy p q ≡ busy q
  busier_other busy p q other = grind (arith, nat_tests)

  no_later_by : (a b : Option ℕ) (d e : ℕ) → a ≡ Some d → b ≡ Some e → IsNoLater a b → d ≤ e
  no_later_by a b d e x y h = subst (λ z. IsNoLater (Some d) z) y (subst (λ z. IsNoLater z b) x h)

  kept_due : (p q e : ℕ) (due : ℕ → Option ℕ) → without p due q ≡ Some e → (q ≢ p) × (due q ≡ Some e)
  kept_due p q e due h = elim (cases_eq q p) [
    | inl same ↦ absurd (none_some (sym (subst (λ z. without p due z ≡ None) (sym same) (without_own p due)) ∙ h))
    | inr other ↦ (other, sym (without_other p q due other) ∙ h)
  ]
    where
      none_some : None ≡ Some e → ⊥
      none_some x = cc

  within_step : (t : Timing) (busy : ℕ → ℕ) (all p : ℕ) → IsWithin t busy all → IsNext t.due p → IsWithin (timed_step tree leaf net price t p) (busier busy p) (all + price p)
  unfolding timed_step
  within_step t busy all p is next =
      let due = some_due (t.due p) next.due_is in
      let d : ℕ = due.0 in
      let now : moment_of t p ≡ d = ap (λ o. unwrap_or o t.moment) due.1 in
      let low_own = is.low_due p d due.1 in
      let later = is.later p d due.1 in
      let high = is.high_due p d due.1 in
      let low : (q : ℕ) → busier busy p q ≤ moment_of t p = λ q. elim (cases_eq q p) [
        | inl same ↦ subst (λ z. busier busy p z ≤ moment_of t p) (sym same) (let e = busier_own busy p in omega (arith, e, low_own, now))
        | inr other ↦ let e = busier_other busy p q other in let l = is.low q in omega (arith, e, l, later, now)
      ] in
      let from : (q e : ℕ) → (timed_step tree leaf net price t p).due q ≡ Some e → ((q ≢ p) × (t.due q ≡ Some e)) ⊎ (moment_of t p + price q ≡ e) = λ q e h.
      elim (due_from (can_fire tree net (picked tree leaf net t.course p).state q) (moment_of t p + price q) e (without p t.due q) h) [
        | inl before ↦ inl (kept_due p q e t.due before)
        | inr fresh ↦ inr fresh
      ] in
      record {
        low = low;
        low_due = λ q e h. elim (from q e h) [
          | inl before ↦ let l = is.low_due q e before.1 in let same = busier_other busy p q before.0 in omega (arith, l, same)
          | inr fresh ↦ let l = low q in omega (arith, l, fresh)
        ];
        later = λ q e h. elim (from q e h) [
          | inl before ↦ let l = no_later_by (t.due p) (t.due q) d e due.1 before.1 (next.least q) in omega (arith, l, now)
          | inr fresh ↦ omega (arith, fresh)
        ];
        high = omega (arith, high, now);
        high_due = λ q e h. elim (from q e h) [
          | inl before ↦ let l = is.high_due q e before.1 in omega (arith, l)
          | inr fresh ↦ omega (arith, fresh, high, now)
        ];
      }

  times_more : (q p : ℕ) (picks : List ℕ) → times q (p ∷ picks) ≡ cond (nat_eq p q) 1 0 + times q picks
  times_more q p picks = sum_by-cons (λ d. cond (nat_eq d q) 1 0) p picks

  busier_times : (busy : ℕ → ℕ) (p q : ℕ) (picks : List ℕ) → busier busy p q + times q picks * price q ≡ busy q + times q (p ∷ picks) * price q
  busier_times busy p q picks = elim (cases_eq q p) [
    | inl same ↦
        let more : times q (p ∷ picks) ≡ suc (times q picks) = times_more q p picks ∙ grind (arith, nat_tests) in
        let product : times q (p ∷ picks) * price q ≡ times q picks * price q + price q = ap (λ k. k * price q) more ∙ suc-mul (times q picks) (price q) in
        let own : busier busy p q ≡ price q + busy q = subst (λ z. busier busy p z ≡ price z + busy z) (sym same) (busier_own busy p) in
        omega (arith, product, own)
    | inr other ↦
        let more : times q (p ∷ picks) ≡ times q picks = times_more q p picks ∙ grind (arith, nat_tests) in
        let product : times q (p ∷ picks) * price q ≡ times q picks * price q = ap (λ k. k * price q) more in
        let kept = busier_other busy p q other in
        omega (arith, product, kept)
  ]

  record Bounds (t : Timing) (busy : ℕ → ℕ) (all : ℕ) (picks : List ℕ) : Type 0 where
    low : (q : ℕ) → busy q + times q picks * price q ≤ (timed_after tree leaf net price t picks).moment
    high : (timed_after tree leaf net price t picks).moment ≤ all + sum_by price picks

  bounds : (t : Timing) (busy : ℕ → ℕ) (all : ℕ) (picks : List ℕ) → IsWithin t busy all → FiresInTime tree leaf net price t picks → Bounds t busy all picks
  unfolding timed_after FiresInTime
  bounds t busy all [] is timed = record {
    low = λ q. let l = is.low q in let z : times q [] * price q ≡ 0 = zero-mul (price q) in omega (arith, l, z);
    high = let l = is.high in omega (arith, l);
  }
  bounds t busy all (p ∷ picks) is timed =
      let rest = bounds (timed_step tree leaf net price t p) (busier busy p) (all + price p) picks (within_step t busy all p is timed.0) timed.1 in
      record {
        low = λ q. let l = rest.low q in let e = busier_times busy p q picks in omega (arith, l, e);
        high = let l = rest.high in let e = sum_by-cons price p picks in omega (arith, l, e);
      }

  times_last : (q p : ℕ) (picks : List ℕ) → times q (picks ++ p ∷ []) ≡ times q picks + cond (nat_eq p q) 1 0
  times_last q p [] = times_more q p [] ∙ omega arith
  times_last q p (x ∷ picks) =
      let a = times_more q x (picks ++ p ∷ []) in
      let b = times_more q x picks in
      let rest = times_last q p picks in
      omega (arith, a, b, rest)

  pub busy_last : (p : ℕ) (picks : List ℕ) → busy_of price (picks ++ p ∷ []) p ≡ busy_of price picks p + price p
  busy_last p picks =
      let more : times p (picks ++ p ∷ []) ≡ suc (times p picks) = times_last p p picks ∙ grind (arith, nat_tests) in
      ap (λ k. k * price p) more ∙ suc-mul (times p picks) (price p)

  pub busy_stays : (q p : ℕ) (picks : List ℕ) → q ≢ p → busy_of price (picks ++ p ∷ []) q ≡ busy_of price picks q
  busy_stays q p picks other = ap (λ k. k * price q) (times_last q p picks ∙ grind (arith, nat_tests))

  -- the sum over the picks is that over the processes
  busy_more : (q p : ℕ) (picks : List ℕ) → q ≢ p → busy_of price (p ∷ picks) q ≡ busy_of price picks q
  busy_more q p picks other = ap (λ k. k * price q) (times_more q p picks ∙ grind (arith, nat_tests))

  busy_own : (p : ℕ) (picks : List ℕ) → busy_of price (p ∷ picks) p ≡ busy_of price picks p + price p
  busy_own p picks =
      let more : times p (p ∷ picks) ≡ suc (times p picks) = times_more p p picks ∙ grind (arith, nat_tests) in
      ap (λ k. k * price p) more ∙ suc-mul (times p picks) (price p)

  sum_apart : (p : ℕ) (picks : List ℕ) (a n : ℕ) → p < a → sum_by (busy_of price (p ∷ picks)) (range_with_len a n) ≡ sum_by (busy_of price picks) (range_with_len a n)
  sum_apart p picks a zero before = refl
  sum_apart p picks a (suc n) before =
      let one = busy_more a p picks (λ e. absurd (omega (arith, before, e))) in
      let rest = sum_apart p picks (a + 1) n (omega (arith, before)) in
      let x = sum_by-cons (busy_of price (p ∷ picks)) a (range_with_len (a + 1) n) in
      let y = sum_by-cons (busy_of price picks) a (range_with_len (a + 1) n) in
      omega (arith, one, rest, x, y)

  sum_with : (p : ℕ) (picks : List ℕ) (a n : ℕ) → a ≤ p → p < a + n → sum_by (busy_of price (p ∷ picks)) (range_with_len a n) ≡ price p + sum_by (busy_of price picks) (range_with_len a n)
  sum_with p picks a zero low high = absurd (omega (arith, low, high))
  sum_with p picks a (suc n) low high =
      let x = sum_by-cons (busy_of price (p ∷ picks)) a (range_with_len (a + 1) n) in
      let y = sum_by-cons (busy_of price picks) a (range_with_len (a + 1) n) in
      elim (cases_eq a p) [
        | inl same ↦
            let one : busy_of price (p ∷ picks) a ≡ busy_of price picks a + price p = subst (λ z. busy_of price (p ∷ picks) z ≡ busy_of price picks z + price p) (sym same) (busy_own p picks) in
            let rest = sum_apart p picks (a + 1) n (omega (arith, same)) in
            omega (arith, one, rest, x, y)
        | inr other ↦
            let one = busy_more a p picks other in
            let rest = sum_with p picks (a + 1) n (omega (arith, low, other)) (omega (arith, high)) in
            omega (arith, one, rest, x, y)
      ]

  sum_all : (t : Timing) (picks : List ℕ) → IsTold t → FiresInTime tree leaf net price t picks → sum_by price picks ≤ all_busy price picks (length net.procs)
  unfolding FiresInTime
  sum_all t [] told timed = omega arith
  sum_all t (p ∷ picks) told timed =
      let rest = sum_all (timed_step tree leaf net price t p) picks (told_step t p) timed.1 in
      let there = next_there t told p timed.0 in
      let x = sum_by-cons price p picks in
      let y = sum_with p picks 0 (length net.procs) (omega arith) (omega (arith, there)) in
      omega (arith, rest, x, y)

  pub timed_within : (items : List (List ℤ)) (picks : List ℕ) → IsTimed tree leaf net price items picks → IsWithinBusy tree leaf net price items picks
  timed_within items picks timed =
      let t : Timing = timing_from tree net price items in
      let both = bounds t (λ p. 0) 0 picks (within_first items) timed in
      let all = sum_all t picks (told_first items) timed in
      record {
        no_sooner = λ p. let l = both.low p in omega (arith, l);
        no_later = let l = both.high in omega (arith, l, all);
      }
