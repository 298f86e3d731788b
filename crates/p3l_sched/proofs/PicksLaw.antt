-- The picks of a schedule from any state.
use Rattle.std.proofs.Common.{◌≡◌, ◌≢◌, ℕ, zero, suc, ◌+◌, ◌*◌, ◌<◌, ◌≤◌, ◌⊎◌, Bool, true, false, List, [], ◌∷◌, filter, length, Option, Some, None, refl, sym, ap, subst, ◌∙◌, inl, inr, arith}
use Rattle.std.specs.List.{slice_get}
use Rattle.std.proofs.lemmas.Bool.{cond-false, cond-true}
use Rattle.std.proofs.lemmas.Nat.{mod_below}
use Rattle.p3l_skel.specs.declared.tree.Tree.{Tree}
use Rattle.p3l_firing.specs.declared.net.Net.{Net}
use Rattle.p3l_firing.specs.NetInvariants.{Invariants, HasInvariants}
use Rattle.p3l_firing.specs.Fire.{IsStuck, can_fire}
use Rattle.p3l_firing.specs.Nodes.{Leaf}
use Rattle.p3l_firing.specs.Run.{Course, after_picks, course_from, picked}
use Rattle.p3l_firing.specs.State.{State}
use Rattle.p3l_firing.proofs.RoundRobinLaw.{fired_at, next_stuck}
use Rattle.p3l_sched.specs.declared.picker.Way.{Way}
use Rattle.p3l_sched.specs.declared.picker.Way.TheVariants as way
use Rattle.p3l_sched.specs.Course.{picks_from}
use Rattle.p3l_sched.specs.Picker.{IsMade, after_pick, pick_of, ready_of}
use Rattle.p3l_sched.proofs.Picking.{none_can, picked_ready, picks_from-ended, picks_from-next, picks_from-stuck}
use Rattle.p3l_firing.proofs.OrderlyLaw.{IsKeptFrom, few_firings, kept_first, kept_fired}

-- a filtered list is empty if nothing passes the test
filter_none : (test : ℕ → Bool) (xs : List ℕ) → ((p : ℕ) → test p ≡ false) → filter test xs ≡ []
filter_none test [] none = refl
filter_none test (x ∷ xs) none = cond-false (test x) _ _ (none x) ∙ filter_none test xs none

-- a place in a list holds something
get_there : (xs : List ℕ) (k : ℕ) → k < length xs → slice_get xs k ≡ None → ⊥
get_there [] k low none = omega arith
get_there (x ∷ xs) zero low none = cc
get_there (x ∷ xs) (suc k) low none = get_there xs k (omega arith) none

some_there : (xs : List ℕ) → xs ≢ [] → 0 < length xs
some_there [] some = absurd (some refl)
some_there (x ∷ xs) some = omega arith

cases_list : (xs : List ℕ) → (xs ≡ []) ⊎ (xs ≢ [])
cases_list [] = inl refl
cases_list (x ∷ xs) = inr (λ e. cc)

cases_option : (o : Option ℕ) → (o ≡ None) ⊎ ((p : ℕ) × (o ≡ Some p))
cases_option None = inl refl
cases_option (Some p) = inr (p, refl)

made_after : (size : ℕ) (w : Way) (p : ℕ) → 0 < size → IsMade size w → IsMade size (after_pick size w p)
made_after size (way.Turns cursor) p some made = mod_below (p + 1) size some
made_after size (way.Draws generator) p some made = tt
made_after size (way.Reads picks) p some made = absurd made

module _ (tree : Tree) (leaf : Leaf) (net : Net) where
  abbrev size : ℕ
  size = length net.procs

  abbrev ready_at : Course → List ℕ
  ready_at c = ready_of (can_fire tree net c.state) size

  abbrev next_at : Way → Course → Option ℕ
  next_at w c = pick_of (can_fire tree net c.state) size w

  abbrev picks : (most : ℕ) → Way → Course → List ℕ
  picks most w c = picks_from tree leaf net most w c

  abbrev end : (most : ℕ) → Way → Course → Course
  end most w c = after_picks tree leaf net c (picks most w c)

  end-none : (most : ℕ) (w : Way) (c : Course) → ready_at c ≡ [] → end most w c ≡ c
  unfolding after_picks
  end-none most w c none = ap (after_picks tree leaf net c) (picks_from-stuck tree leaf net most w c none)

  end-next : (most : ℕ) (w : Way) (c : Course) (p : ℕ) → ready_at c ≢ [] → next_at w c ≡ Some p → end (suc most) w c ≡ end most (after_pick size w p) (picked tree leaf net c p)
  unfolding after_picks
  end-next most w c p ready is = ap (after_picks tree leaf net c) (picks_from-next tree leaf net most w c p ready is)

  -- RECORDED PICKS
  pub reads_all : (ps : List ℕ) (c : Course) → (picks (length ps) (way.Reads ps) c ≡ ps) ⊎ IsStuck tree net (end (length ps) (way.Reads ps) c).state
  unfolding picks_from after_picks
  reads_all [] c = inl refl
  reads_all (p ∷ ps) c =
      elim (cases_list (ready_at c)) [
        | inl none ↦
            inr (subst (λ (x : Course). IsStuck tree net x.state) (sym (end-none (length (p ∷ ps)) (way.Reads (p ∷ ps)) c none)) (none_can tree net c.state none))
        | inr ready ↦
            let next = picks_from-next tree leaf net (length ps) (way.Reads (p ∷ ps)) c p ready refl in
            elim (reads_all ps (picked tree leaf net c p)) [
              | inl all ↦ inl (next ∙ ap (λ qs. p ∷ qs) all)
              | inr stuck ↦
                  inr (subst (λ (x : Course). IsStuck tree net x.state) (sym (end-next (length ps) (way.Reads (p ∷ ps)) c p ready refl)) stuck)
            ]
      ]

  pub reads_no_more : (ps : List ℕ) (c : Course) (more : ℕ) → picks (length ps + more) (way.Reads ps) c ≡ picks (length ps) (way.Reads ps) c
  reads_no_more [] c more =
      picks_from-ended tree leaf net (0 + more) (way.Reads []) c refl ∙ sym (picks_from-ended tree leaf net 0 (way.Reads []) c refl)
  reads_no_more (p ∷ ps) c more =
      let one : length (p ∷ ps) + more ≡ suc (length ps + more) = omega arith in
      ap (λ n. picks n (way.Reads (p ∷ ps)) c) one
      ∙ elim (cases_list (ready_at c)) [
        | inl none ↦
            picks_from-stuck tree leaf net (suc (length ps + more)) (way.Reads (p ∷ ps)) c none
            ∙ sym (picks_from-stuck tree leaf net (length (p ∷ ps)) (way.Reads (p ∷ ps)) c none)
        | inr ready ↦
            picks_from-next tree leaf net (length ps + more) (way.Reads (p ∷ ps)) c p ready refl
            ∙ ap (λ qs. p ∷ qs) (reads_no_more ps (picked tree leaf net c p) more)
            ∙ sym (picks_from-next tree leaf net (length ps) (way.Reads (p ∷ ps)) c p ready refl)
      ]

  -- PICKS THAT ARE MADE
  -- where some process can fire there is a pick, and its process can fire
  made_there : (w : Way) (c : Course) → IsMade size w → ready_at c ≢ [] → next_at w c ≡ None → ⊥
  made_there (way.Turns cursor) c made ready none =
      ready (filter_none (can_fire tree net c.state) _ (next_stuck tree net c.state cursor made none))
  made_there (way.Draws generator) c made ready none =
      get_there (ready_at c) _ (mod_below _ (length (ready_at c)) (some_there (ready_at c) ready)) none
  made_there (way.Reads ps) c made ready none = made

  made_can : (w : Way) (c : Course) (p : ℕ) → IsMade size w → next_at w c ≡ Some p → can_fire tree net c.state p ≡ true
  made_can (way.Turns cursor) c p made is = picked_ready (can_fire tree net c.state) size (way.Turns cursor) p is
  made_can (way.Draws generator) c p made is = picked_ready (can_fire tree net c.state) size (way.Draws generator) p is
  made_can (way.Reads ps) c p made is = absurd made

  -- a pick that is made: the process of this number can fire
  record IsNext (w : Way) (c : Course) : Type 0 where
    number : ℕ
    ready : ready_at c ≢ []
    is : next_at w c ≡ Some number
    can : can_fire tree net c.state number ≡ true

  cases_next : (w : Way) (c : Course) → IsMade size w → (ready_at c ≡ []) ⊎ IsNext w c
  cases_next w c made =
      elim (cases_list (ready_at c)) [
        | inl none ↦ inl none
        | inr ready ↦
            elim (cases_option (next_at w c)) [
              | inl none ↦ absurd (made_there w c made ready none)
              | inr pick ↦ inr (record { number = pick.0; ready = ready; is = pick.1; can = made_can w c pick.0 made pick.1 })
            ]
      ]

  some_process : (c : Course) → ready_at c ≢ [] → 0 < size
  some_process c ready = some_of net.procs (λ e. ready (ap (λ n. ready_of (can_fire tree net c.state) n) e))
    where
      some_of : {A : Type 0} (xs : List A) → (length xs ≡ 0 → ⊥) → 0 < length xs
      some_of [] h = absurd (h refl)
      some_of (x ∷ xs) h = omega arith

  picked_fires : (c : Course) (p : ℕ) → can_fire tree net c.state p ≡ true → picked tree leaf net c p ≡ fired_at tree leaf net c p
  unfolding picked
  picked_fires c p can = cond-true _ _ _ can

  module _ (firings : ℕ) (invariants : Invariants) (laws : HasInvariants tree leaf net firings invariants) (s : State) where
    abbrev Kept : Course → Type 0
    Kept c = IsKeptFrom tree leaf firings invariants s c

    abbrev bound : ℕ
    bound = invariants.owed s + firings * length s.unsent

    fired_more : (c : Course) (p : ℕ) → Kept c → can_fire tree net c.state p ≡ true → c.fired + 1 ≤ bound
    fired_more c p k can =
        few_firings tree leaf net firings invariants laws s (fired_at tree leaf net c p) (kept_fired tree leaf net firings invariants laws s c p k can)

    kept_next : (c : Course) (p : ℕ) → Kept c → can_fire tree net c.state p ≡ true → Kept (picked tree leaf net c p)
    kept_next c p k can = subst Kept (sym (picked_fires c p can)) (kept_fired tree leaf net firings invariants laws s c p k can)

    fired_one : (c : Course) (p : ℕ) → can_fire tree net c.state p ≡ true → (picked tree leaf net c p).fired ≡ c.fired + 1
    fired_one c p can = ap (λ (x : Course). x.fired) (picked_fires c p can)

    -- with picks enough, those that are made lead to where no process can fire
    made_ends : (most : ℕ) (w : Way) (c : Course) → IsMade size w → Kept c → bound ≤ c.fired + most → ready_at (end most w c) ≡ []
    made_ends zero w c made k enough =
        elim (cases_next w c made) [
          | inl none ↦ subst (λ x. ready_at x ≡ []) (sym (end-none zero w c none)) none
          | inr next ↦ let more = fired_more c next.number k next.can in absurd (omega arith)
        ]
    made_ends (suc most) w c made k enough =
        elim (cases_next w c made) [
          | inl none ↦ subst (λ x. ready_at x ≡ []) (sym (end-none (suc most) w c none)) none
          | inr next ↦
              let p : ℕ = next.number in
              let one = fired_one c p next.can in
              subst (λ x. ready_at x ≡ []) (sym (end-next most w c p next.ready next.is))
              (made_ends most (after_pick size w p) (picked tree leaf net c p) (made_after size w p (some_process c next.ready) made)
              (kept_next c p k next.can) (omega arith))
        ]

    -- and no more are made
    made_no_more : (most more : ℕ) (w : Way) (c : Course) → IsMade size w → Kept c → bound ≤ c.fired + most → picks (most + more) w c ≡ picks most w c
    made_no_more zero more w c made k enough =
        elim (cases_next w c made) [
          | inl none ↦ picks_from-stuck tree leaf net (0 + more) w c none ∙ sym (picks_from-stuck tree leaf net 0 w c none)
          | inr next ↦ let less = fired_more c next.number k next.can in absurd (omega arith)
        ]
    made_no_more (suc most) more w c made k enough =
        let one : suc most + more ≡ suc (most + more) = omega arith in
        ap (λ n. picks n w c) one
        ∙ elim (cases_next w c made) [
          | inl none ↦ picks_from-stuck tree leaf net (suc (most + more)) w c none ∙ sym (picks_from-stuck tree leaf net (suc most) w c none)
          | inr next ↦
              let p : ℕ = next.number in
              let counted = fired_one c p next.can in
              picks_from-next tree leaf net (most + more) w c p next.ready next.is
              ∙ ap (λ qs. p ∷ qs)
              (made_no_more most more (after_pick size w p) (picked tree leaf net c p) (made_after size w p (some_process c next.ready) made)
              (kept_next c p k next.can) (omega arith))
              ∙ sym (picks_from-next tree leaf net most w c p next.ready next.is)
        ]

    module _ (orderly : invariants.orderly s ≡ true) (w : Way) (made : IsMade size w) (most : ℕ) (enough : bound ≤ most) where
      pub made_stuck : IsStuck tree net (end most w (course_from s)).state
      made_stuck =
          none_can tree net (end most w (course_from s)).state
          (made_ends most w (course_from s) made (kept_first tree leaf net firings invariants laws s orderly) (omega arith))

      pub made_enough : (more : ℕ) → picks (most + more) w (course_from s) ≡ picks most w (course_from s)
      made_enough more = made_no_more most more w (course_from s) made (kept_first tree leaf net firings invariants laws s orderly) (omega arith)
