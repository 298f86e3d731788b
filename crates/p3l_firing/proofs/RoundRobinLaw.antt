-- Runs pick by pick, and the round robin.
use Rattle.std.proofs.Common.{◌≡◌, ℕ, zero, suc, ◌+◌, ◌-◌, ◌<◌, ◌≤◌, ◌⊎◌, Bool, true, false, List, [], ◌∷◌, ◌++◌, length, Option, Some, None, refl, sym, ap, ◌∙◌, inl, inr, arith}
use Rattle.std.specs.List.{find, range_with_len}
use Rattle.std.specs.Option.{option_or, option_map_or}
use Rattle.std.proofs.lemmas.Bool.{cases_Bool, cases_lt, cond-true, cond-false, false≢true}
use Rattle.std.proofs.lemmas.List.Folds.{find-append}
use Rattle.std.proofs.lemmas.Option.{slice_get_past}
use Rattle.p3l_skel.specs.declared.tree.Tree.{Tree}
use Rattle.p3l_ready.specs.Flags.{in_turn}
use Rattle.p3l_ready.proofs.Cyclic.{none_passes}
use Rattle.p3l_firing.specs.declared.net.Net.{Net}
use Rattle.p3l_firing.specs.Nodes.{Leaf}
use Rattle.p3l_firing.specs.State.{State}
use Rattle.p3l_firing.specs.Fire.{can_fire, fire, IsStuck}
use Rattle.p3l_firing.specs.Run.{Course, picked, after_picks}
use Rattle.p3l_firing.specs.RoundRobin.{after, next_of, round_robin}
use Rattle.p3l_firing.proofs.Rows.{none_ready, ready_from_can}

-- runs and round robins, pick by pick
module _ (tree : Tree) (leaf : Leaf) (net : Net) where
  pub after_picks-more : (c : Course) (picks : List ℕ) (p : ℕ) → after_picks tree leaf net c (picks ++ p ∷ []) ≡ picked tree leaf net (after_picks tree leaf net c picks) p
  unfolding after_picks
  after_picks-more c [] p = refl
  after_picks-more c (q ∷ picks) p = after_picks-more (picked tree leaf net c q) picks p

  pub round_robin-some : (most : ℕ) (s : State) (from p : ℕ) → next_of tree net s from ≡ Some p → round_robin tree leaf net (suc most) s from ≡ p ∷ round_robin tree leaf net most (fire tree leaf net s p) (after net p)
  unfolding round_robin
  round_robin-some most s from p h = ap (λ o. option_map_or (λ q. q ∷ round_robin tree leaf net most (fire tree leaf net s q) (after net q)) o []) h

  pub round_robin-none : (most : ℕ) (s : State) (from : ℕ) → next_of tree net s from ≡ None → round_robin tree leaf net most s from ≡ []
  unfolding round_robin
  round_robin-none zero s from h = refl
  round_robin-none (suc most) s from h = ap (λ o. option_map_or (λ q. q ∷ round_robin tree leaf net most (fire tree leaf net s q) (after net q)) o []) h

find_passes : (test : ℕ → Bool) (xs : List ℕ) (p : ℕ) → find test xs ≡ Some p → test p ≡ true
find_passes test [] p h = cc
find_passes test (x ∷ xs) p h =
    elim (cases_Bool (test x)) [
      | inl e ↦
          let same : Some x ≡ Some p = sym (cond-true (test x) _ _ e) ∙ h in
          let here : x ≡ p = cc in
          ap test (sym here) ∙ e
      | inr e ↦ find_passes test xs p (sym (cond-false (test x) _ _ e) ∙ h)
    ]

neither : (a b : Option ℕ) → option_or a b ≡ None → (a ≡ None) × (b ≡ None)
neither None b h = (refl, h)
neither (Some x) b h = cc

module _ (tree : Tree) (net : Net) (s : State) where
  -- a picked process can fire
  pub next_can : (from p : ℕ) → next_of tree net s from ≡ Some p → can_fire tree net s p ≡ true
  next_can from p h = find_passes (can_fire tree net s) (in_turn (length net.procs) from) p h

  past_end : (p : ℕ) → length net.procs ≤ p → can_fire tree net s p ≡ false
  past_end p h =
      elim (cases_Bool (can_fire tree net s p)) [
        | inl can ↦ absurd (false≢true (sym (none_ready tree net s p (slice_get_past net.procs p h)) ∙ ready_from_can tree net s p can))
        | inr cannot ↦ cannot
      ]

  -- nothing can fire if nothing is picked
  pub next_stuck : (from : ℕ) → from < length net.procs → next_of tree net s from ≡ None → IsStuck tree net s
  next_stuck from there h = λ p.
      let none = neither _ _ (sym (find-append (can_fire tree net s) (range_with_len from (length net.procs - from)) (range_with_len 0 from)) ∙ h) in
      elim (cases_lt p from) [
        | inl low ↦ none_passes (can_fire tree net s) 0 from p none.1 (omega arith) (omega arith)
        | inr high ↦
            elim (cases_lt p (length net.procs)) [
              | inl inside ↦ none_passes (can_fire tree net s) from (length net.procs - from) p none.0 high (omega arith)
              | inr past ↦ past_end p past
            ]
      ]

module _ (tree : Tree) (leaf : Leaf) (net : Net) where
  -- the run after one firing
  abbrev pub fired_at : Course → ℕ → Course
  fired_at c p = record c { state = fire tree leaf net c.state p; fired = c.fired + 1 }

  picked_fires : (c : Course) (p : ℕ) → can_fire tree net c.state p ≡ true → picked tree leaf net c p ≡ fired_at c p
  unfolding picked
  picked_fires c p can = cond-true _ _ _ can

  -- the run under the round robin, by its first pick
  pub goes_on : (most : ℕ) (c : Course) (from p : ℕ) → next_of tree net c.state from ≡ Some p → after_picks tree leaf net c (round_robin tree leaf net (suc most) c.state from) ≡ after_picks tree leaf net (fired_at c p) (round_robin tree leaf net most (fired_at c p).state (after net p))
  unfolding after_picks
  goes_on most c from p h =
      ap (after_picks tree leaf net c) (round_robin-some tree leaf net most c.state from p h)
      ∙ ap (λ x. after_picks tree leaf net x (round_robin tree leaf net most (fired_at c p).state (after net p))) (picked_fires c p (next_can tree net c.state from p h))

  pub stops : (most : ℕ) (c : Course) (from : ℕ) → next_of tree net c.state from ≡ None → after_picks tree leaf net c (round_robin tree leaf net most c.state from) ≡ c
  unfolding after_picks
  stops most c from h = ap (after_picks tree leaf net c) (round_robin-none tree leaf net most c.state from h)

  pub cases_next : (o : Option ℕ) → (o ≡ None) ⊎ ((p : ℕ) × (o ≡ Some p))
  cases_next None = inl refl
  cases_next (Some p) = inr (p, refl)

  -- no pick is idle
  pub never_idle : (most : ℕ) (c : Course) (from : ℕ) → (after_picks tree leaf net c (round_robin tree leaf net most c.state from)).idle ≡ c.idle
  unfolding round_robin after_picks
  never_idle zero c from = refl
  never_idle (suc most) c from =
      elim (cases_next (next_of tree net c.state from)) [
        | inl none ↦ ap (λ (x : Course). x.idle) (stops (suc most) c from none)
        | inr some ↦ ap (λ (x : Course). x.idle) (goes_on most c from some.0 some.1) ∙ never_idle most (fired_at c some.0) (after net some.0)
      ]
