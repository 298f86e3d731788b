-- Runs that are cut in two.
use Rattle.std.proofs.Common.{◌≡◌, ℕ, ℤ, ◌+◌, List, [], ◌∷◌, ◌++◌, refl, sym, ap, ap₂, ◌∙◌, inl, inr, arith}
use Rattle.std.proofs.lemmas.Bool.{cases_Bool, cond-true, cond-false}
use Rattle.p3l_skel.specs.declared.tree.Tree.{Tree}
use Rattle.p3l_firing.specs.declared.net.Net.{Net}
use Rattle.p3l_firing.specs.Nodes.{Leaf}
use Rattle.p3l_firing.specs.State.{State, with_rest, IsFilled, first_state}
use Rattle.p3l_firing.specs.Fire.{can_fire, fire}
use Rattle.p3l_firing.specs.Run.{Course, course_from, picked, after_picks, run, run_from}
use Rattle.p3l_firing.proofs.row.{can_fire-rest, fire-rest}
use Rattle.p3l_firing.specs.Cut.{AreFilled, AreFilledFrom, after_run}

module _ (tree : Tree) (leaf : Leaf) (net : Net) where
  picks-append : (c : Course) (a b : List ℕ) → after_picks tree leaf net c (a ++ b) ≡ after_picks tree leaf net (after_picks tree leaf net c a) b
  unfolding after_picks
  picks-append c [] b = refl
  picks-append c (p ∷ a) b = picks-append (picked tree leaf net c p) a b

  picked-after : (before c : Course) (p : ℕ) → picked tree leaf net (after_run before c) p ≡ after_run before (picked tree leaf net c p)
  unfolding picked
  picked-after before c p =
      elim (cases_Bool (can_fire tree net c.state p)) [
        | inl can ↦
            let more : (before.fired + c.fired) + 1 ≡ before.fired + (c.fired + 1) = omega arith in
            cond-true _ _ _ can
            ∙ ap (λ n. record c { state = fire tree leaf net c.state p; fired = n; idle = before.idle + c.idle }) more
            ∙ ap (after_run before) (sym (cond-true _ _ _ can))
        | inr cannot ↦
            let more : (before.idle + c.idle) + 1 ≡ before.idle + (c.idle + 1) = omega arith in
            cond-false _ _ _ cannot
            ∙ ap (λ n. record c { fired = before.fired + c.fired; idle = n }) more
            ∙ ap (after_run before) (sym (cond-false _ _ _ cannot))
      ]

  picks-after : (before c : Course) (picks : List ℕ) → after_picks tree leaf net (after_run before c) picks ≡ after_run before (after_picks tree leaf net c picks)
  unfolding after_picks
  picks-after before c [] = refl
  picks-after before c (p ∷ picks) =
      ap (λ x. after_picks tree leaf net x picks) (picked-after before c p) ∙ picks-after before (picked tree leaf net c p) picks

  -- picks after a run go on from its state
  pub goes_on-after : (c : Course) (picks : List ℕ) → after_picks tree leaf net c picks ≡ after_run c (run_from tree leaf net c.state picks)
  goes_on-after c picks =
      let zeros : c ≡ after_run c (course_from c.state) = ap₂ (λ f i. record c { fired = f; idle = i }) (omega arith) (omega arith) in
      ap (λ x. after_picks tree leaf net x picks) zeros ∙ picks-after c (course_from c.state) picks

  pub run-append : (s : State) (a b : List ℕ) → run_from tree leaf net s (a ++ b) ≡ after_run (run_from tree leaf net s a) (run_from tree leaf net (run_from tree leaf net s a).state b)
  run-append s a b = picks-append (course_from s) a b ∙ goes_on-after (run_from tree leaf net s a) b

  module _ (rest : List (List ℤ)) where
    abbrev ahead : Course → Course
    ahead c = record c { state = with_rest c.state rest }

    picked-rest : (c : Course) (p : ℕ) → IsFilled c.state rest → picked tree leaf net (ahead c) p ≡ ahead (picked tree leaf net c p)
    unfolding picked
    picked-rest c p filled =
        elim (cases_Bool (can_fire tree net c.state p)) [
          | inl can ↦
              cond-true _ _ _ (can_fire-rest tree net c.state rest filled p ∙ can)
              ∙ ap (λ s. record c { state = s; fired = c.fired + 1 }) (fire-rest tree leaf net c.state rest p can)
              ∙ ap ahead (sym (cond-true _ _ _ can))
          | inr cannot ↦
              cond-false _ _ _ (can_fire-rest tree net c.state rest filled p ∙ cannot)
              ∙ ap ahead (sym (cond-false _ _ _ cannot))
        ]

    -- items that come later change no pick at which the source had one
    picks-rest : (c : Course) (picks : List ℕ) → AreFilledFrom tree leaf net c picks rest → after_picks tree leaf net (ahead c) picks ≡ ahead (after_picks tree leaf net c picks)
    unfolding after_picks AreFilledFrom
    picks-rest c [] filled = refl
    picks-rest c (p ∷ picks) filled =
        ap (λ x. after_picks tree leaf net x picks) (picked-rest c p filled.0) ∙ picks-rest (picked tree leaf net c p) picks filled.1

  first-rest : (u w : List (List ℤ)) → first_state net (u ++ w) ≡ with_rest (first_state net u) w
  unfolding first_state with_rest
  first-rest u w = refl

  pub unbroken : (u w : List (List ℤ)) (a b : List ℕ) → AreFilled tree leaf net (first_state net u) a w →
      run tree leaf net (u ++ w) (a ++ b) ≡ after_run (run tree leaf net u a) (run_from tree leaf net (with_rest (run tree leaf net u a).state w) b)
  unbroken u w a b filled =
      let first : run tree leaf net (u ++ w) a ≡ ahead w (run tree leaf net u a) =
      ap (λ s. run_from tree leaf net s a) (first-rest u w) ∙ picks-rest w (course_from (first_state net u)) a filled in
      run-append (first_state net (u ++ w)) a b
      ∙ ap (λ (c : Course). after_run c (run_from tree leaf net c.state b)) first
