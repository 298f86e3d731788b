-- Runs whose picks are made by turns or by a seed end where no process can fire.
use Rattle.std.proofs.Common.{◌≡◌, ℕ, ℤ, Bool, false, List, [], ◌∷◌, filter, refl, sym, ap, ◌∙◌, inl, inr}
use Rattle.std.proofs.lemmas.Bool.{cond-false, false≢true}
use Rattle.p3l_firing.specs.NetInvariants.{HaveInWords}
use Rattle.p3l_firing.specs.Fire.{IsStuck, can_fire}
use Rattle.p3l_firing.specs.Run.{Course, course_from}
use Rattle.p3l_sched.proofs.PicksLaw.{made_stuck, reads_all}
use Rattle.p3l_sched.specs.declared.picker.Way.{Way}
use Rattle.p3l_sched.specs.declared.schedule.Schedule.TheVariants as schedules
use Rattle.p3l_sched.specs.Course.{picks_from}
use Rattle.p3l_sched.specs.Picker.{begun, IsMade}
use Rattle.p3l_run.specs.Laws.{OnlyRecordedPicksStop}
use Rattle.p3l_run.specs.Network.{IsSound, Network, begun_with, course_of, course_under, goes_on, is_some, most_firings, size_of}
use Rattle.p3l_run.proofs.StartSteps.{enough, orderly, some_process}

-- nothing of a list passes a test that nothing passes
filter_none : (test : ℕ → Bool) (xs : List ℕ) → ((p : ℕ) → test p ≡ false) → filter test xs ≡ []
filter_none test [] none = refl
filter_none test (x ∷ xs) none = cond-false (test x) _ _ (none x) ∙ filter_none test xs none

module _ (n : Network) where
  stuck_stops : (c : Course) → IsStuck n.tree n.net c.state → goes_on n c ≡ false
  stuck_stops c stuck = ap is_some (filter_none (can_fire n.tree n.net c.state) _ stuck)

  module _ (sound : IsSound n) (items : List (List ℤ)) (wide : HaveInWords n.tree items) where
    -- the picks that are made lead to where no process can fire
    made_stops : (w : Way) → IsMade (size_of n) w → goes_on n (course_under n items (picks_from n.tree n.leaf n.net (most_firings n items) w (course_from (begun_with n items)))) ≡ false
    made_stops w made =
        stuck_stops (course_under n items (picks_from n.tree n.leaf n.net (most_firings n items) w (course_from (begun_with n items))))
        (made_stuck n.tree n.leaf n.net n.firings sound.has_invariants.0 sound.has_invariants.1 (begun_with n items) (orderly n sound items wide) w made (most_firings n items) (enough n sound items wide))

pub only_recorded_picks_stop : OnlyRecordedPicksStop
unfolding course_of
only_recorded_picks_stop n schedules.RoundRobin items sound wide on =
    absurd (false≢true (sym (made_stops n sound items wide (begun schedules.RoundRobin) (some_process n.net.procs sound.typed.source)) ∙ on))
only_recorded_picks_stop n (schedules.Seeded seed) items sound wide on =
    absurd (false≢true (sym (made_stops n sound items wide (begun (schedules.Seeded seed)) tt) ∙ on))
only_recorded_picks_stop n (schedules.Recorded picks) items sound wide on =
    elim (reads_all n.tree n.leaf n.net picks (course_from (begun_with n items))) [
      | inl all ↦ ap (λ ps. schedules.Recorded ps) (sym all)
      | inr stuck ↦ absurd (false≢true (sym (stuck_stops n (course_of n (schedules.Recorded picks) items) stuck) ∙ on))
    ]
