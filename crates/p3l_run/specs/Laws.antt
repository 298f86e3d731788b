-- Laws of every run of a network, in the form that a machine needs which runs it pick by pick.
use Rattle.std.specs.Prelude.{◌≡◌, ◌≢◌, ℕ, ℤ, suc, Bool, true, false, ◌+◌, ◌<◌, ◌≤◌, List, [], ◌∷◌, ◌++◌, Option, Some, None, IsTrue, length}
use Rattle.std.specs.Option.{option_to_list}
use Rattle.p3l_base.specs.declared.outcome.Outcome.{Outcome}
use Rattle.p3l_firing.specs.Fire.{IsStuck, can_fire}
use Rattle.p3l_net.specs.Machine.{Seen, Fires, can_step, ready_list}
use Rattle.p3l_net.specs.Offered.{Follows, HasFilledInbox}
use Rattle.p3l_firing.specs.Run.{Course, after_picks, course_from, picked}
use Rattle.p3l_firing.specs.NetInvariants.{HaveInWords}
use Rattle.p3l_firing.specs.Outcomes.{IsPrefixOf}
use Rattle.p3l_firing.specs.Typed.{IsTyped}
use Rattle.p3l_sched.specs.declared.picker.Way.{Way}
use Rattle.p3l_sched.specs.declared.schedule.Schedule.{Schedule}
use Rattle.p3l_sched.specs.declared.schedule.Schedule.TheVariants.{Recorded}
use Rattle.p3l_sched.specs.Course.{picks_from}
use Rattle.p3l_sched.specs.Picker.{IsPickedFrom, after_pick, pick_of, ready_of}
use Rattle.p3l_run.specs.Network.{IsSound, Network, begun_with, course_of, course_under, goes_on, meaning_of, most_firings, picks_of, ready_at, size_of}
use Rattle.p3l_run.specs.Start.{IsWithin, beginning}

-- a machine runs the network
pub record Runs (n : Network) (m : Seen) : Type 0 where
  pub tree : m.tree ≡ n.tree
  pub net : m.net ≡ n.net

pub record Laws (n : Network) : Type 0 where
  pub typed : IsTyped n.tree n.net
  pub some : 0 < size_of n
  -- of a machine that is offered the items
  pub starts : (items : List (List ℤ)) → Follows (beginning n.start n.tree n.net) [] items (course_from (begun_with n items))
  pub offered : (m : Seen) (outcomes : List Outcome) (item : List ℤ) (rest : List (List ℤ)) (c : Course) →
      Follows m outcomes (item ∷ rest) c → m.inbox ≡ None → Follows (record m { inbox = Some item }) outcomes rest c
  pub fires : (m new : Seen) (outcomes : List Outcome) (rest : List (List ℤ)) (c : Course) (p : ℕ) (outcome : Option Outcome) →
      Follows m outcomes rest c → HasFilledInbox m rest → IsTrue (can_step m p) → Fires n.leaf m new p outcome →
      Follows new (outcomes ++ option_to_list outcome) rest (picked m.tree n.leaf m.net c p)
  pub idles : (m : Seen) (outcomes : List Outcome) (rest : List (List ℤ)) (c : Course) (p : ℕ) →
      Follows m outcomes rest c → HasFilledInbox m rest → can_step m p ≡ false → Follows m outcomes rest (picked m.tree n.leaf m.net c p)
  pub can_fires : (m : Seen) (outcomes : List Outcome) (rest : List (List ℤ)) (c : Course) (p : ℕ) →
      Follows m outcomes rest c → HasFilledInbox m rest → can_fire m.tree m.net c.state p ≡ can_step m p
  -- of what is picked for it
  pub readies : (m : Seen) (outcomes : List Outcome) (rest : List (List ℤ)) (c : Course) →
      Follows m outcomes rest c → HasFilledInbox m rest → ready_of (can_fire m.tree m.net c.state) (length m.net.procs) ≡ ready_list m
  pub picks : (m : Seen) (outcomes : List Outcome) (rest : List (List ℤ)) (c : Course) (way : Way) →
      Follows m outcomes rest c → HasFilledInbox m rest → pick_of (can_fire m.tree m.net c.state) (length m.net.procs) way ≡ pick_of (can_step m) (length m.net.procs) way
  pub picked_from : (can : ℕ → Bool) (size : ℕ) (way : Way) (p : ℕ) → pick_of can size way ≡ Some p → IsPickedFrom can size way p
  -- of the picks of a run
  pub next : (most : ℕ) (way : Way) (c : Course) (p : ℕ) → ready_at n c ≢ [] → pick_of (can_fire n.tree n.net c.state) (size_of n) way ≡ Some p →
      picks_from n.tree n.leaf n.net (suc most) way c ≡ p ∷ picks_from n.tree n.leaf n.net most (after_pick (size_of n) way p) (picked n.tree n.leaf n.net c p)
  pub ended : (most : ℕ) (way : Way) (c : Course) → pick_of (can_fire n.tree n.net c.state) (size_of n) way ≡ None → picks_from n.tree n.leaf n.net most way c ≡ []
  pub stuck : (most : ℕ) (way : Way) (c : Course) → ready_at n c ≡ [] → picks_from n.tree n.leaf n.net most way c ≡ []
  pub none_can : (c : Course) → ready_at n c ≡ [] → IsStuck n.tree n.net c.state
  pub one_more : (c : Course) (picks : List ℕ) (p : ℕ) →
      after_picks n.tree n.leaf n.net c (picks ++ p ∷ []) ≡ picked n.tree n.leaf n.net (after_picks n.tree n.leaf n.net c picks) p
  -- of all runs
  pub none_comes : (c : Course) (p : ℕ) → c.state.unsent ≡ [] → (picked n.tree n.leaf n.net c p).state.unsent ≡ []
  pub fired_within : (items : List (List ℤ)) → HaveInWords n.tree items → (picks : List ℕ) →
      IsWithin n.start n.firings (course_under n items picks).fired (course_under n items picks).state.sent
  pub fired_most : (items : List (List ℤ)) → HaveInWords n.tree items → (picks : List ℕ) → (course_under n items picks).fired ≤ most_firings n items
  pub counted : (items : List (List ℤ)) → HaveInWords n.tree items → (picks : List ℕ) →
      (course_under n items picks).state.sent + length (course_under n items picks).state.unsent
      ≡ (begun_with n items).sent + length (begun_with n items).unsent
  -- the count of a process rises by one at most at each pick
  pub numbers : (c : Course) (picks : List ℕ) (p : ℕ) → ((after_picks n.tree n.leaf n.net c picks).state.own p).number ≤ (c.state.own p).number + length picks
  pub stops : (schedule : Schedule) (items : List (List ℤ)) → HaveInWords n.tree items →
      goes_on n (course_of n schedule items) ≡ true → schedule ≡ Recorded (picks_of n schedule items)
  pub begins : (items : List (List ℤ)) → HaveInWords n.tree items → (picks : List ℕ) → IsPrefixOf (course_under n items picks).state.emitted (meaning_of n items)
  pub finished : (items : List (List ℤ)) → HaveInWords n.tree items → (picks : List ℕ) → IsStuck n.tree n.net (course_under n items picks).state →
      (course_under n items picks).state.emitted ≡ meaning_of n items

-- a run at whose end some process can fire had recorded picks, and all of them were made
abbrev pub OnlyRecordedPicksStop : Type 0
OnlyRecordedPicksStop =
    (n : Network) (schedule : Schedule) (items : List (List ℤ)) → IsSound n → HaveInWords n.tree items →
    goes_on n (course_of n schedule items) ≡ true → schedule ≡ Recorded (picks_of n schedule items)
