-- A timer beside a machine whose inbox is filled before each pick goes as the timed run on all the items.
use Rattle.std.proofs.Common.{◌≡◌, ◌≢◌, ℕ, ℤ, ◌+◌, Bool, true, false, not, ◌&&◌, List, [], ◌++◌, length, Option, Some, None, slice_get, refl, sym, ap, ap₂, ◌∙◌, subst, inl, inr}
use Rattle.std.specs.Prelude.{unwrap_or}
use Rattle.std.specs.Option.{is_some, option_map, option_to_list}
use Rattle.std.proofs.lemmas.Bool.{cases_eq}
use Rattle.p3l_base.specs.declared.outcome.Outcome.{Outcome}
use Rattle.p3l_skel.specs.declared.tree.Tree.{Tree}
use Rattle.p3l_ready.proofs.AtLemmas.{same_function}
use Rattle.p3l_firing.specs.declared.net.Net.{Net}
use Rattle.p3l_firing.specs.declared.process.Proc.{Proc}
use Rattle.p3l_firing.specs.declared.process.ProcKind.{ProcKind}
use Rattle.p3l_firing.specs.declared.process.ProcKind.TheVariants.{Source}
use Rattle.p3l_firing.specs.Fire.{can_fire, is_ready, ready_of, row_can}
use Rattle.p3l_firing.specs.Lists.{has_first}
use Rattle.p3l_firing.specs.Nodes.{Leaf}
use Rattle.p3l_firing.specs.Process.{out_of}
use Rattle.p3l_firing.specs.Run.{Course, picked}
use Rattle.p3l_firing.specs.State.{LocalState, State, has_room, with_rest}
use Rattle.p3l_firing.specs.Token.{has_trap}
use Rattle.p3l_firing.specs.Typed.{IsTyped}
use Rattle.p3l_firing.specs.kinds.Source as source
use Rattle.p3l_firing.proofs.Reading.{SameIn, same-everywhere}
use Rattle.p3l_firing.proofs.Rows.{ready_at as row_ready}
use Rattle.p3l_firing.proofs.row.{row-alike}
use Rattle.p3l_net.specs.Machine.{Fires, Seen, can_step, started, state_of}
use Rattle.p3l_net.specs.Offered.{Follows, HasFilledInbox}
use Rattle.p3l_net.proofs.Emitted.{can_step-state}
use Rattle.p3l_net.proofs.FollowLaw.{can_fire_follows, follows_fired}
use Rattle.p3l_net.proofs.Frame.{offer_moves, offer_stays}
use Rattle.p3l_timed.specs.Moments.{due_at}
use Rattle.p3l_timed.specs.Clock.{Clock, HasFired, IsRenewed, IsStarted}
use Rattle.p3l_timed.specs.Due.{IsNext, due_next, without}
use Rattle.p3l_timed.specs.Follow.{IsInTime, Times}
use Rattle.p3l_timed.specs.Price.{price_at}
use Rattle.p3l_timed.specs.Timed.{Timing, timed_step, timing_from}
use Rattle.p3l_timed.proofs.Round.{due_again, due_stays, due_where, without_own}

-- a moment given before changes nothing
due_early : (can other : Bool) (fresh : ℕ) → due_next can fresh (due_next other fresh None) ≡ due_next can fresh None
due_early true true fresh = refl
due_early true false fresh = refl
due_early false other fresh = refl

-- but for the source a process can fire in the run just where it can in the machine
module _ (m : Seen) (typed : IsTyped m.tree m.net) where
  no_source : (r : ℕ) (q : Proc) → slice_get m.net.procs r ≡ Some q → r ≢ 0 → q.kind ≢ Source
  no_source r q stands other kind = other (typed.one_source r (ap (option_map (λ (x : Proc). x.kind)) stands ∙ ap Some kind))

  module _ (s : State) (rest : List (List ℤ)) where
    tokens_same : (cs : List ℕ) → SameIn (with_rest s rest) s cs
    unfolding with_rest
    tokens_same cs = same-everywhere (with_rest s rest) s (λ c. refl) cs

    ready_alike : (o : LocalState) (r : ℕ) (x : Option Proc) → slice_get m.net.procs r ≡ x → r ≢ 0 → ready_of x m.tree m.net (with_rest s rest) o ≡ ready_of x m.tree m.net s o
    unfolding ready_of
    ready_alike o r None stands other = refl
    ready_alike o r (Some q) stands other =
        row-alike m.net (with_rest s rest) s m.tree o q q.kind (tokens_same _) (λ kind. absurd (no_source r q stands other kind))

    can_alike : (r : ℕ) → r ≢ 0 → can_fire m.tree m.net (with_rest s rest) r ≡ can_fire m.tree m.net s r
    unfolding can_fire is_ready with_rest
    can_alike r other = ap (λ b. not (has_trap s.emitted) && b) (ready_alike (s.own r) r (slice_get m.net.procs r) refl other)

  pub can_same : (outcomes : List Outcome) (rest : List (List ℤ)) (c : Course) → Follows m outcomes rest c → (r : ℕ) → r ≢ 0 → can_fire m.tree m.net c.state r ≡ can_step m r
  can_same outcomes rest c f r other =
      ap (λ s. can_fire m.tree m.net s r) (sym f.state) ∙ can_alike (state_of m outcomes) rest r other ∙ can_step-state m outcomes r f.emitted

  -- and the source can't where the inbox is empty
  source_waits : (x : Option Proc) → slice_get m.net.procs 0 ≡ x → m.inbox ≡ None → is_ready m.tree m.net (state_of m []) 0 ≡ false
  unfolding row_can source.can state_of
  source_waits None stands empty = absurd (none_source (ap (option_map (λ (x : Proc). x.kind)) (sym stands) ∙ typed.source))
    where
      none_source : None ≡ Some Source → ⊥
      none_source e = cc
  source_waits (Some q) stands empty =
      let kind : q.kind ≡ Source = some_same q.kind Source (ap (option_map (λ (x : Proc). x.kind)) (sym stands) ∙ typed.source) in
      row_ready m.tree m.net (state_of m []) 0 q stands
      ∙ ap (λ k. row_can k m.tree m.net (state_of m []) ((state_of m []).own 0) q) kind
      ∙ ap (λ o. has_first (option_to_list o) && has_room m.net (state_of m []) (out_of q 0)) empty
    where
      some_same : (a b : ProcKind) → Some a ≡ Some b → a ≡ b
      some_same a b e = cc

  pub source_rests : m.inbox ≡ None → can_step m 0 ≡ false
  source_rests empty = ap (λ b. not m.trapped && b) (source_waits (slice_get m.net.procs 0) refl empty) ∙ and_false (not m.trapped)
    where
      and_false : (b : Bool) → (b && false) ≡ false
      and_false true = refl
      and_false false = refl

none_of : (o : Option ℕ) → is_some o ≡ false → o ≡ None
none_of None e = refl
none_of (Some x) e = cc

pub starts : (tree : Tree) (net : Net) (items : List (List ℤ)) (prices : List ℕ) (k : Clock) → IsStarted prices (started tree net) k → Times k (started tree net) (timing_from tree net (price_at prices) items)
starts tree net items prices k is =
    let t : Timing = timing_from tree net (price_at prices) items in
    let can : ℕ → Bool = can_fire tree net t.course.state in
    record {
      step = is.step;
      moment = is.moment;
      due = λ r.
          sym (due_early (can r) (can_step (started tree net) r) (0 + price_at prices r))
          ∙ ap₂ (λ (n : ℕ) ps. due_next (can r) (n + price_at ps r) (due_next (can_step (started tree net) r) (0 + price_at prices r) None)) (sym is.moment) (sym is.prices_are)
          ∙ ap (due_next (can r) (k.moment + price_at k.prices r)) (sym (is.due r));
    }

pub offer_keeps : (m : Seen) (item : List ℤ) (t : Timing) (k new : Clock) → IsTyped m.tree m.net → Times k m t → m.inbox ≡ None → IsRenewed (record m { inbox = Some item }) k new → Times new (record m { inbox = Some item }) t
offer_keeps m item t k new typed is empty renews =
    let n : Seen = record m { inbox = Some item } in
    let can : ℕ → Bool = can_fire m.tree m.net t.course.state in
    let fresh : ℕ → ℕ = λ r. k.moment + price_at k.prices r in
    let same_can : (r : ℕ) → r ≢ 0 → can_step n r ≡ can_step m r = λ r other. ap (λ b. not m.trapped && b) (offer_stays (offer_moves m n item typed refl) r other) in
    let goes : (r : ℕ) → due_next (can r) (fresh r) (due_at k.due r) ≡ due_next (can r) (fresh r) (due_at new.due r) = λ r. elim (cases_eq r 0) [
      | inl zero ↦
          let none : due_at k.due r ≡ None = none_of (due_at k.due r) (is.step.due r ∙ subst (λ z. can_step m z ≡ false) (sym zero) (source_rests m typed empty)) in
          ap (due_next (can r) (fresh r)) none
          ∙ sym (due_early (can r) (can_step n r) (fresh r))
          ∙ ap (λ o. due_next (can r) (fresh r) (due_next (can_step n r) (fresh r) o)) (sym none)
          ∙ ap (due_next (can r) (fresh r)) (sym (renews.due r))
      | inr other ↦
          ap (due_next (can r) (fresh r))
          (sym (due_stays (can_step n r) (fresh r) (due_at k.due r) (same_can r other ∙ sym (is.step.due r))) ∙ sym (renews.due r))
    ] in
    record {
      step = record {
        size = ap length renews.prices ∙ is.step.size;
        due = λ r. ap is_some (renews.due r) ∙ due_where (can_step n r) (fresh r) (due_at k.due r);
        fired = renews.fired ∙ is.step.fired;
        over = renews.over ∙ is.step.over;
      };
      moment = renews.moment ∙ is.moment;
      due = λ r.
          is.due r ∙ goes r
          ∙ ap₂ (λ (a : ℕ) ps. due_next (can r) (a + price_at ps r) (due_at new.due r)) (sym renews.moment) (sym renews.prices);
    }

-- and so does a look at a machine to which nothing was offered
pub same_keeps : (m : Seen) (t : Timing) (k new : Clock) → Times k m t → IsRenewed m k new → Times new m t
same_keeps m t k new is renews =
    let can : ℕ → Bool = can_fire m.tree m.net t.course.state in
    let fresh : ℕ → ℕ = λ r. k.moment + price_at k.prices r in
    let stays : (r : ℕ) → due_at k.due r ≡ due_at new.due r = λ r. sym (due_stays (can_step m r) (fresh r) (due_at k.due r) (sym (is.step.due r))) ∙ sym (renews.due r) in
    record {
      step = record {
        size = ap length renews.prices ∙ is.step.size;
        due = λ r. ap is_some (sym (stays r)) ∙ is.step.due r;
        fired = renews.fired ∙ is.step.fired;
        over = renews.over ∙ is.step.over;
      };
      moment = renews.moment ∙ is.moment;
      due = λ r.
          is.due r ∙ ap (due_next (can r) (fresh r)) (stays r)
          ∙ ap₂ (λ (a : ℕ) ps. due_next (can r) (a + price_at ps r) (due_at new.due r)) (sym renews.moment) (sym renews.prices);
    }

module _ (m : Seen) (outcomes : List Outcome) (rest : List (List ℤ)) (t : Timing) (k : Clock) (f : Follows m outcomes rest t.course) (filled : HasFilledInbox m rest) (is : Times k m t) where
  -- each process is due when the timer says it is
  pub due_same : (r : ℕ) → t.due r ≡ due_at k.due r
  due_same r = is.due r ∙ due_stays (can_fire m.tree m.net t.course.state r) (k.moment + price_at k.prices r) (due_at k.due r) (can_fire_follows f filled r ∙ sym (is.step.due r))

  pub in_time : IsInTime k t
  in_time =
      let same : t.due ≡ due_at k.due = same_function due_same in
      record {
        next = λ p next. subst (λ due. IsNext due p) (sym same) next;
        none = λ none q. due_same q ∙ none q;
      }

  module _ (n : Seen) (new : Clock) (leaf : Leaf) (p : ℕ) (outcome : Option Outcome) (typed : IsTyped m.tree m.net) (can : can_step m p ≡ true) (fires : Fires leaf m n p outcome) (inbox : p ≢ 0 → n.inbox ≡ m.inbox) (tells : HasFired n p k new) where
    abbrev after : Timing
    after = timed_step m.tree leaf m.net (price_at k.prices) t p

    course_is : after.course ≡ picked m.tree leaf m.net t.course p
    unfolding timed_step
    course_is = refl

    moment_is : after.moment ≡ new.moment
    unfolding timed_step
    moment_is = ap (λ o. unwrap_or o t.moment) (due_same p) ∙ ap (λ (x : ℕ). unwrap_or (due_at k.due p) x) (sym is.moment) ∙ sym tells.moment

    follows : Follows n (outcomes ++ option_to_list outcome) rest after.course
    follows = subst (Follows n (outcomes ++ option_to_list outcome) rest) (sym course_is) (follows_fired f filled can fires)

    typed_new : IsTyped n.tree n.net
    typed_new = subst (λ x. IsTyped x n.net) (sym fires.tree) (subst (IsTyped m.tree) (sym fires.net) typed)

    -- but for the source where it fired, each process can fire in the run just where it can in the machine
    can_again : (r : ℕ) → (r ≡ 0 → p ≢ 0) → can_fire n.tree n.net after.course.state r ≡ can_step n r
    can_again r apart = elim (cases_eq r 0) [
      | inl zero ↦ can_fire_follows follows (λ empty. filled (sym (inbox (apart zero)) ∙ empty)) r
      | inr other ↦ can_same n typed_new (outcomes ++ option_to_list outcome) rest after.course follows r other
    ]

    can_there : (r : ℕ) → can_fire m.tree m.net after.course.state r ≡ can_fire n.tree n.net after.course.state r
    can_there r = ap₂ (λ x y. can_fire x y after.course.state r) (sym fires.tree) (sym fires.net)

    abbrev fresh : ℕ → ℕ
    fresh r = new.moment + price_at k.prices r

    abbrev left : ℕ → Option ℕ
    left = without p (due_at k.due)

    -- the run and the timer agree on process r, except for the item still to be offered
    goes : (r : ℕ) → due_next (can_fire m.tree m.net after.course.state r) (fresh r) (left r) ≡ due_next (can_fire n.tree n.net after.course.state r) (fresh r) (due_next (can_step n r) (fresh r) (left r))
    goes r = ap (λ b. due_next b (fresh r) (left r)) (can_there r) ∙ elim (cases_eq r p) [
      | inl same ↦
          let none : left r ≡ None = subst (λ z. left z ≡ None) (sym same) (without_own p (due_at k.due)) in
          ap (due_next (can_fire n.tree n.net after.course.state r) (fresh r)) none
          ∙ sym (due_early (can_fire n.tree n.net after.course.state r) (can_step n r) (fresh r))
          ∙ ap (λ o. due_next (can_fire n.tree n.net after.course.state r) (fresh r) (due_next (can_step n r) (fresh r) o)) (sym none)
      | inr other ↦
          let e : can_fire n.tree n.net after.course.state r ≡ can_step n r = can_again r (λ zero source. other (zero ∙ sym source)) in
          ap (λ b. due_next b (fresh r) (left r)) e
          ∙ sym (due_again (can_step n r) (fresh r) (left r))
          ∙ ap (λ b. due_next b (fresh r) (due_next (can_step n r) (fresh r) (left r))) (sym e)
    ]

    without_same : (r : ℕ) → without p t.due r ≡ left r
    without_same r = ap (λ due. without p due r) (same_function due_same)

    due_now : (r : ℕ) → after.due r ≡ due_next (can_fire m.tree m.net after.course.state r) (fresh r) (left r)
    unfolding timed_step
    due_now r = ap₂ (λ (a : ℕ) o. due_next (can_fire m.tree m.net (picked m.tree leaf m.net t.course p).state r) (a + price_at k.prices r) o) moment_is (without_same r)

    pub firing_keeps : Times new n after
    firing_keeps = record {
      step = record {
        size = ap length tells.prices ∙ is.step.size ∙ ap (λ (x : Net). length x.procs) (sym fires.net);
        due = λ r. ap is_some (tells.due r) ∙ due_where (can_step n r) (fresh r) (left r);
        fired = tells.fired;
        over = tells.over;
      };
      moment = sym moment_is;
      due = λ r.
          due_now r ∙ goes r
          ∙ ap (due_next (can_fire n.tree n.net after.course.state r) (fresh r)) (sym (tells.due r))
          ∙ ap (λ ps. due_next (can_fire n.tree n.net after.course.state r) (new.moment + price_at ps r) (due_at new.due r)) (sym tells.prices);
    }
