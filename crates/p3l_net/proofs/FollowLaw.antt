-- A machine whose empty inbox is filled before each pick goes as the run on all the items.
use Rattle.std.proofs.Common.{◌≡◌, ℕ, ℤ, ◌+◌, true, false, List, [], ◌∷◌, ◌++◌, Option, Some, None, refl, sym, length, ap, ap₂, ◌∙◌, subst}
use Rattle.std.specs.Option.{option_to_list}
use Rattle.std.proofs.lemmas.Bool.{cond-true, cond-false}
use Rattle.p3l_base.specs.declared.outcome.Outcome.{Outcome}
use Rattle.p3l_skel.specs.declared.tree.Tree.{Tree}
use Rattle.p3l_firing.specs.declared.net.Net.{Net}
use Rattle.p3l_firing.specs.Token.{has_trap}
use Rattle.p3l_firing.specs.State.{State, first_state, own_at}
use Rattle.p3l_net.specs.Channel.{tokens_at}
use Rattle.p3l_firing.specs.Fire.{can_fire, fire}
use Rattle.p3l_firing.specs.Run.{Course, course_from, picked}
use Rattle.p3l_firing.specs.RoundRobin.{next_of}
use Rattle.p3l_net.specs.Machine.{Seen, started, Fires, can_step, state_of}
use Rattle.p3l_firing.specs.State.{with_rest, IsFilled}
use Rattle.p3l_net.specs.Offered.{Follows, HasFilledInbox}
use Rattle.p3l_net.proofs.Queues.{tokens-opened, owns-first}
use Rattle.p3l_firing.specs.Nodes.{Leaf}
use Rattle.p3l_net.proofs.Emitted.{can_step-state}
use Rattle.p3l_firing.proofs.row.{can_fire-rest, next_of-rest, fire-rest}

-- an item that is offered to an empty inbox was the next of the rest
offered : (m : Seen) (emitted : List Outcome) (item : List ℤ) (rest : List (List ℤ)) → m.inbox ≡ None → with_rest (state_of (record m { inbox = Some item }) emitted) rest ≡ with_rest (state_of m emitted) (item ∷ rest)
unfolding with_rest state_of
offered m emitted item rest none =
    let waits : Option (List ℤ) → State = λ o. record { tokens = tokens_at m.queues; own = own_at m.owns; unsent = option_to_list o ++ item ∷ rest; sent = m.sent; emitted = emitted } in
    ap waits (sym none)

-- nothing has fired, and nothing was offered
pub follows_started : (tree : Tree) (net : Net) (items : List (List ℤ)) → Follows (started tree net) [] items (course_from (first_state net items))
unfolding with_rest state_of first_state has_trap
follows_started tree net items =
    let with : _ → _ → State = λ f g. record { tokens = f; own = g; unsent = items; sent = 0; emitted = [] } in
    record { state = ap₂ with (tokens-opened net) (owns-first (length net.procs)); fired = refl; emitted = record { count = refl; trap = refl } }

module _ {m : Seen} {emitted : List Outcome} {c : Course} where
  -- the next item is offered
  pub follows_offered : {item : List ℤ} {rest : List (List ℤ)} → Follows m emitted (item ∷ rest) c → m.inbox ≡ None → Follows (record m { inbox = Some item }) emitted rest c
  follows_offered {item = item} {rest = rest} f empty = record { state = offered m emitted item rest empty ∙ f.state; fired = f.fired; emitted = record { count = f.emitted.count; trap = f.emitted.trap } }

  module _ {rest : List (List ℤ)} (f : Follows m emitted rest c) (filled : HasFilledInbox m rest) where
    filled_state : IsFilled (state_of m emitted) rest
    unfolding state_of
    filled_state = none_left m.inbox filled
      where
        none_left : (o : Option (List ℤ)) → (o ≡ None → rest ≡ []) → option_to_list o ≡ [] → rest ≡ []
        none_left None h e = h refl
        none_left (Some x) h e = cc

    -- a process of the machine can fire where it can in the run
    pub can_fire_follows : (p : ℕ) → can_fire m.tree m.net c.state p ≡ can_step m p
    can_fire_follows p = ap (λ s. can_fire m.tree m.net s p) (sym f.state) ∙ can_fire-rest m.tree m.net (state_of m emitted) rest filled_state p ∙ can_step-state m emitted p f.emitted

    -- and the round robin picks the same
    pub next_follows : (from : ℕ) → next_of m.tree m.net c.state from ≡ next_of m.tree m.net (state_of m emitted) from
    next_follows from = ap (λ s. next_of m.tree m.net s from) (sym f.state) ∙ next_of-rest m.tree m.net (state_of m emitted) rest filled_state from

    -- a firing follows
    pub follows_fired : {leaf : Leaf} {new : Seen} {p : ℕ} {outcome : Option Outcome} → can_step m p ≡ true → Fires leaf m new p outcome → Follows new (emitted ++ option_to_list outcome) rest (picked m.tree leaf m.net c p)
    unfolding picked
    follows_fired {leaf = leaf} {new = new} {p = p} {outcome = outcome} can fires =
        let here : can_fire m.tree m.net c.state p ≡ true = can_fire_follows p ∙ can in
        let there : can_fire m.tree m.net (state_of m emitted) p ≡ true = can_step-state m emitted p f.emitted ∙ can in
        let after_it : Course = record c { state = fire m.tree leaf m.net c.state p; fired = c.fired + 1 } in
        let followed : Follows new (emitted ++ option_to_list outcome) rest after_it = record {
          state = ap (λ s. with_rest s rest) (fires.state emitted) ∙ sym (fire-rest m.tree leaf m.net (state_of m emitted) rest p there) ∙ ap (λ s. fire m.tree leaf m.net s p) f.state;
          fired = fires.fired ∙ ap (λ n. n + 1) f.fired;
          emitted = fires.emitted emitted f.emitted;
        } in
        subst (Follows new (emitted ++ option_to_list outcome) rest) (sym (cond-true _ _ _ here)) followed

    -- an idle pick too
    pub follows_idle : (leaf : Leaf) (p : ℕ) → can_step m p ≡ false → Follows m emitted rest (picked m.tree leaf m.net c p)
    unfolding picked
    follows_idle leaf p cannot =
        let here : can_fire m.tree m.net c.state p ≡ false = can_fire_follows p ∙ cannot in
        let waited : Follows m emitted rest (record c { idle = c.idle + 1 }) = record { state = f.state; fired = f.fired; emitted = f.emitted } in
        subst (Follows m emitted rest) (sym (cond-false _ _ _ here)) waited
