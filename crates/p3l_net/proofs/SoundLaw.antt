-- A machine stays sound.
use Rattle.std.proofs.Common.{◌≡◌, ℕ, ℤ, ◌+◌, ◌^◌, ◌<◌, true, List, [], length, Option, Some, sym, ap, ap₂, subst, arith}
use Rattle.std.specs.Option.{option_to_list}
use Rattle.std.proofs.lemmas.List.{length-replicate}
use Rattle.p3l_base.specs.declared.outcome.Outcome.{Outcome}
use Rattle.p3l_skel.specs.declared.tree.Tree.{Tree}
use Rattle.p3l_skel.specs.Tree.{node_at, GivesOuts}
use Rattle.p3l_firing.specs.declared.net.Net.{Net}
use Rattle.p3l_firing.specs.declared.token.Token.{Token}
use Rattle.p3l_firing.specs.Token.{has_trap}
use Rattle.p3l_firing.specs.Nodes.{Leaf}
use Rattle.p3l_firing.specs.State.{LocalState, State, fresh, first_state}
use Rattle.p3l_firing.specs.Widths.{Widths}
use Rattle.p3l_firing.specs.Fire.{can_fire, fire}
use Rattle.p3l_firing.specs.Typed.{IsTyped, IsFitting}
use Rattle.p3l_firing.proofs.row.{fitting_fired, fitting_first}
use Rattle.p3l_net.specs.Machine.{Seen, IsSound, started, state_of}
use Rattle.p3l_net.specs.Steps.{Done, ready_at}
use Rattle.p3l_net.proofs.Queues.{rooms-opened, tokens-opened, owns-first}

-- a machine that was just started is in the first state
pub started_state : (tree : Tree) (net : Net) → state_of (started tree net) [] ≡ first_state net []
unfolding state_of first_state
started_state tree net =
    let with : (ℕ → List Token) → (ℕ → LocalState) → State = λ f g. record { tokens = f; own = g; unsent = []; sent = 0; emitted = [] } in
    ap₂ with (tokens-opened net) (owns-first (length net.procs))

pub started_sound : (tree : Tree) (net : Net) → IsTyped tree net → IsSound (started tree net)
started_sound tree net typed = record {
  typed = typed;
  shaped = record {
    rooms = rooms-opened net.chans;
    keeps = length-replicate (length net.procs) fresh;
    numbers = λ p. subst (λ (o : LocalState). o.number < 0 + 2 ^ 63) (sym (ap (λ (f : ℕ → LocalState). f p) (owns-first (length net.procs)))) (omega arith);
    sent = omega arith;
    emitted = omega arith;
  };
  fitting = subst (IsFitting tree net typed.widths) (sym (started_state tree net)) (fitting_first tree net typed [] tt);
}

-- a state fits whichever outcomes were emitted
emitted_fits : {tree : Tree} {net : Net} {widths : Widths} (m : Seen) (es fs : List Outcome) → IsFitting tree net widths (state_of m es) → IsFitting tree net widths (state_of m fs)
unfolding state_of
emitted_fits m es fs fit = record { rooms = fit.rooms; tokens = fit.tokens; owns = fit.owns; unsent = fit.unsent }

-- an offer
pub offered_sound : (m : Seen) (item : List ℤ) → IsSound m → length item ≡ (node_at m.tree 0).ins → IsSound (record m { inbox = Some item })
unfolding state_of
offered_sound m item sound long = record {
  typed = sound.typed;
  shaped = record { rooms = sound.shaped.rooms; keeps = sound.shaped.keeps; numbers = sound.shaped.numbers; sent = sound.shaped.sent; emitted = sound.shaped.emitted };
  fitting = record { rooms = sound.fitting.rooms; tokens = sound.fitting.tokens; owns = sound.fitting.owns; unsent = (long, tt) };
}

-- a state that fits a typed net
Fitted : State → Tree → Net → Type 0
Fitted s tree net = (typed : IsTyped tree net) × IsFitting tree net typed.widths s

ready_can : (m : Seen) (p : ℕ) → ready_at m p ≡ true → can_fire m.tree m.net (state_of m []) p ≡ true
unfolding can_fire has_trap state_of
ready_can m p h = h

-- a firing
pub fired_sound : {leaf : Leaf} {m n : Seen} {p : ℕ} {touched : List ℕ} {outcome : Option Outcome} → IsSound m → GivesOuts m.tree leaf → ready_at m p ≡ true → Done leaf m n p touched outcome → IsSound n
unfolding Fitted
fired_sound {leaf = leaf} {m = m} {n = n} {p = p} {outcome = outcome} sound gives ready done =
    let after : IsFitting m.tree m.net sound.typed.widths (fire m.tree leaf m.net (state_of m []) p) = fitting_fired m.tree leaf gives m.net sound.typed (state_of m []) sound.fitting p (ready_can m p ready) in
    let same : state_of n (option_to_list outcome) ≡ fire m.tree leaf m.net (state_of m []) p = done.fires.state [] in
    let fits : IsFitting m.tree m.net sound.typed.widths (state_of n []) = emitted_fits n (option_to_list outcome) [] (subst (IsFitting m.tree m.net sound.typed.widths) (sym same) after) in
    let old : Fitted (state_of n []) m.tree m.net = (sound.typed, fits) in
    let new : Fitted (state_of n []) n.tree n.net = subst (λ x. Fitted (state_of n []) n.tree x) (sym done.fires.net) (subst (λ t. Fitted (state_of n []) t m.net) (sym done.fires.tree) old) in
    record { typed = new.0; shaped = done.shaped; fitting = new.1 }
