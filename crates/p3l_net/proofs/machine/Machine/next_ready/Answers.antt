use Rattle.std.proofs.Common.{◌≡◌, ◌<◌, ℕ, true, false, List, length, subst, sym, ap, ◌∙◌, None}
use Rattle.std.specs.Option.{IfSome, IfNone}
use Rattle.std.specs.List.{find}
use Rattle.p3l_ready.specs.Flags.{flag_at, in_turn}
use Rattle.p3l_base.specs.declared.outcome.Outcome.{Outcome}
use Rattle.p3l_firing.specs.RoundRobin.{next_of}
use Rattle.p3l_net.specs.declared.machine.Machine.TheInside.{Inside}
use Rattle.p3l_net.specs.Machine.{Seen, HasEmitted, can_step, state_of}
use Rattle.p3l_net.proofs.Frame.{next_flags, trapped_next, turn_state, turn_found, turn_none}
use Rattle.p3l_net.proofs.machine.Machine.next_ready.Goals as goal

pub returns-then-self-clause-state : goal.returns-then-self-clause-state
returns-then-self-clause-state c =
    subst (λ (x : Seen). (emitted : List Outcome) → HasEmitted x emitted → None ≡ next_of x.tree x.net (state_of x emitted) c.args.from) c.self.view_is
    (turn_state c.self.inside.store c.args.from (subst (λ (x : Seen). c.args.from < length x.net.procs) (sym c.self.view_is) c.requires) None (trapped_next c.self.inside.store (ap (λ (x : Inside). x.store.trapped) (sym c.self-inside.view_is) ∙ c.if-self.true) _))

pub returns-else-self-clause-ready : goal.returns-else-self-clause-ready
returns-else-self-clause-ready c =
    let next = next_flags c.self.inside.store c.self.inside.ready c.self.invariant.agrees (ap (λ (x : Inside). x.store.trapped) (sym c.self-inside.view_is) ∙ c.if-self.false) c.args.from c.next.result
    (c.next.ensures ∙ ap (λ (x : Inside). find (flag_at x.ready) (in_turn (length x.ready) c.args.from)) c.self-inside.view_is) in
    subst (λ (x : Seen). IfSome c.next.result (λ p. (p < length x.net.procs) × (can_step x p ≡ true))) c.self.view_is (turn_found c.self.inside.store c.args.from (subst (λ (x : Seen). c.args.from < length x.net.procs) (sym c.self.view_is) c.requires) c.next.result next)

pub returns-else-self-clause-none : goal.returns-else-self-clause-none
returns-else-self-clause-none c =
    let next = next_flags c.self.inside.store c.self.inside.ready c.self.invariant.agrees (ap (λ (x : Inside). x.store.trapped) (sym c.self-inside.view_is) ∙ c.if-self.false) c.args.from c.next.result
    (c.next.ensures ∙ ap (λ (x : Inside). find (flag_at x.ready) (in_turn (length x.ready) c.args.from)) c.self-inside.view_is) in
    subst (λ (x : Seen). IfNone c.next.result ((p : ℕ) → can_step x p ≡ false)) c.self.view_is (turn_none c.self.inside.store c.args.from (subst (λ (x : Seen). c.args.from < length x.net.procs) (sym c.self.view_is) c.requires) c.next.result next)

pub returns-else-self-clause-state : goal.returns-else-self-clause-state
returns-else-self-clause-state c =
    let next = next_flags c.self.inside.store c.self.inside.ready c.self.invariant.agrees (ap (λ (x : Inside). x.store.trapped) (sym c.self-inside.view_is) ∙ c.if-self.false) c.args.from c.next.result
    (c.next.ensures ∙ ap (λ (x : Inside). find (flag_at x.ready) (in_turn (length x.ready) c.args.from)) c.self-inside.view_is) in
    subst (λ (x : Seen). (emitted : List Outcome) → HasEmitted x emitted → c.next.result ≡ next_of x.tree x.net (state_of x emitted) c.args.from) c.self.view_is
    (turn_state c.self.inside.store c.args.from (subst (λ (x : Seen). c.args.from < length x.net.procs) (sym c.self.view_is) c.requires) c.next.result next)

pub returns-then-self-clause-first : goal.returns-then-self-clause-first
returns-then-self-clause-first c =
    subst (λ (x : Seen). None ≡ find (can_step x) (in_turn (length x.net.procs) c.args.from)) c.self.view_is (trapped_next c.self.inside.store (ap (λ (x : Inside). x.store.trapped) (sym c.self-inside.view_is) ∙ c.if-self.true) _)

pub returns-else-self-clause-first : goal.returns-else-self-clause-first
returns-else-self-clause-first c =
    subst (λ (x : Seen). c.next.result ≡ find (can_step x) (in_turn (length x.net.procs) c.args.from)) c.self.view_is
    (next_flags c.self.inside.store c.self.inside.ready c.self.invariant.agrees (ap (λ (x : Inside). x.store.trapped) (sym c.self-inside.view_is) ∙ c.if-self.false) c.args.from c.next.result
    (c.next.ensures ∙ ap (λ (x : Inside). find (flag_at x.ready) (in_turn (length x.ready) c.args.from)) c.self-inside.view_is))
