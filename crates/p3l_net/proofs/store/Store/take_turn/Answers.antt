use Rattle.std.proofs.Common.{ℕ, ◌<◌, ◌^◌, [], ◌∷◌, sym, ap, ap₂, ◌∙◌, subst, arith}
use Rattle.p3l_base.specs.declared.outcome.Outcome.TheVariants.{Trapped}
use Rattle.p3l_firing.specs.declared.token.Token.{Token}
use Rattle.p3l_firing.specs.Lists.{first_or}
use Rattle.p3l_firing.specs.State.{own_at, gathering}
use Rattle.p3l_firing.specs.Token.{credit, newest_tag, once_more}
use Rattle.p3l_firing.specs.Process.{in_of}
use Rattle.p3l_net.specs.Channel.{tokens_at}
use Rattle.p3l_net.specs.Machine.{Seen}
use Rattle.p3l_net.specs.Steps.{CanTake, CanPut, without_first, with_last, with_own, ticked}
use Rattle.p3l_net.proofs.Standing.{one_long, put_after_take, here, is_kind, within_room}
use Rattle.p3l_net.proofs.step.Tail.{fits_tail, out_long, comes, takes, puts_back, few_turns, found, fired_held, fired_again}
use Rattle.p3l_net.proofs.store.Store.take_turn.Goals as goal

pub input-input-requires : goal.input-input-requires
input-input-requires g c = one_long _ _ (fits_tail (here c.requires.may c.process-process.ensures) (is_kind c.requires.may c.process-process.ensures)).ins

pub nth_output-back-requires : goal.nth_output-back-requires
nth_output-back-requires g c = let long = out_long (here c.requires.may c.process-process.ensures) (is_kind c.requires.may c.process-process.ensures) in omega (arith, long)

pub next_turn-requires-clause-comes : goal.next_turn-requires-clause-comes
next_turn-requires-clause-comes g c = comes c.requires.may c.process-process.ensures (c.requires.stays _ c.process-process.ensures)

pub gather-requires-clause-token : goal.gather-requires-clause-token
gather-requires-clause-token g c = subst (CanTake c.args.self.now) (sym c.input-input.ensures) (takes c.requires.may c.process-process.ensures (c.requires.stays _ c.process-process.ensures))

pub gather-requires-clause-room : goal.gather-requires-clause-room
gather-requires-clause-room g c = within_room (here c.requires.may c.process-process.ensures) _

pub gather_trapped-requires-clause-token : goal.gather_trapped-requires-clause-token
gather_trapped-requires-clause-token g c = subst (CanTake c.args.self.now) (sym c.input-input.ensures) (takes c.requires.may c.process-process.ensures (c.requires.stays _ c.process-process.ensures))

pub gather_trapped-requires-clause-room : goal.gather_trapped-requires-clause-room
gather_trapped-requires-clause-room g c = within_room (here c.requires.may c.process-process.ensures) _

pub take-token-requires : goal.take-token-requires
take-token-requires g c = subst (CanTake c.args.self.now) (sym c.input-input.ensures) (takes c.requires.may c.process-process.ensures (c.requires.stays _ c.process-process.ensures))

pub once_more-requires : goal.once_more-requires
once_more-requires g c =
    let m : Seen = c.args.self.now in
    let first : Token = first_or credit (tokens_at m.queues (in_of c.process-process.result.now 0)) in
    let turn = found c.requires.may c.process-process.ensures (c.requires.stays _ c.process-process.ensures) (g.U.Units.leaf c.args.units.now) _ _ c.in_ok-next_turn.ensures c.in-Again.is in
    subst (λ (x : Token). newest_tag x < 2 ^ 63) (sym (c.take-token.ensures.front ∙ ap (λ k. first_or credit (tokens_at m.queues k)) c.input-input.ensures))
    (few_turns c.requires.may c.process-process.ensures (c.requires.stays _ c.process-process.ensures) (g.U.Units.leaf c.args.units.now) turn)

pub put-requires : goal.put-requires
put-requires g c =
    subst (λ (x : Seen). CanPut x c.nth_output-back.result) (sym c.take-token.ensures.after)
    (put_after_take c.input-input.result (subst (CanTake c.args.self.now) (sym c.input-input.ensures) (takes c.requires.may c.process-process.ensures (c.requires.stays _ c.process-process.ensures))).there
    (subst (CanPut c.args.self.now) (sym c.nth_output-back.ensures) (puts_back c.requires.may c.process-process.ensures (c.requires.stays _ c.process-process.ensures))))

pub returns-in_ok-gather-in-Stays-clause-done : goal.returns-in_ok-gather-in-Stays-clause-done
returns-in_ok-gather-in-Stays-clause-done g c =
    let m : Seen = c.args.self.now in
    let p : ℕ = c.args.p in
    let first : ℕ → Token = λ k. first_or credit (tokens_at m.queues k) in
    let here : Token = first (in_of c.process-process.result.now 0) in
    let turn = found c.requires.may c.process-process.ensures (c.requires.stays _ c.process-process.ensures) (g.U.Units.leaf c.args.units.now) _ _ c.in_ok-next_turn.ensures c.in-Stays.is in
    fired_held c.requires.may c.process-process.ensures (c.requires.stays _ c.process-process.ensures) (g.U.Units.leaf c.args.units.now) here.body turn _
    (c.tick.ensures ∙ ap ticked (c.in_ok-gather-in-Stays.ensures.ok ∙ ap (λ k. with_own (without_first m k) p (gathering (own_at m.owns p) (first k))) c.input-input.ensures))
    _ (c.one.ensures ∙ ap (λ k. k ∷ []) c.input-input.ensures)

pub returns-in_ok-gather_trapped-in-Traps-clause-done :
    goal.returns-in_ok-gather_trapped-in-Traps-clause-done
returns-in_ok-gather_trapped-in-Traps-clause-done g c =
    let m : Seen = c.args.self.now in
    let p : ℕ = c.args.p in
    let first : ℕ → Token = λ k. first_or credit (tokens_at m.queues k) in
    let here : Token = first (in_of c.process-process.result.now 0) in
    let turn = found c.requires.may c.process-process.ensures (c.requires.stays _ c.process-process.ensures) (g.U.Units.leaf c.args.units.now) _ _ c.in_ok-next_turn.ensures c.in-Traps.is in
    fired_held c.requires.may c.process-process.ensures (c.requires.stays _ c.process-process.ensures) (g.U.Units.leaf c.args.units.now) (Trapped c.in-Traps.trap) turn _
    (c.tick-in-Traps.ensures
    ∙ ap ticked (c.in_ok-gather_trapped-in-Traps.ensures.ok ∙ ap (λ k. with_own (without_first m k) p (gathering (own_at m.owns p) (record (first k) { body = Trapped c.in-Traps.trap }))) c.input-input.ensures))
    _ (c.one-in-Traps.ensures ∙ ap (λ k. k ∷ []) c.input-input.ensures)

pub returns-in-Again-clause-done : goal.returns-in-Again-clause-done
returns-in-Again-clause-done g c =
    let m : Seen = c.args.self.now in
    let first : ℕ → Token = λ k. first_or credit (tokens_at m.queues k) in
    let a : ℕ = in_of c.process-process.result.now 0 in
    let turn = found c.requires.may c.process-process.ensures (c.requires.stays _ c.process-process.ensures) (g.U.Units.leaf c.args.units.now) _ _ c.in_ok-next_turn.ensures c.in-Again.is in
    let sent = c.once_more.ensures ∙ ap (λ (x : Token). once_more x) (c.take-token.ensures.front ∙ ap first c.input-input.ensures) in
    fired_again c.requires.may c.process-process.ensures (c.requires.stays _ c.process-process.ensures) (g.U.Units.leaf c.args.units.now) turn _
    (c.tick-in-Again.ensures
    ∙ ap ticked (c.put.ensures
    ∙ ap₂ (λ (x : Seen) t. with_last x c.nth_output-back.result t) (c.take-token.ensures.after ∙ ap (without_first m) c.input-input.ensures) sent
    ∙ ap (λ k. with_last (without_first m a) k (once_more (first a))) c.nth_output-back.ensures))
    _ (c.two.ensures ∙ ap₂ (λ i o. i ∷ (o ∷ [])) c.input-input.ensures c.nth_output-back.ensures)
