use Rattle.std.proofs.Common.{◌<◌, ◌^◌, [], ◌∷◌, sym, ap, ap₂, ◌∙◌, subst, arith}
use Rattle.p3l_firing.specs.declared.token.Token.{Token}
use Rattle.p3l_firing.specs.Lists.{first_or}
use Rattle.p3l_firing.specs.Token.{credit}
use Rattle.p3l_firing.specs.Process.{in_of}
use Rattle.p3l_net.specs.Channel.{tokens_at}
use Rattle.p3l_net.specs.Machine.{Seen}
use Rattle.p3l_net.specs.Steps.{CanTake, CanPut, without_first, with_last, ticked}
use Rattle.p3l_net.proofs.Standing.{one_long, put_after_take, here, is_kind}
use Rattle.p3l_net.proofs.step.Head.{fits_head, in_long, takes_back, puts, fired_back}
use Rattle.p3l_net.proofs.store.Store.send_round.Goals as goal

pub process-process-requires : goal.process-process-requires
process-process-requires c = c.requires.may.there

pub nth_input-back-requires : goal.nth_input-back-requires
nth_input-back-requires c = let long = in_long (here c.requires.may c.process-process.ensures) (is_kind c.requires.may c.process-process.ensures) in omega (arith, long)

pub output-body-requires : goal.output-body-requires
output-body-requires c = one_long _ _ (fits_head (here c.requires.may c.process-process.ensures) (is_kind c.requires.may c.process-process.ensures)).outs

pub take-token-requires : goal.take-token-requires
take-token-requires c = subst (CanTake c.args.self.now) (sym c.nth_input-back.ensures) (takes_back c.requires.may c.process-process.ensures (c.requires.back _ c.process-process.ensures))

pub put-requires : goal.put-requires
put-requires c =
    subst (λ (x : Seen). CanPut x c.output-body.result) (sym c.take-token.ensures.after)
    (put_after_take c.nth_input-back.result (subst (CanTake c.args.self.now) (sym c.nth_input-back.ensures) (takes_back c.requires.may c.process-process.ensures (c.requires.back _ c.process-process.ensures))).there
    (subst (CanPut c.args.self.now) (sym c.output-body.ensures) (puts c.requires.may c.process-process.ensures)))

pub tick-requires : goal.tick-requires
tick-requires c =
    subst (λ (x : Seen). x.fired < 2 ^ 63) (sym (c.put.ensures ∙ ap (λ (x : Seen). with_last x c.output-body.result c.take-token.result) c.take-token.ensures.after)) c.requires.may.count

pub returns : goal.returns
returns c = λ leaf.
    let m : Seen = c.args.self.now in
    let back = c.nth_input-back.ensures in
    let body = c.output-body.ensures in
    let taken = c.take-token.ensures.front ∙ ap (λ k. first_or credit (tokens_at m.queues k)) back in
    let sent : Token = first_or credit (tokens_at m.queues (in_of c.process-process.result.now 1)) in
    fired_back c.requires.may c.process-process.ensures (c.requires.back _ c.process-process.ensures) leaf _
    (c.tick.ensures
    ∙ ap ticked (c.put.ensures
    ∙ ap₂ (λ (x : Seen) t. with_last x c.output-body.result t) (c.take-token.ensures.after ∙ ap (without_first m) back) taken
    ∙ ap (λ k. with_last (without_first m (in_of c.process-process.result.now 1)) k sent) body))
    _ (c.two.ensures ∙ ap₂ (λ i o. i ∷ (o ∷ [])) back body)
