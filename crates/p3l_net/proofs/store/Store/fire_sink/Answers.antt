use Rattle.std.proofs.Common.{◌+◌, ◌<◌, ◌^◌, [], ◌∷◌, sym, ap, ◌∙◌, subst}
use Rattle.p3l_firing.specs.Lists.{first_or}
use Rattle.p3l_firing.specs.Token.{credit}
use Rattle.p3l_net.specs.Channel.{tokens_at}
use Rattle.p3l_net.specs.Machine.{Seen}
use Rattle.p3l_net.specs.Steps.{CanTake, without_first, one_emitted, ticked}
use Rattle.p3l_net.proofs.Standing.{one_long, here, is_kind}
use Rattle.p3l_net.proofs.step.Sink.{fits_sink, takes, few, fired}
use Rattle.p3l_net.proofs.store.Store.fire_sink.Goals as goal

pub process-process-requires : goal.process-process-requires
process-process-requires c = c.requires.may.there

pub input-input-requires : goal.input-input-requires
input-input-requires c = one_long _ _ (fits_sink (here c.requires.may c.process-process.ensures) (is_kind c.requires.may c.process-process.ensures)).ins

pub take_body-body-requires : goal.take_body-body-requires
take_body-body-requires c = subst (CanTake c.args.self.now) (sym c.input-input.ensures) (takes c.requires.may c.process-process.ensures)

pub emit-requires : goal.emit-requires
emit-requires c = subst (λ (x : Seen). x.emitted + 1 < 2 ^ 64) (sym c.take_body-body.ensures.after) (few c.requires.may c.process-process.ensures)

pub tick-requires : goal.tick-requires
tick-requires c =
    subst (λ (x : Seen). x.fired < 2 ^ 63) (sym (c.emit.ensures ∙ ap (λ (x : Seen). one_emitted x c.take_body-body.result) c.take_body-body.ensures.after)) c.requires.may.count

pub returns : goal.returns
returns c = λ leaf.
    let m : Seen = c.args.self.now in
    let body = c.take_body-body.ensures.body ∙ ap (λ k. (first_or credit (tokens_at m.queues k)).body) c.input-input.ensures in
    fired c.requires.may c.process-process.ensures c.requires.untrapped leaf c.take_body-body.result body _
    (c.tick.ensures ∙ ap ticked (c.emit.ensures ∙ ap (λ (x : Seen). one_emitted x c.take_body-body.result) (c.take_body-body.ensures.after ∙ ap (without_first m) c.input-input.ensures)))
    _ (c.one.ensures ∙ ap (λ k. k ∷ []) c.input-input.ensures)
