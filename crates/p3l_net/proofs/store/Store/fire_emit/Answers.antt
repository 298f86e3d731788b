use Rattle.std.proofs.Common.{◌+◌, ◌<◌, ◌^◌, [], ◌∷◌, length, sym, ap, ap₂, ◌∙◌, subst}
use Rattle.std.specs.Option.{is_some}
use Rattle.std.specs.List.{AllByRecursion}
use Rattle.p3l_firing.specs.declared.token.Token.{Token}
use Rattle.p3l_firing.specs.Lists.{first_or}
use Rattle.p3l_firing.specs.Token.{credit, tagged}
use Rattle.p3l_firing.specs.State.{own_at, counted}
use Rattle.p3l_firing.specs.kinds.Emit.{emptiest}
use Rattle.p3l_net.specs.Channel.{tokens_at}
use Rattle.p3l_net.specs.Machine.{Seen, state_of}
use Rattle.p3l_net.specs.Steps.{CanTake, CanPut, without_first, with_last, with_own, ticked}
use Rattle.p3l_net.proofs.Standing.{one_long, put_after_take, here, is_kind, all_writes_there, own_there, own_few}
use Rattle.p3l_net.proofs.step.Emit.{fits_emit, takes, chooses, few_tags, puts, fired}
use Rattle.p3l_net.proofs.store.Store.fire_emit.Goals as goal

pub process-process-requires : goal.process-process-requires
process-process-requires c = c.requires.there

pub input-input-requires : goal.input-input-requires
input-input-requires c = one_long _ _ (fits_emit (here c.requires c.process-process.ensures) (is_kind c.requires c.process-process.ensures)).ins

pub emptiest-chosen-requires-clause-sound : goal.emptiest-chosen-requires-clause-sound
emptiest-chosen-requires-clause-sound c = c.requires.sound

pub emptiest-chosen-requires-clause-channels : goal.emptiest-chosen-requires-clause-channels
emptiest-chosen-requires-clause-channels c = subst (AllByRecursion (λ k. k < length c.args.self.now.queues)) (sym c.as_slice.ensures) (all_writes_there (here c.requires c.process-process.ensures))

pub unwrap-output-requires : goal.unwrap-output-requires
unwrap-output-requires c =
    ap is_some (c.emptiest-chosen.ensures ∙ ap (emptiest c.args.self.now.net (state_of c.args.self.now [])) c.as_slice.ensures) ∙ chooses c.requires c.process-process.ensures

pub number-number-requires : goal.number-number-requires
number-number-requires c = own_there (here c.requires c.process-process.ensures)

pub take-token-requires : goal.take-token-requires
take-token-requires c = subst (CanTake c.args.self.now) (sym c.input-input.ensures) (takes c.requires c.process-process.ensures)

pub tagged-tagged-requires : goal.tagged-tagged-requires
tagged-tagged-requires c =
    subst (λ (x : Token). length x.tags < 12) (sym (c.take-token.ensures.front ∙ ap (λ k. first_or credit (tokens_at c.args.self.now.queues k)) c.input-input.ensures))
    (few_tags c.requires c.process-process.ensures c.unwrap-output.result (sym (c.emptiest-chosen.ensures ∙ ap (emptiest c.args.self.now.net (state_of c.args.self.now [])) c.as_slice.ensures) ∙ c.unwrap-output.ensures))

pub put-requires : goal.put-requires
put-requires c =
    subst (λ (x : Seen). CanPut x c.unwrap-output.result) (sym c.take-token.ensures.after)
    (put_after_take c.input-input.result (subst (CanTake c.args.self.now) (sym c.input-input.ensures) (takes c.requires c.process-process.ensures)).there
    (puts c.requires c.process-process.ensures c.unwrap-output.result (sym (c.emptiest-chosen.ensures ∙ ap (emptiest c.args.self.now.net (state_of c.args.self.now [])) c.as_slice.ensures) ∙ c.unwrap-output.ensures)))

pub count-requires-clause-there : goal.count-requires-clause-there
count-requires-clause-there c =
    subst (λ (x : Seen). c.args.p < length x.owns) (sym (c.put.ensures ∙ ap (λ (x : Seen). with_last x c.unwrap-output.result c.tagged-tagged.result) c.take-token.ensures.after)) (own_there (here c.requires c.process-process.ensures))

pub count-requires-clause-few : goal.count-requires-clause-few
count-requires-clause-few c =
    subst (λ (x : Seen). (own_at x.owns c.args.p).number + 1 < 2 ^ 64) (sym (c.put.ensures ∙ ap (λ (x : Seen). with_last x c.unwrap-output.result c.tagged-tagged.result) c.take-token.ensures.after)) (own_few (here c.requires c.process-process.ensures) c.requires.count)

pub tick-requires : goal.tick-requires
tick-requires c =
    subst (λ (x : Seen). x.fired < 2 ^ 63)
    (sym (c.count.ensures ∙ ap (λ (x : Seen). with_own x c.args.p (counted (own_at x.owns c.args.p))) (c.put.ensures ∙ ap (λ (x : Seen). with_last x c.unwrap-output.result c.tagged-tagged.result) c.take-token.ensures.after)))
    c.requires.count

pub returns : goal.returns
returns c = λ leaf.
    let m : Seen = c.args.self.now in
    let q = c.process-process.result.now in
    let input = c.input-input.ensures in
    let taken = c.take-token.ensures.front ∙ ap (λ k. first_or credit (tokens_at m.queues k)) input in
    let sent = c.tagged-tagged.ensures ∙ ap₂ tagged c.number-number.ensures taken in
    let put = c.put.ensures ∙ ap₂ (λ (x : Seen) t. with_last x c.unwrap-output.result t) (c.take-token.ensures.after ∙ ap (without_first m) input) sent in
    fired c.requires c.process-process.ensures c.unwrap-output.result (sym (c.emptiest-chosen.ensures ∙ ap (emptiest c.args.self.now.net (state_of c.args.self.now [])) c.as_slice.ensures) ∙ c.unwrap-output.ensures) leaf _
    (c.tick.ensures ∙ ap ticked (c.count.ensures ∙ ap (λ (x : Seen). with_own x c.args.p (counted (own_at x.owns c.args.p))) put))
    _ (c.two.ensures ∙ ap (λ k. k ∷ (c.unwrap-output.result ∷ [])) input)
