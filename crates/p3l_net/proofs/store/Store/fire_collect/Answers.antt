use Rattle.std.proofs.Common.{◌+◌, ◌<◌, ◌^◌, [], ◌∷◌, length, sym, ap, ap₂, ◌∙◌, subst}
use Rattle.std.specs.Option.{is_some}
use Rattle.std.specs.List.{AllByRecursion}
use Rattle.p3l_firing.specs.declared.token.Token.{Token}
use Rattle.p3l_firing.specs.Lists.{first_or}
use Rattle.p3l_firing.specs.Token.{credit, untagged}
use Rattle.p3l_firing.specs.State.{own_at, counted}
use Rattle.p3l_firing.specs.kinds.Collect.{due_in}
use Rattle.p3l_net.specs.Channel.{tokens_at}
use Rattle.p3l_net.specs.Machine.{Seen, state_of}
use Rattle.p3l_net.specs.Steps.{CanPut, without_first, with_last, with_own, ticked}
use Rattle.p3l_net.proofs.Standing.{one_long, put_after_take, here, is_kind, all_reads_there, own_there, own_few}
use Rattle.p3l_net.proofs.step.Collect.{fits_collect, takes, chooses, puts, fired, own_inside}
use Rattle.p3l_net.proofs.store.Store.fire_collect.Goals as goal

pub number-number-requires : goal.number-number-requires
number-number-requires c = own_inside c.requires

pub process-process-requires : goal.process-process-requires
process-process-requires c = c.requires.there

pub due_in-due-requires : goal.due_in-due-requires
due_in-due-requires c = subst (AllByRecursion (λ k. k < length c.args.self.now.queues)) (sym c.as_slice.ensures) (all_reads_there (here c.requires c.process-process.ensures))

pub output-output-requires : goal.output-output-requires
output-output-requires c = one_long _ _ (fits_collect (here c.requires c.process-process.ensures) (is_kind c.requires c.process-process.ensures)).outs

pub unwrap-input-requires : goal.unwrap-input-requires
unwrap-input-requires c =
    ap is_some (c.due_in-due.ensures ∙ ap₂ (due_in (state_of c.args.self.now [])) c.number-number.ensures c.as_slice.ensures) ∙ chooses c.requires c.process-process.ensures

pub take-token-requires : goal.take-token-requires
take-token-requires c = takes c.requires c.process-process.ensures c.unwrap-input.result (sym (c.due_in-due.ensures ∙ ap₂ (due_in (state_of c.args.self.now [])) c.number-number.ensures c.as_slice.ensures) ∙ c.unwrap-input.ensures)

pub put-requires : goal.put-requires
put-requires c =
    subst (λ (x : Seen). CanPut x c.output-output.result) (sym c.take-token.ensures.after)
    (put_after_take c.unwrap-input.result (takes c.requires c.process-process.ensures c.unwrap-input.result (sym (c.due_in-due.ensures ∙ ap₂ (due_in (state_of c.args.self.now [])) c.number-number.ensures c.as_slice.ensures) ∙ c.unwrap-input.ensures)).there
    (subst (CanPut c.args.self.now) (sym c.output-output.ensures) (puts c.requires c.process-process.ensures)))

pub count-requires-clause-there : goal.count-requires-clause-there
count-requires-clause-there c =
    subst (λ (x : Seen). c.args.p < length x.owns) (sym (c.put.ensures ∙ ap (λ (x : Seen). with_last x c.output-output.result c.untagged.result) c.take-token.ensures.after)) (own_there (here c.requires c.process-process.ensures))

pub count-requires-clause-few : goal.count-requires-clause-few
count-requires-clause-few c =
    subst (λ (x : Seen). (own_at x.owns c.args.p).number + 1 < 2 ^ 64) (sym (c.put.ensures ∙ ap (λ (x : Seen). with_last x c.output-output.result c.untagged.result) c.take-token.ensures.after)) (own_few (here c.requires c.process-process.ensures) c.requires.count)

pub tick-requires : goal.tick-requires
tick-requires c =
    subst (λ (x : Seen). x.fired < 2 ^ 63)
    (sym (c.count.ensures ∙ ap (λ (x : Seen). with_own x c.args.p (counted (own_at x.owns c.args.p))) (c.put.ensures ∙ ap (λ (x : Seen). with_last x c.output-output.result c.untagged.result) c.take-token.ensures.after)))
    c.requires.count

pub returns : goal.returns
returns c = λ leaf.
    let m : Seen = c.args.self.now in
    let q = c.process-process.result.now in
    let output = c.output-output.ensures in
    let input = c.unwrap-input.result in
    let sent : Token = untagged (first_or credit (tokens_at m.queues input)) in
    let is = c.untagged.ensures ∙ ap (λ (x : Token). untagged x) c.take-token.ensures.front in
    let put = c.put.ensures ∙ ap₂ (λ (x : Seen) t. with_last x c.output-output.result t) c.take-token.ensures.after is ∙ ap (λ k. with_last (without_first m input) k sent) output in
    fired c.requires c.process-process.ensures input (sym (c.due_in-due.ensures ∙ ap₂ (due_in (state_of c.args.self.now [])) c.number-number.ensures c.as_slice.ensures) ∙ c.unwrap-input.ensures) leaf _
    (c.tick.ensures ∙ ap ticked (c.count.ensures ∙ ap (λ (x : Seen). with_own x c.args.p (counted (own_at x.owns c.args.p))) put))
    _ (c.two.ensures ∙ ap (λ k. input ∷ (k ∷ [])) output)
