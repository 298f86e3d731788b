use Rattle.std.proofs.Common.{◌+◌, ◌<◌, ◌^◌, [], ◌∷◌, length, sym, ap, ap₂, ◌∙◌, subst, arith, length-set}
use Rattle.p3l_firing.specs.declared.token.Token.{Token}
use Rattle.p3l_firing.specs.Lists.{first_or}
use Rattle.p3l_firing.specs.Token.{credit, tagged, admitted}
use Rattle.p3l_firing.specs.State.{own_at, counted}
use Rattle.p3l_firing.specs.Process.{in_of, out_of}
use Rattle.p3l_net.specs.Channel.{tokens_at}
use Rattle.p3l_net.specs.Machine.{Seen}
use Rattle.p3l_net.specs.Steps.{CanTake, CanPut, without_first, with_last, with_own, ticked}
use Rattle.p3l_net.proofs.Standing.{one_long, put_after_take, take_after_take, here, is_kind, own_there, own_few}
use Rattle.p3l_net.proofs.step.Head.{fits_head, in_long, takes_new, takes_credit, apart, few_tags, puts, fired_new}
use Rattle.p3l_net.proofs.store.Store.let_in.Goals as goal

pub process-process-requires : goal.process-process-requires
process-process-requires c = c.requires.may.there

pub nth_input-outside-requires : goal.nth_input-outside-requires
nth_input-outside-requires c = let long = in_long (here c.requires.may c.process-process.ensures) (is_kind c.requires.may c.process-process.ensures) in omega (arith, long)

pub nth_input-credits-requires : goal.nth_input-credits-requires
nth_input-credits-requires c = let long = in_long (here c.requires.may c.process-process.ensures) (is_kind c.requires.may c.process-process.ensures) in omega (arith, long)

pub output-body-requires : goal.output-body-requires
output-body-requires c = one_long _ _ (fits_head (here c.requires.may c.process-process.ensures) (is_kind c.requires.may c.process-process.ensures)).outs

pub number-number-requires : goal.number-number-requires
number-number-requires c = own_there (here c.requires.may c.process-process.ensures)

pub take-token-requires : goal.take-token-requires
take-token-requires c = subst (CanTake c.args.self.now) (sym c.nth_input-outside.ensures) (takes_new c.requires.may c.process-process.ensures (c.requires.none _ c.process-process.ensures))

pub take-credit-requires : goal.take-credit-requires
take-credit-requires c =
    subst (λ (x : Seen). CanTake x c.nth_input-credits.result) (sym c.take-token.ensures.after)
    (take_after_take c.nth_input-outside.result
    (λ e. apart c.requires.may c.process-process.ensures (c.requires.none _ c.process-process.ensures) (sym c.nth_input-credits.ensures ∙ e ∙ c.nth_input-outside.ensures))
    (subst (CanTake c.args.self.now) (sym c.nth_input-credits.ensures) (takes_credit c.requires.may c.process-process.ensures (c.requires.none _ c.process-process.ensures))))

pub tagged-numbered-requires : goal.tagged-numbered-requires
tagged-numbered-requires c =
    let few = few_tags c.requires.may c.process-process.ensures (c.requires.none _ c.process-process.ensures) in
    let long = ap (λ (x : Token). length x.tags) (c.take-token.ensures.front ∙ ap (λ k. first_or credit (tokens_at c.args.self.now.queues k)) c.nth_input-outside.ensures) in
    omega (arith, few, long)

pub tagged-admitted-requires : goal.tagged-admitted-requires
tagged-admitted-requires c =
    let few = few_tags c.requires.may c.process-process.ensures (c.requires.none _ c.process-process.ensures) in
    let long = ap (λ (x : Token). length x.tags) (c.take-token.ensures.front ∙ ap (λ k. first_or credit (tokens_at c.args.self.now.queues k)) c.nth_input-outside.ensures) in
    let more = ap (λ (x : Token). length x.tags) c.tagged-numbered.ensures in
    omega (arith, few, long, more)

pub put-requires : goal.put-requires
put-requires c =
    let there = (subst (CanTake c.args.self.now) (sym c.nth_input-outside.ensures) (takes_new c.requires.may c.process-process.ensures (c.requires.none _ c.process-process.ensures))).there in
    let credits = (subst (CanTake c.args.self.now) (sym c.nth_input-credits.ensures) (takes_credit c.requires.may c.process-process.ensures (c.requires.none _ c.process-process.ensures))).there in
    let can = put_after_take c.nth_input-outside.result there (subst (CanPut c.args.self.now) (sym c.output-body.ensures) (puts c.requires.may c.process-process.ensures)) in
    subst (λ (x : Seen). CanPut x c.output-body.result)
    (sym (c.take-credit.ensures.after ∙ ap (λ (x : Seen). without_first x c.nth_input-credits.result) c.take-token.ensures.after))
    (put_after_take c.nth_input-credits.result (subst (λ n. c.nth_input-credits.result < n) (sym (length-set c.args.self.now.queues c.nth_input-outside.result _)) credits) can)

pub count-requires-clause-there : goal.count-requires-clause-there
count-requires-clause-there c = subst (λ (x : Seen). c.args.p < length x.owns) (sym (c.put.ensures ∙ ap (λ (x : Seen). with_last x c.output-body.result c.tagged-admitted.result) (c.take-credit.ensures.after ∙ ap (λ (x : Seen). without_first x c.nth_input-credits.result) c.take-token.ensures.after))) (own_there (here c.requires.may c.process-process.ensures))

pub count-requires-clause-few : goal.count-requires-clause-few
count-requires-clause-few c = subst (λ (x : Seen). (own_at x.owns c.args.p).number + 1 < 2 ^ 64) (sym (c.put.ensures ∙ ap (λ (x : Seen). with_last x c.output-body.result c.tagged-admitted.result) (c.take-credit.ensures.after ∙ ap (λ (x : Seen). without_first x c.nth_input-credits.result) c.take-token.ensures.after))) (own_few (here c.requires.may c.process-process.ensures) c.requires.may.count)

pub tick-requires : goal.tick-requires
tick-requires c =
    subst (λ (x : Seen). x.fired < 2 ^ 63) (sym (c.count.ensures ∙ ap (λ (x : Seen). with_own x c.args.p (counted (own_at x.owns c.args.p))) (c.put.ensures ∙ ap (λ (x : Seen). with_last x c.output-body.result c.tagged-admitted.result) (c.take-credit.ensures.after ∙ ap (λ (x : Seen). without_first x c.nth_input-credits.result) c.take-token.ensures.after)))) c.requires.may.count

pub returns : goal.returns
returns c = λ leaf.
    let m : Seen = c.args.self.now in
    let a = in_of c.process-process.result.now 0 in
    let k = in_of c.process-process.result.now 2 in
    let b = out_of c.process-process.result.now 0 in
    let sent : Token = admitted (own_at m.owns c.args.p).number (first_or credit (tokens_at m.queues a)) in
    let taken = c.take-token.ensures.front ∙ ap (λ i. first_or credit (tokens_at m.queues i)) c.nth_input-outside.ensures in
    let is = c.tagged-admitted.ensures ∙ ap (λ (x : Token). tagged 1 x) (c.tagged-numbered.ensures ∙ ap₂ tagged c.number-number.ensures taken) in
    let put = (c.put.ensures ∙ ap (λ (x : Seen). with_last x c.output-body.result c.tagged-admitted.result) (c.take-credit.ensures.after ∙ ap (λ (x : Seen). without_first x c.nth_input-credits.result) c.take-token.ensures.after))
    ∙ ap₂ (λ i j. with_last (without_first (without_first m i) j) c.output-body.result c.tagged-admitted.result) c.nth_input-outside.ensures c.nth_input-credits.ensures
    ∙ ap₂ (λ o t. with_last (without_first (without_first m a) k) o t) c.output-body.ensures is in
    fired_new c.requires.may c.process-process.ensures (c.requires.none _ c.process-process.ensures) leaf _
    (c.tick.ensures ∙ ap ticked (c.count.ensures ∙ ap (λ (x : Seen). with_own x c.args.p (counted (own_at x.owns c.args.p))) put))
    _ (c.three.ensures ∙ ap₂ (λ i j. i ∷ (j ∷ (c.output-body.result ∷ []))) c.nth_input-outside.ensures c.nth_input-credits.ensures ∙ ap (λ o. a ∷ (k ∷ (o ∷ []))) c.output-body.ensures)
