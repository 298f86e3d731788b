use Rattle.std.proofs.Common.{◌<◌, ◌^◌, [], ◌∷◌, sym, ap, ◌∙◌, subst}
use Rattle.p3l_base.specs.declared.outcome.Outcome.TheVariants.{Value}
use Rattle.p3l_firing.specs.Token.{plain}
use Rattle.p3l_net.specs.Machine.{Seen}
use Rattle.p3l_net.specs.Steps.{CanPut, with_last, ticked, item_sent}
use Rattle.p3l_net.proofs.Standing.{one_long, here, is_kind}
use Rattle.p3l_net.proofs.step.Source.{fits_source, some, few, puts, fired}
use Rattle.p3l_net.proofs.store.Store.fire_source.Goals as goal

pub process-process-requires : goal.process-process-requires
process-process-requires c = c.requires.there

pub output-output-requires : goal.output-output-requires
output-output-requires c = one_long _ _ (fits_source (here c.requires c.process-process.ensures) (is_kind c.requires c.process-process.ensures)).outs

pub next_item-item-requires-clause-some : goal.next_item-item-requires-clause-some
next_item-item-requires-clause-some c = some c.requires c.process-process.ensures

pub next_item-item-requires-clause-few : goal.next_item-item-requires-clause-few
next_item-item-requires-clause-few c = few c.requires c.process-process.ensures

pub put_plain-requires : goal.put_plain-requires
put_plain-requires c =
    subst (λ (x : Seen). CanPut x c.output-output.result) (sym c.next_item-item.ensures.after)
    (let can = subst (CanPut c.args.self.now) (sym c.output-output.ensures) (puts c.requires c.process-process.ensures) in record { there = can.there; room = can.room })

pub tick-requires : goal.tick-requires
tick-requires c =
    subst (λ (x : Seen). x.fired < 2 ^ 63) (sym (c.put_plain.ensures ∙ ap (λ (x : Seen). with_last x c.output-output.result (plain (Value c.next_item-item.result))) c.next_item-item.ensures.after)) c.requires.count

pub returns : goal.returns
returns c = λ leaf.
    fired c.requires c.process-process.ensures leaf c.next_item-item.result c.next_item-item.ensures.item _
    (c.tick.ensures
    ∙ ap ticked (c.put_plain.ensures
    ∙ ap (λ (x : Seen). with_last x c.output-output.result (plain (Value c.next_item-item.result))) c.next_item-item.ensures.after
    ∙ ap (λ k. with_last (item_sent c.args.self.now) k (plain (Value c.next_item-item.result))) c.output-output.ensures))
    _ (c.one.ensures ∙ ap (λ k. k ∷ []) c.output-output.ensures)
