use Rattle.std.proofs.Common.{◌<◌, length, sym, ap, ap₂, ◌∙◌, subst}
use Rattle.p3l_net.specs.Channel.{prepended}
use Rattle.p3l_net.specs.Machine.{Seen}
use Rattle.p3l_net.proofs.Queues.{own_unchanged, put_back_same}
use Rattle.p3l_net.proofs.store.Store.gather.Goals as goal

pub returns-in-Err-clause-err : goal.returns-in-Err-clause-err
returns-in-Err-clause-err c =
    let m : Seen = c.args.self.now in
    let there = subst (λ (x : Seen). c.args.p < length x.owns) (sym c.take-token.ensures.after) c.requires.there in
    let gathered = own_unchanged c.self.view_is c.args.p there c.index_mut.ensures.value c.in-Err.ensures.err in
    c.put_back.ensures
    ∙ ap₂ (λ (x : Seen) t. record x { queues = prepended x.queues c.args.c t }) (gathered ∙ c.take-token.ensures.after) (c.in-Err.ensures.back.0 ∙ c.take-token.ensures.front)
    ∙ ap (λ queues. record m { queues = queues }) (put_back_same m.queues c.args.c c.requires.token.there c.requires.token.token)
