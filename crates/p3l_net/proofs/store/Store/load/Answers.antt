use Rattle.std.proofs.Common.{length, sym, ap, ◌∙◌}
use Rattle.p3l_net.specs.Channel.{Queue}
use Rattle.p3l_net.proofs.Queues.{queue_read}
use Rattle.p3l_net.proofs.Rings.{length-tokens}
use Rattle.p3l_net.proofs.store.Store.load.Goals as goal

pub returns : goal.returns
returns c =
    c.len.ensures.len
    ∙ sym (length-tokens c.behind-self.inside.slots.items c.behind-self.inside.tags.items)
    ∙ ap (λ (queue : Queue). length queue.tokens) (c.behind-self.view_is ∙ queue_read c.self.view_is c.args.c c.requires c.index.ensures)
