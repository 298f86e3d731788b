use Rattle.std.proofs.Common.{length, nat_lt, sym, ap, ap₂, ◌∙◌}
use Rattle.p3l_net.specs.Channel.{Queue}
use Rattle.p3l_net.proofs.Queues.{queue_read}
use Rattle.p3l_net.proofs.Rings.{length-tokens}
use Rattle.p3l_net.proofs.store.Store.has_room.Goals as goal

pub returns : goal.returns
returns c =
    ap₂ nat_lt
    (c.len.ensures.len ∙ sym (length-tokens c.behind-self.inside.slots.items c.behind-self.inside.tags.items))
    c.capacity.ensures.capacity
    ∙ ap (λ (queue : Queue). nat_lt (length queue.tokens) queue.room) (c.behind-self.view_is ∙ queue_read c.self.view_is c.args.c c.requires c.index.ensures)
