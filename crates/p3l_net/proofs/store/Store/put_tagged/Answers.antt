use Rattle.std.proofs.Common.{[], ◌∷◌, ◌++◌, refl, ap, ◌∙◌}
use Rattle.p3l_net.specs.Channel.{Queue}
use Rattle.p3l_net.specs.declared.channel.Slot.TheVariants.{Tagged}
use Rattle.p3l_net.proofs.Queues.{queue_read, queue_changed}
use Rattle.p3l_net.proofs.Rings.{slot_room, list_room, queue-appended, rings-appended}
use Rattle.p3l_net.proofs.store.Store.put_tagged.Goals as goal

pub append-requires : goal.append-requires
append-requires c =
    slot_room c.channel.inside.slots c.channel.inside.tags _ (c.channel.view_is ∙ queue_read c.self.view_is c.args.c c.requires.there c.index_mut-channel.ensures.value) c.requires.room

pub append-requires-2 : goal.append-requires-2
append-requires-2 c =
    list_room c.channel.inside.slots c.channel.inside.tags c.channel.invariant
    (slot_room c.channel.inside.slots c.channel.inside.tags _ (c.channel.view_is ∙ queue_read c.self.view_is c.args.c c.requires.there c.index_mut-channel.ensures.value) c.requires.room)

pub invariant_of-channel : goal.invariant_of-channel
invariant_of-channel c =
    let inside = c.channel.inside in
    rings-appended inside.slots c.append.new.ring inside.tags c.append-2.new.ring (Tagged c.args.body) (c.args.tags ∷ []) c.channel.invariant c.append.ensures c.append-2.ensures refl

pub returns : goal.returns
returns c =
    let inside = c.channel.inside in
    let more : Queue → Queue = λ queue. record queue { tokens = queue.tokens ++ record { tags = c.args.tags; body = c.args.body } ∷ [] } in
    queue_changed c.self.view_is c.args.c c.requires.there c.index_mut-channel.ensures.value more
    (queue-appended inside.slots c.append.new.ring inside.tags c.append-2.new.ring (Tagged c.args.body) (c.args.tags ∷ []) c.channel.invariant c.append.ensures c.append-2.ensures
    ∙ ap more c.channel.view_is)
