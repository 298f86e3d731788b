use Rattle.std.proofs.Common.{[], ◌∷◌, ◌++◌, refl, sym, ap, ◌∙◌}
use Rattle.std.proofs.lemmas.List.{append-nil}
use Rattle.circular_buffer.specs.Buffer.{buffer}
use Rattle.p3l_firing.specs.Token.{plain}
use Rattle.p3l_net.specs.Channel.{Queue}
use Rattle.p3l_net.specs.declared.channel.Slot.TheVariants.{Plain}
use Rattle.p3l_net.proofs.Queues.{queue_read, queue_changed}
use Rattle.p3l_net.proofs.Rings.{slot_room, queue-appended, rings-appended}
use Rattle.p3l_net.proofs.store.Store.put_plain.Goals as goal

pub append-requires : goal.append-requires
append-requires c =
    slot_room c.channel.inside.slots c.channel.inside.tags _ (c.channel.view_is ∙ queue_read c.self.view_is c.args.c c.requires.there c.index_mut-channel.ensures.value) c.requires.room

pub invariant_of-channel : goal.invariant_of-channel
invariant_of-channel c =
    let inside = c.channel.inside in
    rings-appended inside.slots c.append.new.ring inside.tags inside.tags (Plain c.args.body) [] c.channel.invariant c.append.ensures (ap (λ xs. buffer xs inside.tags.capacity) (sym (append-nil inside.tags.items))) refl

pub returns : goal.returns
returns c =
    let inside = c.channel.inside in
    let more : Queue → Queue = λ queue. record queue { tokens = queue.tokens ++ plain c.args.body ∷ [] } in
    queue_changed c.self.view_is c.args.c c.requires.there c.index_mut-channel.ensures.value more
    (queue-appended inside.slots c.append.new.ring inside.tags inside.tags (Plain c.args.body) [] c.channel.invariant c.append.ensures (ap (λ xs. buffer xs inside.tags.capacity) (sym (append-nil inside.tags.items)))
    ∙ ap more c.channel.view_is)
