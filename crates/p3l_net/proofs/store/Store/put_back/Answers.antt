use Rattle.std.proofs.Common.{[], ◌∷◌, ℕ, List, refl, sym, ap, ◌∙◌}
use Rattle.circular_buffer.specs.Buffer.{Buffer}
use Rattle.p3l_firing.specs.declared.token.Token.{Token}
use Rattle.p3l_net.specs.Channel.{Queue}
use Rattle.p3l_net.specs.declared.channel.Slot.{Slot}
use Rattle.p3l_net.specs.declared.channel.Slot.TheVariants.{Plain, Tagged}
use Rattle.p3l_net.proofs.Queues.{queue_read, queue_changed}
use Rattle.p3l_net.proofs.Rings.{slot_room, list_room, queue-prepended, rings-prepended}
use Rattle.p3l_net.proofs.store.Store.put_back.Goals as goal

pub prepend-requires : goal.prepend-requires
prepend-requires c = slot_room c.channel.inside.slots c.channel.inside.tags _ (c.channel.view_is ∙ queue_read c.self.view_is c.args.c c.requires.there c.index_mut-channel.ensures.value) c.requires.room

pub prepend-requires-2 : goal.prepend-requires-2
prepend-requires-2 c = slot_room c.channel.inside.slots c.channel.inside.tags _ (c.channel.view_is ∙ queue_read c.self.view_is c.args.c c.requires.there c.index_mut-channel.ensures.value) c.requires.room

pub prepend-requires-3 : goal.prepend-requires-3
prepend-requires-3 c = list_room c.channel.inside.slots c.channel.inside.tags c.channel.invariant (slot_room c.channel.inside.slots c.channel.inside.tags _ (c.channel.view_is ∙ queue_read c.self.view_is c.args.c c.requires.there c.index_mut-channel.ensures.value) c.requires.room)

pub invariant_of-channel : goal.invariant_of-channel
invariant_of-channel c =
    let slots_are = c.prepend.ensures in
    rings-prepended _ _ _ _ (Plain c.args.token.body) [] (ap (λ (x : Buffer Slot). x.items) slots_are) refl (sym (ap (λ (x : Buffer Slot). x.capacity) slots_are)) refl refl refl c.channel.invariant

pub invariant_of-channel-2 : goal.invariant_of-channel-2
invariant_of-channel-2 c =
    let slots_are = c.prepend-2.ensures in
    let tags_are = c.prepend-3.ensures in
    rings-prepended _ _ _ _ (Tagged c.args.token.body) (c.args.token.tags ∷ []) (ap (λ (x : Buffer Slot). x.items) slots_are) refl (sym (ap (λ (x : Buffer Slot). x.capacity) slots_are)) (ap (λ (x : Buffer (List ℕ)). x.items) tags_are) refl (sym (ap (λ (x : Buffer (List ℕ)). x.capacity) tags_are)) c.channel.invariant

pub returns-then-is_empty : goal.returns-then-is_empty
returns-then-is_empty c =
    let inside = c.channel.inside in
    let slots_are = c.prepend.ensures in
    let bare = c.is_empty.ensures.0 c.if-is_empty.true in
    let put : Token = c.args.token in
    queue_changed c.self.view_is c.args.c c.requires.there c.index_mut-channel.ensures.value (λ (queue : Queue). record queue { tokens = put ∷ queue.tokens })
    (queue-prepended c.prepend.new.ring inside.slots inside.tags inside.tags (Plain put.body) [] (ap (λ (x : Buffer Slot). x.items) slots_are) refl (sym (ap (λ (x : Buffer Slot). x.capacity) slots_are)) refl refl c.channel.view_is
    (ap (λ (tags : List ℕ). record put { tags = tags }) (sym bare)))

pub returns : goal.returns
returns c =
    let inside = c.channel.inside in
    let slots_are = c.prepend-2.ensures in
    let tags_are = c.prepend-3.ensures in
    let put : Token = c.args.token in
    queue_changed c.self.view_is c.args.c c.requires.there c.index_mut-channel.ensures.value (λ (queue : Queue). record queue { tokens = put ∷ queue.tokens })
    (queue-prepended c.prepend-2.new.ring inside.slots c.prepend-3.new.ring inside.tags (Tagged c.args.token.body) (c.args.token.tags ∷ []) (ap (λ (x : Buffer Slot). x.items) slots_are) refl (sym (ap (λ (x : Buffer Slot). x.capacity) slots_are)) (ap (λ (x : Buffer (List ℕ)). x.items) tags_are) refl c.channel.view_is refl)
