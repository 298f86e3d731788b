use Rattle.std.proofs.Common.{ℕ, List, [], ◌∷◌, ◌++◌, refl, sym, ap, ap₂, ◌∙◌}
use Rattle.std.proofs.lemmas.List.{append-nil}
use Rattle.circular_buffer.specs.Buffer.{buffer}
use Rattle.p3l_firing.specs.declared.token.Token.{Token}
use Rattle.p3l_net.specs.Channel.{Queue}
use Rattle.p3l_net.specs.declared.channel.Slot.TheVariants.{Plain, Tagged}
use Rattle.p3l_net.proofs.Rings.{slot_room, list_room, queue-appended, rings-appended}
use Rattle.p3l_net.proofs.channel.Channel.append_saved.Goals as goal

pub append-requires : goal.append-requires
append-requires c = slot_room c.self.inside.slots c.self.inside.tags _ c.self.view_is c.requires.room

pub append-requires-2 : goal.append-requires-2
append-requires-2 c = slot_room c.self.inside.slots c.self.inside.tags _ c.self.view_is c.requires.room

pub append-requires-3 : goal.append-requires-3
append-requires-3 c = list_room c.self.inside.slots c.self.inside.tags c.self.invariant (slot_room c.self.inside.slots c.self.inside.tags _ c.self.view_is c.requires.room)

pub invariant_of-self : goal.invariant_of-self
invariant_of-self c =
    let inside = c.self.inside in
    rings-appended inside.slots c.append.new.ring inside.tags inside.tags (Plain c.in_ok-tags.field-0.body) [] c.self.invariant c.append.ensures (ap (λ xs. buffer xs inside.tags.capacity) (sym (append-nil inside.tags.items))) refl

pub invariant_of-self-2 : goal.invariant_of-self-2
invariant_of-self-2 c =
    let inside = c.self.inside in
    rings-appended inside.slots c.append-2.new.ring inside.tags c.append-3.new.ring (Tagged c.in_ok-tags.field-0.body) (c.in_ok-tags.field-0.tags ∷ []) c.self.invariant c.append-2.ensures c.append-3.ensures refl

pub returns-then-is_empty : goal.returns-then-is_empty
returns-then-is_empty c =
    let inside = c.self.inside in
    let bare = c.is_empty.ensures.0 c.if-is_empty.true in
    queue-appended inside.slots c.append.new.ring inside.tags inside.tags (Plain c.in_ok-tags.field-0.body) [] c.self.invariant c.append.ensures (ap (λ xs. buffer xs inside.tags.capacity) (sym (append-nil inside.tags.items)))
    ∙ ap₂ (λ (queue : Queue) (token : Token). record queue { tokens = queue.tokens ++ token ∷ [] }) c.self.view_is
    (ap (λ (tags : List ℕ). record { tags = tags; body = c.in_ok-tags.field-0.body }) (sym bare) ∙ c.in_ok-tags.ensures)

pub returns : goal.returns
returns c =
    let inside = c.self.inside in
    queue-appended inside.slots c.append-2.new.ring inside.tags c.append-3.new.ring (Tagged c.in_ok-tags.field-0.body) (c.in_ok-tags.field-0.tags ∷ []) c.self.invariant c.append-2.ensures c.append-3.ensures
    ∙ ap₂ (λ (queue : Queue) (token : Token). record queue { tokens = queue.tokens ++ token ∷ [] }) c.self.view_is c.in_ok-tags.ensures
