use Rattle.std.proofs.Common.{[], ◌∷◌, List, Some, slice_get, refl, sym, ap, ◌∙◌}
use Rattle.p3l_firing.specs.Lists.{first_or, rest_of}
use Rattle.p3l_firing.specs.Token.{credit}
use Rattle.p3l_net.specs.Channel.{Queue}
use Rattle.p3l_net.specs.declared.channel.Slot.{Slot}
use Rattle.p3l_net.specs.declared.channel.Slot.TheVariants.{Plain, Tagged}
use Rattle.p3l_net.proofs.Queues.{queue_read, queue_changed}
use Rattle.p3l_net.proofs.Rings.{slot_there, list_first, queue-taken, rings-taken}
use Rattle.p3l_net.proofs.store.Store.take_body.Goals as goal

pub take-requires : goal.take-requires
take-requires c =
    slot_there c.channel.inside.slots c.channel.inside.tags _ (c.channel.view_is ∙ queue_read c.self.view_is c.args.c c.requires.there c.index_mut-channel.ensures.value) c.requires.token

pub take-tags-requires : goal.take-tags-requires
take-tags-requires c =
    list_first c.channel.inside.slots c.channel.inside.tags _ c.channel.invariant
    (ap (λ (xs : List Slot). slice_get xs 0) c.take.ensures.items ∙ ap (λ (x : Slot). Some x) c.in-Tagged.is)

pub invariant_of-channel : goal.invariant_of-channel
invariant_of-channel c =
    rings-taken _ _ _ _ (Plain c.in-Plain.body) [] c.take.ensures.items c.in-Plain.is c.take.ensures.capacity refl refl refl c.channel.invariant

pub invariant_of-channel-in-Tagged : goal.invariant_of-channel-in-Tagged
invariant_of-channel-in-Tagged c =
    rings-taken _ _ _ _ (Tagged c.in-Tagged.body) (c.take-tags.result ∷ []) c.take.ensures.items c.in-Tagged.is c.take.ensures.capacity c.take-tags.ensures.items refl c.take-tags.ensures.capacity c.channel.invariant

pub returns-in-Plain : goal.returns-in-Plain
returns-in-Plain c =
    let without : Queue → Queue = λ queue. record queue { tokens = rest_of queue.tokens } in
    let was = queue-taken c.channel.inside.slots c.take.new.ring c.channel.inside.tags c.channel.inside.tags (Plain c.in-Plain.body) [] c.take.ensures.items c.in-Plain.is c.take.ensures.capacity refl refl c.channel.view_is refl in
    record {
      body = sym (ap (λ (queue : Queue). (first_or credit queue.tokens).body) (sym (queue_read c.self.view_is c.args.c c.requires.there c.index_mut-channel.ensures.value) ∙ was));
      after = queue_changed c.self.view_is c.args.c c.requires.there c.index_mut-channel.ensures.value without (sym (ap without was));
    }

pub returns-in-Tagged : goal.returns-in-Tagged
returns-in-Tagged c =
    let without : Queue → Queue = λ queue. record queue { tokens = rest_of queue.tokens } in
    let was = queue-taken c.channel.inside.slots c.take.new.ring c.channel.inside.tags c.take-tags.new.ring (Tagged c.in-Tagged.body) (c.take-tags.result ∷ []) c.take.ensures.items c.in-Tagged.is c.take.ensures.capacity c.take-tags.ensures.items refl c.channel.view_is refl in
    record {
      body = sym (ap (λ (queue : Queue). (first_or credit queue.tokens).body) (sym (queue_read c.self.view_is c.args.c c.requires.there c.index_mut-channel.ensures.value) ∙ was));
      after = queue_changed c.self.view_is c.args.c c.requires.there c.index_mut-channel.ensures.value without (sym (ap without was));
    }
