use Rattle.std.proofs.Common.{ℕ, List, [], Some, sym, ap, ◌∙◌}
use Rattle.p3l_firing.specs.declared.token.Token.{Token}
use Rattle.p3l_firing.specs.Lists.{first_or}
use Rattle.p3l_firing.specs.Token.{credit, first_tag, newest_tag}
use Rattle.p3l_net.specs.Channel.{Queue}
use Rattle.p3l_net.specs.declared.channel.Slot.{Slot}
use Rattle.p3l_net.specs.Rings.{token_in}
use Rattle.p3l_net.proofs.Queues.{queue_read}
use Rattle.p3l_net.proofs.Rings.{slot_there, list_first, token-first, first-read}
use Rattle.p3l_net.proofs.store.Store.front_newest_tag.Goals as goal

pub nth-requires : goal.nth-requires
nth-requires c = slot_there c.channel.inside.slots c.channel.inside.tags _ (c.channel.view_is ∙ queue_read c.self.view_is c.args.c c.requires.there c.index-channel.ensures) c.requires.token

pub nth-requires-in-Tagged : goal.nth-requires-in-Tagged
nth-requires-in-Tagged c = list_first c.channel.inside.slots c.channel.inside.tags _ c.channel.invariant (c.nth.ensures ∙ ap (λ (x : Slot). Some x) c.in-Tagged.is)

pub returns-in-Plain : goal.returns-in-Plain
unfolding first_tag
returns-in-Plain c =
    let tags = c.channel.inside.tags.items in
    ap (λ (x : Slot). newest_tag (token_in x tags)) (sym c.in-Plain.is)
    ∙ ap (λ (x : Token). newest_tag x) (sym (token-first c.channel.inside.slots.items tags c.nth.result.now c.nth.ensures))
    ∙ ap (λ (queue : Queue). newest_tag (first_or credit queue.tokens)) (c.channel.view_is ∙ queue_read c.self.view_is c.args.c c.requires.there c.index-channel.ensures)

pub returns-in-Tagged : goal.returns-in-Tagged
returns-in-Tagged c =
    let tags = c.channel.inside.tags.items in
    c.newest.ensures
    ∙ ap (λ (ts : List ℕ). first_tag ts) (sym (first-read [] tags 0 c.nth-in-Tagged.result.now c.nth-in-Tagged.ensures))
    ∙ ap (λ (x : Slot). newest_tag (token_in x tags)) (sym c.in-Tagged.is)
    ∙ ap (λ (x : Token). newest_tag x) (sym (token-first c.channel.inside.slots.items tags c.nth.result.now c.nth.ensures))
    ∙ ap (λ (queue : Queue). newest_tag (first_or credit queue.tokens)) (c.channel.view_is ∙ queue_read c.self.view_is c.args.c c.requires.there c.index-channel.ensures)
