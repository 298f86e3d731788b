use Rattle.std.proofs.Common.{sym, ap, ◌∙◌}
use Rattle.p3l_firing.specs.declared.token.Token.{Token}
use Rattle.p3l_firing.specs.Lists.{first_or}
use Rattle.p3l_firing.specs.Token.{credit}
use Rattle.p3l_net.specs.Channel.{Queue}
use Rattle.p3l_net.specs.declared.channel.Slot.{Slot}
use Rattle.p3l_net.specs.Rings.{token_in}
use Rattle.p3l_net.proofs.Queues.{queue_read}
use Rattle.p3l_net.proofs.Rings.{slot_there, token-first}
use Rattle.p3l_net.proofs.store.Store.is_plain.Goals as goal

pub nth-requires : goal.nth-requires
nth-requires c = slot_there c.behind-self.inside.slots c.behind-self.inside.tags _ (c.behind-self.view_is ∙ queue_read c.self.view_is c.args.c c.requires.there c.index.ensures) c.requires.token

pub returns-in-Plain : goal.returns-in-Plain
returns-in-Plain c = λ _.
    let tags = c.behind-self.inside.tags.items in
    ap (λ (queue : Queue). (first_or credit queue.tokens).tags) (sym (c.behind-self.view_is ∙ queue_read c.self.view_is c.args.c c.requires.there c.index.ensures))
    ∙ ap (λ (x : Token). x.tags) (token-first c.behind-self.inside.slots.items tags c.nth.result.now c.nth.ensures)
    ∙ ap (λ (x : Slot). (token_in x tags).tags) c.in-Plain.is
