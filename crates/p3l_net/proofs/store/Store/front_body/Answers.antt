use Rattle.std.proofs.Common.{sym, ap, ◌∙◌}
use Rattle.p3l_firing.specs.declared.token.Token.{Token}
use Rattle.p3l_firing.specs.Lists.{first_or}
use Rattle.p3l_firing.specs.Token.{credit}
use Rattle.p3l_net.specs.Channel.{Queue}
use Rattle.p3l_net.proofs.Queues.{queue_read}
use Rattle.p3l_net.proofs.Rings.{slot_there, token-first, body-any}
use Rattle.p3l_net.proofs.store.Store.front_body.Goals as goal

pub nth-requires : goal.nth-requires
nth-requires c = slot_there c.behind-self.inside.slots c.behind-self.inside.tags _ (c.behind-self.view_is ∙ queue_read c.self.view_is c.args.c c.requires.there c.index.ensures) c.requires.token

pub returns : goal.returns
returns c =
    c.body.ensures
    ∙ body-any c.nth.result.now c.behind-self.inside.tags.items
    ∙ ap (λ (x : Token). x.body) (sym (token-first c.behind-self.inside.slots.items c.behind-self.inside.tags.items c.nth.result.now c.nth.ensures))
    ∙ ap (λ (queue : Queue). (first_or credit queue.tokens).body) (c.behind-self.view_is ∙ queue_read c.self.view_is c.args.c c.requires.there c.index.ensures)
