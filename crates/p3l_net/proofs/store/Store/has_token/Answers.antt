use Rattle.std.proofs.Common.{◌≡◌, List, [], ◌∷◌, ◌==◌, length, not, ne_eqb, refl, sym, ap, ◌∙◌, arith}
use Rattle.p3l_firing.specs.Lists.{has_first}
use Rattle.p3l_net.specs.Channel.{Queue}
use Rattle.p3l_net.specs.declared.channel.Slot.{Slot}
use Rattle.p3l_net.proofs.Queues.{queue_read}
use Rattle.p3l_net.proofs.Rings.{first-there}
use Rattle.p3l_net.proofs.store.Store.has_token.Goals as goal

some : (slots : List Slot) → not (length slots == 0) ≡ has_first slots
some [] = refl
some (slot ∷ slots) = ap not (ne_eqb (length (slot ∷ slots)) 0 (λ e. omega (arith, e)))

pub returns : goal.returns
returns c =
    ap not c.is_empty.ensures
    ∙ some c.behind-self.inside.slots.items
    ∙ sym (first-there c.behind-self.inside.slots.items c.behind-self.inside.tags.items)
    ∙ ap (λ (queue : Queue). has_first queue.tokens) (c.behind-self.view_is ∙ queue_read c.self.view_is c.args.c c.requires c.index.ensures)
