use Rattle.std.proofs.Common.{◌≡◌, [], drop, sym, ap, ◌∙◌, subst, arith}
use Rattle.p3l_base.specs.Memory.{IfGiven}
use Rattle.p3l_firing.specs.declared.token.Token.{Token}
use Rattle.p3l_firing.specs.Shot.{saved_token}
use Rattle.p3l_net.specs.declared.channel.Slot.{Slot}
use Rattle.p3l_net.specs.Rings.{lists_of, token_in}
use Rattle.p3l_net.proofs.Rings.{first-read}
use Rattle.p3l_net.proofs.channel.saved_slot.Goals as goal

pub nth-requires : goal.nth-requires
nth-requires c = let one = ap lists_of c.in-Tagged.is in let long = c.requires in omega (arith, one, long)

pub returns-in-Tagged : goal.returns-in-Tagged
returns-in-Tagged c =
    let left = drop c.args.next c.args.tags.now.items in
    let token = ap (λ (x : Slot). token_in x left) c.in-Tagged.is
    ∙ ap (λ tags. record { tags = tags; body = c.in-Tagged.body }) (first-read [] c.args.tags.now.items c.args.next c.nth.result.now c.nth.ensures) in
    subst (λ (t : Token). IfGiven c.tagged.result (λ saved. saved ≡ saved_token t)) (sym token) c.tagged.ensures
