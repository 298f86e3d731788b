use Rattle.std.proofs.Common.{ℕ, Bool, ◌<◌, ◌&&◌, ◌||◌, length, sym, ap, ap₂, ◌∙◌, subst, arith}
use Rattle.p3l_firing.specs.Lists.{has_first}
use Rattle.p3l_net.specs.Channel.{tokens_at}
use Rattle.p3l_net.specs.Steps.{room_at}
use Rattle.p3l_net.proofs.Standing.{one_long}
use Rattle.p3l_net.proofs.step.Head.{fits_head, in_long, in_there, out_there, is_ready}
use Rattle.p3l_net.proofs.store.Store.can_head.Goals as goal

pub nth_input-outside-requires : goal.nth_input-outside-requires
nth_input-outside-requires c = let long = in_long c.requires.stands c.requires.kind in omega (arith, long)

pub nth_input-back-requires : goal.nth_input-back-requires
nth_input-back-requires c = let long = in_long c.requires.stands c.requires.kind in omega (arith, long)

pub nth_input-credits-requires : goal.nth_input-credits-requires
nth_input-credits-requires c = let long = in_long c.requires.stands c.requires.kind in omega (arith, long)

pub output-body-requires : goal.output-body-requires
output-body-requires c = one_long _ _ (fits_head c.requires.stands c.requires.kind).outs

pub has_room-room-requires : goal.has_room-room-requires
has_room-room-requires c = subst (λ k. k < length c.args.self.now.queues) (sym c.output-body.ensures) (out_there c.requires.stands c.requires.kind)

pub has_token-comes_back-requires : goal.has_token-comes_back-requires
has_token-comes_back-requires c = subst (λ k. k < length c.args.self.now.queues) (sym c.nth_input-back.ensures) (in_there c.requires.stands c.requires.kind 1 (omega arith))

pub has_token-comes_in-requires : goal.has_token-comes_in-requires
has_token-comes_in-requires c = subst (λ k. k < length c.args.self.now.queues) (sym c.nth_input-outside.ensures) (in_there c.requires.stands c.requires.kind 0 (omega arith))

pub has_token-has_credit-requires : goal.has_token-has_credit-requires
has_token-has_credit-requires c = subst (λ k. k < length c.args.self.now.queues) (sym c.nth_input-credits.ensures) (in_there c.requires.stands c.requires.kind 2 (omega arith))

pub returns : goal.returns
returns c =
    let full : ℕ → Bool = λ k. has_first (tokens_at c.args.self.now.queues k) in
    ap₂ (λ x y. x && y) (c.has_room-room.ensures ∙ ap (room_at c.args.self.now) c.output-body.ensures)
    (ap₂ (λ x y. x || y) (c.has_token-comes_back.ensures ∙ ap full c.nth_input-back.ensures)
    (ap₂ (λ x y. x && y) (c.has_token-comes_in.ensures ∙ ap full c.nth_input-outside.ensures) (c.has_token-has_credit.ensures ∙ ap full c.nth_input-credits.ensures)))
    ∙ sym (is_ready c.requires.stands c.requires.kind)
