use Rattle.std.proofs.Common.{ℕ, Bool, ◌<◌, ◌&&◌, length, sym, ap, ap₂, ◌∙◌, subst, arith}
use Rattle.p3l_firing.specs.Lists.{has_first}
use Rattle.p3l_net.specs.Channel.{tokens_at}
use Rattle.p3l_net.specs.Steps.{room_at}
use Rattle.p3l_net.proofs.Standing.{one_long}
use Rattle.p3l_net.proofs.step.Join.{fits_join, in_long, in_there, out_there, is_ready}
use Rattle.p3l_net.proofs.store.Store.can_join.Goals as goal

pub nth_input-left-requires : goal.nth_input-left-requires
nth_input-left-requires c = let long = in_long c.requires.stands c.requires.kind in omega (arith, long)

pub nth_input-right-requires : goal.nth_input-right-requires
nth_input-right-requires c = let long = in_long c.requires.stands c.requires.kind in omega (arith, long)

pub output-output-requires : goal.output-output-requires
output-output-requires c = one_long _ _ (fits_join c.requires.stands c.requires.kind).outs

pub has_token-left_comes-requires : goal.has_token-left_comes-requires
has_token-left_comes-requires c = subst (λ k. k < length c.args.self.now.queues) (sym c.nth_input-left.ensures) (in_there c.requires.stands c.requires.kind 0 (omega arith))

pub has_token-right_comes-requires : goal.has_token-right_comes-requires
has_token-right_comes-requires c = subst (λ k. k < length c.args.self.now.queues) (sym c.nth_input-right.ensures) (in_there c.requires.stands c.requires.kind 1 (omega arith))

pub has_room-room-requires : goal.has_room-room-requires
has_room-room-requires c = subst (λ k. k < length c.args.self.now.queues) (sym c.output-output.ensures) (out_there c.requires.stands c.requires.kind)

pub returns : goal.returns
returns c =
    let full : ℕ → Bool = λ k. has_first (tokens_at c.args.self.now.queues k) in
    ap₂ (λ x y. x && y) (c.has_token-left_comes.ensures ∙ ap full c.nth_input-left.ensures)
    (ap₂ (λ x y. x && y) (c.has_token-right_comes.ensures ∙ ap full c.nth_input-right.ensures) (c.has_room-room.ensures ∙ ap (room_at c.args.self.now) c.output-output.ensures))
    ∙ sym (is_ready c.requires.stands c.requires.kind)
