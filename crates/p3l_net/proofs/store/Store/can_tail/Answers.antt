use Rattle.std.proofs.Common.{◌<◌, ◌&&◌, ◌||◌, length, sym, ap, ap₂, ◌∙◌, subst, arith}
use Rattle.p3l_firing.specs.Lists.{has_first}
use Rattle.p3l_net.specs.Channel.{tokens_at}
use Rattle.p3l_net.specs.Steps.{room_at}
use Rattle.p3l_net.proofs.Standing.{one_long}
use Rattle.p3l_net.proofs.step.Tail.{fits_tail, out_long, in_there, out_there, is_ready}
use Rattle.p3l_net.proofs.store.Store.can_tail.Goals as goal

pub input-input-requires : goal.input-input-requires
input-input-requires c = one_long _ _ (fits_tail c.requires.stands c.requires.kind).ins

pub nth_output-back-requires : goal.nth_output-back-requires
nth_output-back-requires c = let long = out_long c.requires.stands c.requires.kind in omega (arith, long)

pub has_token-comes-requires : goal.has_token-comes-requires
has_token-comes-requires c = subst (λ k. k < length c.args.self.now.queues) (sym c.input-input.ensures) (in_there c.requires.stands c.requires.kind)

pub has_room-room-requires : goal.has_room-room-requires
has_room-room-requires c = subst (λ k. k < length c.args.self.now.queues) (sym c.nth_output-back.ensures) (out_there c.requires.stands c.requires.kind 1 (omega arith))

pub returns : goal.returns
returns c =
    ap₂ (λ x y. x || y) c.can_release-lets_out.ensures
    (ap₂ (λ x y. x && y) (c.has_token-comes.ensures ∙ ap (λ k. has_first (tokens_at c.args.self.now.queues k)) c.input-input.ensures) (c.has_room-room.ensures ∙ ap (room_at c.args.self.now) c.nth_output-back.ensures))
    ∙ sym (is_ready c.requires.stands c.requires.kind)
