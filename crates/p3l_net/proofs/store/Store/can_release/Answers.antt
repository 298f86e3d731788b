use Rattle.std.proofs.Common.{◌<◌, ◌&&◌, length, sym, ap, ap₂, ◌∙◌, subst, arith}
use Rattle.p3l_net.specs.Steps.{room_at}
use Rattle.p3l_net.proofs.Standing.{own_there}
use Rattle.p3l_net.proofs.step.Tail.{out_long, out_there, lets_out}
use Rattle.p3l_net.proofs.store.Store.can_release.Goals as goal

pub output-outside-requires : goal.output-outside-requires
output-outside-requires c = let long = out_long c.requires.stands c.requires.kind in omega (arith, long)

pub nth_output-credits-requires : goal.nth_output-credits-requires
nth_output-credits-requires c = let long = out_long c.requires.stands c.requires.kind in omega (arith, long)

pub holds_expected-due-requires : goal.holds_expected-due-requires
holds_expected-due-requires c = own_there c.requires.stands

pub has_room-room-requires : goal.has_room-room-requires
has_room-room-requires c = subst (λ k. k < length c.args.self.now.queues) (sym c.output-outside.ensures) (out_there c.requires.stands c.requires.kind 0 (omega arith))

pub has_room-credit_room-requires : goal.has_room-credit_room-requires
has_room-credit_room-requires c = subst (λ k. k < length c.args.self.now.queues) (sym c.nth_output-credits.ensures) (out_there c.requires.stands c.requires.kind 2 (omega arith))

pub returns : goal.returns
returns c =
    ap₂ (λ x y. x && y) c.holds_expected-due.ensures
    (ap₂ (λ x y. x && y) (c.has_room-room.ensures ∙ ap (room_at c.args.self.now) c.output-outside.ensures) (c.has_room-credit_room.ensures ∙ ap (room_at c.args.self.now) c.nth_output-credits.ensures))
    ∙ sym (lets_out c.requires.stands c.requires.kind)
