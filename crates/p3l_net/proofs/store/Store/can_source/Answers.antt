use Rattle.std.proofs.Common.{◌<◌, ◌&&◌, length, sym, ap, ap₂, ◌∙◌, subst}
use Rattle.std.specs.Option.{is_some}
use Rattle.p3l_net.specs.Machine.{Seen}
use Rattle.p3l_net.specs.Steps.{room_at}
use Rattle.p3l_net.proofs.Standing.{one_long}
use Rattle.p3l_net.proofs.step.Source.{fits_source, out_there, is_ready}
use Rattle.p3l_net.proofs.store.Store.can_source.Goals as goal

pub output-output-requires : goal.output-output-requires
output-output-requires c = one_long _ _ (fits_source c.requires.stands c.requires.kind).outs

pub has_room-room-requires : goal.has_room-room-requires
has_room-room-requires c = subst (λ k. k < length c.args.self.now.queues) (sym c.output-output.ensures) (out_there c.requires.stands c.requires.kind)

pub returns : goal.returns
returns c =
    ap₂ (λ a b. a && b) (c.is_some-item.ensures ∙ ap (λ (x : Seen). is_some x.inbox) c.self.view_is) (c.has_room-room.ensures ∙ ap (room_at c.args.self.now) c.output-output.ensures)
    ∙ sym (is_ready c.requires.stands c.requires.kind)
