use Rattle.std.proofs.Common.{◌<◌, ◌&&◌, [], length, sym, ap, ap₂, ◌∙◌, subst}
use Rattle.std.specs.Option.{is_some}
use Rattle.std.specs.List.{AllByRecursion}
use Rattle.p3l_firing.specs.kinds.Collect.{due_in}
use Rattle.p3l_net.specs.Machine.{state_of}
use Rattle.p3l_net.specs.Steps.{room_at}
use Rattle.p3l_net.proofs.Standing.{one_long, own_there, all_reads_there}
use Rattle.p3l_net.proofs.step.Collect.{fits_collect, out_there, is_ready}
use Rattle.p3l_net.proofs.store.Store.can_collect.Goals as goal

pub number-number-requires : goal.number-number-requires
number-number-requires c = own_there c.requires.stands

pub due_in-due-requires : goal.due_in-due-requires
due_in-due-requires c = subst (AllByRecursion (λ k. k < length c.args.self.now.queues)) (sym c.as_slice.ensures) (all_reads_there c.requires.stands)

pub output-output-requires : goal.output-output-requires
output-output-requires c = one_long _ _ (fits_collect c.requires.stands c.requires.kind).outs

pub has_room-room-requires : goal.has_room-room-requires
has_room-room-requires c = subst (λ k. k < length c.args.self.now.queues) (sym c.output-output.ensures) (out_there c.requires.stands c.requires.kind)

pub returns : goal.returns
returns c =
    ap₂ (λ a b. a && b)
    (c.is_some.ensures ∙ ap is_some (c.due_in-due.ensures ∙ ap₂ (due_in (state_of c.args.self.now [])) c.number-number.ensures c.as_slice.ensures))
    (c.has_room-room.ensures ∙ ap (room_at c.args.self.now) c.output-output.ensures)
    ∙ sym (is_ready c.requires.stands c.requires.kind)
