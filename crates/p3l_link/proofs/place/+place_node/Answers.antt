-- Each step of the walk, by the lemmas of Walk.
use Rattle.std.proofs.Common.{length, ap, sym, ◌∙◌, arith, subst}
use Rattle.p3l_skel.specs.Counts.{count_of}
use Rattle.p3l_template.specs.Kind.{Kind}
use Rattle.p3l_template.specs.Shape.{FitsAt, HasRoomFor, added, base_of}
use Rattle.p3l_link.specs.Shape.{shape_at}
use Rattle.p3l_link.proofs.AnyKind.{slots_are}
use Rattle.p3l_link.proofs.Counted.{counted_deep, counted_own, counted_there}
use Rattle.p3l_link.proofs.Walk.{begun, continued, ended, own_room, part_counted, part_room}
use Rattle.p3l_link.proofs.place.+place_node.Goals as goal

pub template_of-template-requires-clause-there : goal.template_of-template-requires-clause-there
template_of-template-requires-clause-there t c =
    counted_there c.args.tree.now (count_of c.args.tree.now c.args.counts.now.list) c.args.levels c.args.number c.requires.counted

pub template_of-template-requires-clause-count : goal.template_of-template-requires-clause-count
template_of-template-requires-clause-count t c =
    counted_own c.args.tree.now (count_of c.args.tree.now c.args.counts.now.list) c.args.levels c.args.number c.requires.counted

pub slots-requires-clause-room : goal.slots-requires-clause-room
slots-requires-clause-room t c =
    let tree = c.args.tree.now in
    let count = count_of c.args.tree.now c.args.counts.now.list in
    let room = own_room tree count c.args.cap c.args.levels c.args.number c.requires.lawful c.requires.counted c.args.at.now
    c.args.builder.now c.requires.room in
    subst (λ (z : Kind). FitsAt z.shape c.place_after.result) (sym c.template_of-template.ensures.kind)
    (subst (FitsAt (shape_at tree count c.args.number)) (sym c.place_after.ensures) room)

pub place-requires-clause-room : goal.place-requires-clause-room
place-requires-clause-room t c =
    let base = base_of c.args.at.now c.args.builder.now in
    subst (λ (z : Kind). HasRoomFor c.args.builder.now (length (z.shape.procs base)) (z.shape.chans base)) (sym c.template_of-template.ensures.kind)
    (own_room c.args.tree.now (count_of c.args.tree.now c.args.counts.now.list) c.args.cap c.args.levels c.args.number
    c.requires.lawful c.requires.counted c.args.at.now c.args.builder.now c.requires.room)

pub loop-slot-init : goal.loop-slot-init
loop-slot-init t c =
    let base = base_of c.args.at.now c.args.builder.now in
    begun c.args.tree.now (count_of c.args.tree.now c.args.counts.now.list) c.args.cap c.args.levels c.args.number
    c.requires.lawful c.requires.counted c.args.at.now c.args.builder.now c.place.new.builder
    (c.in_ok-_ports.ensures.placed
    ∙ ap (λ (z : Kind). added c.args.builder.now (z.shape.procs base) (z.shape.laid c.args.cap base)) c.template_of-template.ensures.kind)

pub overflow_sub-levels : goal.overflow_sub-levels
overflow_sub-levels t c =
    counted_deep c.args.tree.now (count_of c.args.tree.now c.args.counts.now.list) c.args.levels c.args.number c.requires.counted

pub place_node-requires : goal.place_node-requires
place_node-requires t c =
    let tree = c.args.tree.now in
    let count = count_of c.args.tree.now c.args.counts.now.list in
    let items = c.as_slice-slot-items.ensures ∙ slots_are tree count c.args.number c.template_of-template.result
    c.template_of-template.ensures.kind c.place_after.result (base_of c.args.at.now c.args.builder.now) c.place_after.ensures _
    c.in_ok-slots.ensures in
    let some = counted_deep tree count c.args.levels c.args.number c.requires.counted in (
      omega (arith, some, c.decreases),
      (
        c.requires.lawful,
        (
          part_counted tree count c.args.cap c.args.levels c.args.number c.requires.lawful c.requires.counted c.args.at.now
              c.args.builder.now c.as_slice-slot-items.result.now items c.loop-slot.builder c.loop-slot.slot-index
              c.loop-slot.invariant c.loop-slot-test.true _ c.slot-item.result c.slot.view_is c.slot-item.is c.part_of-part.result
              c.part_of-part.ensures,
          part_room tree count c.args.cap c.args.levels c.args.number c.requires.lawful c.requires.counted c.args.at.now
              c.args.builder.now c.as_slice-slot-items.result.now items c.loop-slot.builder c.loop-slot.slot-index
              c.loop-slot.invariant c.loop-slot-test.true _ c.slot-item.result c.slot.view_is c.slot-item.is c.part_of-part.result
              c.part_of-part.ensures c.requires.room,
        ),
      ),
    )

pub loop-slot-preserved : goal.loop-slot-preserved
loop-slot-preserved t c =
    let tree = c.args.tree.now in
    let count = count_of c.args.tree.now c.args.counts.now.list in
    let items = c.as_slice-slot-items.ensures ∙ slots_are tree count c.args.number c.template_of-template.result
    c.template_of-template.ensures.kind c.place_after.result (base_of c.args.at.now c.args.builder.now) c.place_after.ensures _
    c.in_ok-slots.ensures in
    continued tree count c.args.cap c.args.levels c.args.number c.requires.lawful c.requires.counted c.args.at.now
    c.args.builder.now c.as_slice-slot-items.result.now items c.loop-slot.builder c.loop-slot.slot-index c.loop-slot.invariant
    c.loop-slot-test.true _ c.slot-item.result c.slot.view_is c.slot-item.is c.part_of-part.result c.part_of-part.ensures
    c.place_node.new.builder c.in_ok-place_node.ensures

pub returns : goal.returns
returns t c =
    let tree = c.args.tree.now in
    let count = count_of c.args.tree.now c.args.counts.now.list in
    let items = c.as_slice-slot-items.ensures ∙ slots_are tree count c.args.number c.template_of-template.result
    c.template_of-template.ensures.kind c.place_after.result (base_of c.args.at.now c.args.builder.now) c.place_after.ensures _
    c.in_ok-slots.ensures in
    ended tree count c.args.cap c.args.levels c.args.number c.requires.lawful c.requires.counted c.args.at.now
    c.args.builder.now c.as_slice-slot-items.result.now items c.loop-slot.builder c.loop-slot.slot-index c.loop-slot.invariant
    c.loop-slot-test.false
