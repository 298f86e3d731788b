-- Each step of the walk, by the lemmas of Surveying.
use Rattle.std.proofs.Common.{◌+◌, ◌≤◌, length, ap, sym, ◌∙◌, arith, subst}
use Rattle.p3l_skel.specs.Counts.{count_of}
use Rattle.p3l_template.specs.Kind.{Kind}
use Rattle.p3l_template.specs.Shape.{Base, FitsAt}
use Rattle.p3l_link.specs.Shape.{shape_at}
use Rattle.p3l_link.proofs.AnyKind.{slots_are}
use Rattle.p3l_link.proofs.Counted.{counted_deep, counted_own, counted_there}
use Rattle.p3l_fitting.specs.Survey.{base_after}
use Rattle.p3l_fitting.proofs.Surveying.{closed, own_room, part_counted, part_room, surveyed_first, surveyed_next}
use Rattle.p3l_fitting.proofs.walk.+survey_node.Goals as goal

pub template_of-template-requires-clause-there : goal.template_of-template-requires-clause-there
template_of-template-requires-clause-there t c =
    counted_there c.args.tree.now (count_of c.args.tree.now c.args.counts.now.list) c.args.levels c.args.number c.requires.counted

pub template_of-template-requires-clause-count : goal.template_of-template-requires-clause-count
template_of-template-requires-clause-count t c =
    counted_own c.args.tree.now (count_of c.args.tree.now c.args.counts.now.list) c.args.levels c.args.number c.requires.counted

pub slots-requires-clause-room : goal.slots-requires-clause-room
slots-requires-clause-room t c =
    let tree = c.args.tree.now in
    let count = count_of c.args.tree.now c.args.counts.now.list in
    let room = own_room tree count c.args.levels c.args.number c.args.tags c.args.at.now c.args.survey.now c.requires.lawful
    c.requires.counted c.requires.room in
    subst (λ (z : Kind). FitsAt z.shape c.place_after-place.result) (sym c.template_of-template.ensures.kind)
    (subst (FitsAt (shape_at tree count c.args.number)) (sym c.place_after-place.ensures) room)

pub begin-requires-clause-tags : goal.begin-requires-clause-tags
begin-requires-clause-tags t c =
    let some = counted_deep c.args.tree.now (count_of c.args.tree.now c.args.counts.now.list) c.args.levels c.args.number c.requires.counted in
    omega (arith, some, c.requires.tags)

pub begin-requires-clause-room : goal.begin-requires-clause-room
begin-requires-clause-room t c =
    let tree = c.args.tree.now in
    let count = count_of c.args.tree.now c.args.counts.now.list in
    let room = own_room tree count c.args.levels c.args.number c.args.tags c.args.at.now c.args.survey.now c.requires.lawful
    c.requires.counted c.requires.room in
    subst (λ (z : Kind). c.args.survey.now.procs + length (z.shape.procs c.place_after-place.result) ≤ 1048576) (sym c.template_of-template.ensures.kind)
    (subst (λ (b : Base). c.args.survey.now.procs + length ((shape_at tree count c.args.number).procs b) ≤ 1048576) (sym c.place_after-place.ensures) room.0)

pub overflow_add-inner_tags : goal.overflow_add-inner_tags
overflow_add-inner_tags t c =
    let some = counted_deep c.args.tree.now (count_of c.args.tree.now c.args.counts.now.list) c.args.levels c.args.number c.requires.counted in
    omega (arith, some, c.requires.tags, c.deeper.ensures.few)

pub loop-slot-init : goal.loop-slot-init
loop-slot-init t c =
    surveyed_first c.args.tree.now (count_of c.args.tree.now c.args.counts.now.list) c.args.levels c.args.number c.args.tags c.args.at.now
    c.args.survey.now c.requires.lawful c.requires.counted _ c.template_of-template.ensures.kind c.place_after-place.result
    c.place_after-place.ensures c.begin.new.survey c.in_ok-begin.ensures

pub overflow_sub-levels : goal.overflow_sub-levels
overflow_sub-levels t c =
    counted_deep c.args.tree.now (count_of c.args.tree.now c.args.counts.now.list) c.args.levels c.args.number c.requires.counted

pub survey_node-requires : goal.survey_node-requires
survey_node-requires t c =
    let tree = c.args.tree.now in
    let count = count_of c.args.tree.now c.args.counts.now.list in
    let items = c.as_slice-slot-items.ensures ∙ slots_are tree count c.args.number c.template_of-template.result
    c.template_of-template.ensures.kind c.place_after-place.result (base_after c.args.at.now c.args.survey.now) c.place_after-place.ensures _
    c.in_ok-slots.ensures in
    let some = counted_deep tree count c.args.levels c.args.number c.requires.counted in
    let more = c.deeper.ensures.more ∙ ap (λ (z : Kind). z.deeper) c.template_of-template.ensures.kind in (
      omega (arith, some, c.decreases),
      (
        c.requires.lawful,
        (
          part_counted tree count c.args.levels c.args.number c.args.tags c.args.at.now c.args.survey.now c.requires.lawful c.requires.counted
              c.as_slice-slot-items.result.now items c.loop-slot.survey c.loop-slot.slot-index c.loop-slot.invariant c.loop-slot-test.true
              _ c.slot-item.result c.slot.view_is c.slot-item.is c.part_of-part.result c.part_of-part.ensures,
          (
            omega (arith, some, c.requires.tags, c.deeper.ensures.few),
            part_room tree count c.args.levels c.args.number c.args.tags c.args.at.now c.args.survey.now c.requires.lawful c.requires.counted
                c.as_slice-slot-items.result.now items c.loop-slot.survey c.loop-slot.slot-index c.loop-slot.invariant c.loop-slot-test.true
                _ c.slot-item.result c.slot.view_is c.slot-item.is c.part_of-part.result c.part_of-part.ensures
                (c.args.tags + c.deeper.result) (ap (λ u. c.args.tags + u) more) c.requires.room,
          ),
        ),
      ),
    )

pub loop-slot-preserved : goal.loop-slot-preserved
loop-slot-preserved t c =
    let tree = c.args.tree.now in
    let count = count_of c.args.tree.now c.args.counts.now.list in
    let items = c.as_slice-slot-items.ensures ∙ slots_are tree count c.args.number c.template_of-template.result
    c.template_of-template.ensures.kind c.place_after-place.result (base_after c.args.at.now c.args.survey.now) c.place_after-place.ensures _
    c.in_ok-slots.ensures in
    let more = c.deeper.ensures.more ∙ ap (λ (z : Kind). z.deeper) c.template_of-template.ensures.kind in
    surveyed_next tree count c.args.levels c.args.number c.args.tags c.args.at.now c.args.survey.now c.requires.lawful c.requires.counted
    c.as_slice-slot-items.result.now items c.loop-slot.survey c.loop-slot.slot-index c.loop-slot.invariant c.loop-slot-test.true
    _ c.slot-item.result c.slot.view_is c.slot-item.is c.part_of-part.result c.part_of-part.ensures
    (c.args.tags + c.deeper.result) (ap (λ u. c.args.tags + u) more) c.survey_node.new.survey c.in_ok-survey_node.ensures

pub returns : goal.returns
returns t c =
    let tree = c.args.tree.now in
    let count = count_of c.args.tree.now c.args.counts.now.list in
    let items = c.as_slice-slot-items.ensures ∙ slots_are tree count c.args.number c.template_of-template.result
    c.template_of-template.ensures.kind c.place_after-place.result (base_after c.args.at.now c.args.survey.now) c.place_after-place.ensures _
    c.in_ok-slots.ensures in
    closed tree count c.args.levels c.args.number c.args.tags c.args.at.now c.args.survey.now c.requires.lawful c.requires.counted
    c.as_slice-slot-items.result.now items c.loop-slot.survey c.loop-slot.slot-index c.loop-slot.invariant (omega (arith, c.loop-slot-test.false))
    c.is_loop.result (c.is_loop.ensures ∙ ap (λ (z : Kind). z.is_loop) c.template_of-template.ensures.kind) c.place_after-place.result
    c.place_after-place.ensures c.close.new.survey c.in_ok-close.ensures
