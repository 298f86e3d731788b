-- Each step of the walk, by the lemmas of WalkSteps.
use Rattle.std.proofs.Common.{length, refl, ap, ap₂, sym, ◌∙◌, arith, subst}
use Rattle.p3l_skel.specs.Counts.{count_of}
use Rattle.p3l_template.specs.Finding.{if_orderly}
use Rattle.p3l_template.specs.Kind.{Kind}
use Rattle.p3l_template.specs.Shape.{Base, FitsAt}
use Rattle.p3l_firing.specs.Shot.{state_of}
use Rattle.p3l_link.specs.Shape.{kind_at}
use Rattle.p3l_link.proofs.AnyKind.{slots_are}
use Rattle.p3l_link.proofs.Counted.{counted_deep, counted_own, counted_there}
use Rattle.p3l_orderly.proofs.WalkSteps.{items_end, not_some, own_count, own_found, own_room, part_counted, part_none, part_on, part_room}
use Rattle.p3l_orderly.proofs.walk.+find_in.Goals as goal

pub template_of-template-requires-clause-there : goal.template_of-template-requires-clause-there
template_of-template-requires-clause-there t c =
    counted_there c.args.tree.now (count_of c.args.tree.now c.args.counts.now.list) c.args.levels c.args.number c.requires.counted

pub template_of-template-requires-clause-count : goal.template_of-template-requires-clause-count
template_of-template-requires-clause-count t c =
    counted_own c.args.tree.now (count_of c.args.tree.now c.args.counts.now.list) c.args.levels c.args.number c.requires.counted

pub slots-requires-clause-room : goal.slots-requires-clause-room
slots-requires-clause-room t c =
    let tree = c.args.tree.now in
    let count = count_of c.args.tree.now c.args.counts.now.list in
    let room = subst (λ (z : Kind). FitsAt z.shape c.args.place.now) (sym c.template_of-template.ensures.kind)
    (own_room tree count c.args.levels c.args.number c.args.place.now (state_of c.args.shot.now) c.requires.lawful c.requires.counted
    c.requires.room) in
    room

pub overflow_cast-proc : goal.overflow_cast-proc
overflow_cast-proc t c =
    let tree = c.args.tree.now in
    let count = count_of c.args.tree.now c.args.counts.now.list in
    let room = subst (λ (z : Kind). FitsAt z.shape c.args.place.now) (sym c.template_of-template.ensures.kind)
    (own_room tree count c.args.levels c.args.number c.args.place.now (state_of c.args.shot.now) c.requires.lawful c.requires.counted
    c.requires.room) in
    omega (arith, room.0, c.proc_count.ensures c.args.place.now)

pub overflow_add-proc : goal.overflow_add-proc
overflow_add-proc t c =
    let tree = c.args.tree.now in
    let count = count_of c.args.tree.now c.args.counts.now.list in
    let room = subst (λ (z : Kind). FitsAt z.shape c.args.place.now) (sym c.template_of-template.ensures.kind)
    (own_room tree count c.args.levels c.args.number c.args.place.now (state_of c.args.shot.now) c.requires.lawful c.requires.counted
    c.requires.room) in
    omega (arith, room.0, c.proc_count.ensures c.args.place.now, ap (λ (b : Base). b.proc) c.place.view_is)

pub overflow_cast-chan : goal.overflow_cast-chan
overflow_cast-chan t c =
    let tree = c.args.tree.now in
    let count = count_of c.args.tree.now c.args.counts.now.list in
    let room = subst (λ (z : Kind). FitsAt z.shape c.args.place.now) (sym c.template_of-template.ensures.kind)
    (own_room tree count c.args.levels c.args.number c.args.place.now (state_of c.args.shot.now) c.requires.lawful c.requires.counted
    c.requires.room) in
    omega (arith, room.1, c.chan_count.ensures c.args.place.now)

pub overflow_add-chan : goal.overflow_add-chan
overflow_add-chan t c =
    let tree = c.args.tree.now in
    let count = count_of c.args.tree.now c.args.counts.now.list in
    let room = subst (λ (z : Kind). FitsAt z.shape c.args.place.now) (sym c.template_of-template.ensures.kind)
    (own_room tree count c.args.levels c.args.number c.args.place.now (state_of c.args.shot.now) c.requires.lawful c.requires.counted
    c.requires.room) in
    omega (arith, room.1, c.chan_count.ensures c.args.place.now, ap (λ (b : Base). b.chan) c.place.view_is)

pub overflow_sub-levels : goal.overflow_sub-levels
overflow_sub-levels t c =
    counted_deep c.args.tree.now (count_of c.args.tree.now c.args.counts.now.list) c.args.levels c.args.number c.requires.counted

pub find_in-requires : goal.find_in-requires
find_in-requires t c =
    let tree = c.args.tree.now in
    let count = count_of c.args.tree.now c.args.counts.now.list in
    let items = c.as_slice-slot-items.ensures ∙ slots_are tree count c.args.number c.template_of-template.result
    c.template_of-template.ensures.kind c.args.place.now c.args.place.now refl _ c.in_ok-slots.ensures in
    let some = counted_deep tree count c.args.levels c.args.number c.requires.counted in (
      omega (arith, some, c.decreases),
      (
        c.requires.lawful,
        (
          part_counted tree count c.args.levels c.args.number c.args.place.now (state_of c.args.shot.now) c.requires.lawful c.requires.counted
              c.as_slice-slot-items.result.now items c.loop-slot.slot-index c.loop-slot-test.true _ c.slot-item.result c.slot.view_is c.slot-item.is
              c.part_of-part.result c.part_of-part.ensures,
          (
            part_room tree count c.args.levels c.args.number c.args.place.now (state_of c.args.shot.now) c.requires.lawful c.requires.counted
                c.as_slice-slot-items.result.now items c.loop-slot.slot-index c.loop-slot-test.true _ c.slot-item.result c.slot.view_is c.slot-item.is
                c.part_of-part.result c.part_of-part.ensures c.loop-slot.proc c.loop-slot.chan _ refl c.loop-slot.inner c.loop-slot.invariant c.requires.room,
            c.requires.few,
          ),
        ),
      ),
    )

pub returns-in_default : goal.returns-in_default
returns-in_default t c =
    let tree = c.args.tree.now in
    let count = count_of c.args.tree.now c.args.counts.now.list in
    let items = c.as_slice-slot-items.ensures ∙ slots_are tree count c.args.number c.template_of-template.result
    c.template_of-template.ensures.kind c.args.place.now c.args.place.now refl _ c.in_ok-slots.ensures in
    part_none tree count c.args.levels c.args.number c.args.place.now (state_of c.args.shot.now) c.requires.lawful c.requires.counted
    c.as_slice-slot-items.result.now items c.loop-slot.slot-index c.loop-slot-test.true _ c.slot-item.result c.slot.view_is c.slot-item.is
    c.part_of-part.result c.part_of-part.ensures c.loop-slot.proc c.loop-slot.chan _ refl c.loop-slot.inner c.loop-slot.invariant
    (sym (not_some c.in_ok-found.found c.in_default.not-Some) ∙ c.in_ok-found.ensures)

pub loop-slot-preserved : goal.loop-slot-preserved
loop-slot-preserved t c =
    let tree = c.args.tree.now in
    let count = count_of c.args.tree.now c.args.counts.now.list in
    let items = c.as_slice-slot-items.ensures ∙ slots_are tree count c.args.number c.template_of-template.result
    c.template_of-template.ensures.kind c.args.place.now c.args.place.now refl _ c.in_ok-slots.ensures in
    part_on tree count c.args.levels c.args.number c.args.place.now (state_of c.args.shot.now) c.requires.lawful c.requires.counted
    c.as_slice-slot-items.result.now items c.loop-slot.slot-index c.loop-slot-test.true _ c.slot-item.result c.slot.view_is c.slot-item.is
    c.part_of-part.result c.part_of-part.ensures c.loop-slot.proc c.loop-slot.chan _ refl c.loop-slot.inner c.loop-slot.invariant
    c.in-Some.found _ _ _ (sym c.in-Some.is ∙ c.in_ok-found.ensures) refl refl c.in_ok-push.ensures.ok

pub pending-requires-clause-inner : goal.pending-requires-clause-inner
pending-requires-clause-inner t c =
    let tree = c.args.tree.now in
    let count = count_of c.args.tree.now c.args.counts.now.list in
    let items = c.as_slice-slot-items.ensures ∙ slots_are tree count c.args.number c.template_of-template.result
    c.template_of-template.ensures.kind c.args.place.now c.args.place.now refl _ c.in_ok-slots.ensures in
    let all = items_end tree count c.args.levels c.args.number c.args.place.now (state_of c.args.shot.now) c.requires.lawful
    c.requires.counted c.as_slice-slot-items.result.now items c.loop-slot.slot-index c.loop-slot.proc c.loop-slot.chan c.loop-slot.inner
    c.loop-slot.invariant (omega (arith, c.loop-slot-test.false)) in
    ap length c.as_slice.ensures
    ∙ own_count tree count c.args.levels c.args.number c.args.place.now (state_of c.args.shot.now) c.requires.lawful c.requires.counted
    c.loop-slot.proc c.loop-slot.chan c.loop-slot.inner all
    ∙ sym (ap (λ (z : Kind). z.shape.inner) c.template_of-template.ensures.kind)

pub pending-requires-clause-room : goal.pending-requires-clause-room
pending-requires-clause-room t c =
    let tree = c.args.tree.now in
    let count = count_of c.args.tree.now c.args.counts.now.list in
    let room = subst (λ (z : Kind). FitsAt z.shape c.args.place.now) (sym c.template_of-template.ensures.kind)
    (own_room tree count c.args.levels c.args.number c.args.place.now (state_of c.args.shot.now) c.requires.lawful c.requires.counted
    c.requires.room) in
    room

pub returns : goal.returns
returns t c =
    let tree = c.args.tree.now in
    let count = count_of c.args.tree.now c.args.counts.now.list in
    let items = c.as_slice-slot-items.ensures ∙ slots_are tree count c.args.number c.template_of-template.result
    c.template_of-template.ensures.kind c.args.place.now c.args.place.now refl _ c.in_ok-slots.ensures in
    let all = items_end tree count c.args.levels c.args.number c.args.place.now (state_of c.args.shot.now) c.requires.lawful
    c.requires.counted c.as_slice-slot-items.result.now items c.loop-slot.slot-index c.loop-slot.proc c.loop-slot.chan c.loop-slot.inner
    c.loop-slot.invariant (omega (arith, c.loop-slot-test.false)) in
    c.ending_at.ensures ((kind_at tree count c.args.number).finds tree c.args.place.now (state_of c.args.shot.now) c.loop-slot.inner)
    (c.in_ok-own.ensures
    ∙ ap₂ (λ (z : Kind) l. if_orderly (z.finds tree c.args.place.now (state_of c.args.shot.now) l)) c.template_of-template.ensures.kind c.as_slice.ensures)
    ∙ own_found tree count c.args.levels c.args.number c.args.place.now (state_of c.args.shot.now) c.requires.lawful c.requires.counted
    c.loop-slot.proc c.loop-slot.chan c.loop-slot.inner all
