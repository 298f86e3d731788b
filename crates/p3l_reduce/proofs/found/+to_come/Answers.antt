use Rattle.std.proofs.Common.{◌+◌, ◌-◌, sym, ap₂, ◌∙◌, arith}
use Rattle.p3l_reduce.specs.JoinTree.{matched}
use Rattle.p3l_firing.specs.Shot.{state_of}
use Rattle.p3l_reduce.proofs.ReduceSteps.{IsFlow, segment_place, join_place, no_list, segment_found, none_on_left, none_on_right, flow_found, none_matched, left_found}
use Rattle.p3l_reduce.proofs.found.+to_come.Goals as goal

pub from_segment-requires-clause-chans : goal.from_segment-requires-clause-chans
from_segment-requires-clause-chans t c =
    let p = segment_place c.args.count c.args.depth c.args.q c.if-depth-eq0.true c.requires.places in
    omega (arith, c.requires.chans, c.requires.count, p.to)

pub from_segment-requires-clause-segment : goal.from_segment-requires-clause-segment
from_segment-requires-clause-segment t c =
    (segment_place c.args.count c.args.depth c.args.q c.if-depth-eq0.true c.requires.places).from

pub returns-then-depth-eq0 : goal.returns-then-depth-eq0
returns-then-depth-eq0 t c =
    segment_found c.args.count c.args.place.now (state_of c.args.shot.now) c.args.depth c.args.q c.in_ok-list.list
    c.if-depth-eq0.true c.in_ok-list.ensures

pub overflow_add-q : goal.overflow_add-q
overflow_add-q t c =
    let j = join_place c.args.count c.args.depth c.args.q c.if-depth-eq0.false c.requires.places in
    omega (arith, c.requires.count, j.below)

pub overflow_add-q-2 : goal.overflow_add-q-2
overflow_add-q-2 t c =
    let j = join_place c.args.count c.args.depth c.args.q c.if-depth-eq0.false c.requires.places in
    omega (arith, c.requires.count, j.below)

pub overflow_add-q-3 : goal.overflow_add-q-3
overflow_add-q-3 t c =
    let j = join_place c.args.count c.args.depth c.args.q c.if-depth-eq0.false c.requires.places in
    omega (arith, c.requires.count, j.below)

pub overflow_add-q-4 : goal.overflow_add-q-4
overflow_add-q-4 t c =
    let j = join_place c.args.count c.args.depth c.args.q c.if-depth-eq0.false c.requires.places in
    omega (arith, c.requires.count, j.below)

pub overflow_add-q-5 : goal.overflow_add-q-5
overflow_add-q-5 t c =
    let j = join_place c.args.count c.args.depth c.args.q c.if-depth-eq0.false c.requires.places in
    omega (arith, c.requires.count, j.below)

pub overflow_add-q-6 : goal.overflow_add-q-6
overflow_add-q-6 t c =
    let j = join_place c.args.count c.args.depth c.args.q c.if-depth-eq0.false c.requires.places in
    omega (arith, c.requires.count, j.below)

pub to_come-requires : goal.to_come-requires
to_come-requires t c =
    let j = join_place c.args.count c.args.depth c.args.q c.if-depth-eq0.false c.requires.places in
    (omega (arith, c.decreases, c.if-depth-eq0.false), (c.requires.chans, (c.requires.count, (j.left, c.requires.few))))

pub returns-in_default : goal.returns-in_default
returns-in_default t c =
    none_on_left c.args.count c.args.place.now (state_of c.args.shot.now) c.args.depth c.args.q c.if-depth-eq0.false
    (sym (no_list c.in_ok-to_left.field-0 c.in_default.not-Some) ∙ c.in_ok-to_left.ensures)

pub to_come-requires-2 : goal.to_come-requires-2
to_come-requires-2 t c =
    let j = join_place c.args.count c.args.depth c.args.q c.if-depth-eq0.false c.requires.places in
    (omega (arith, c.decreases, c.if-depth-eq0.false), (c.requires.chans, (c.requires.count, (j.right, c.requires.few))))

pub returns-in_default-2 : goal.returns-in_default-2
returns-in_default-2 t c =
    none_on_right c.args.count c.args.place.now (state_of c.args.shot.now) c.args.depth c.args.q c.if-depth-eq0.false
    (sym (no_list c.in_ok-to_right.field-0 c.in_default-2.not-Some) ∙ c.in_ok-to_right.ensures)

pub flow_of-requires-clause-chans : goal.flow_of-requires-clause-chans
flow_of-requires-clause-chans t c =
    let j = join_place c.args.count c.args.depth c.args.q c.if-depth-eq0.false c.requires.places in
    omega (arith, c.requires.chans, c.requires.count, j.below)

pub flow_of-requires-2-clause-chans : goal.flow_of-requires-2-clause-chans
flow_of-requires-2-clause-chans t c =
    let j = join_place c.args.count c.args.depth c.args.q c.if-depth-eq0.false c.requires.places in
    omega (arith, c.requires.chans, c.requires.count, j.below)

pub returns-then-not-are_matched : goal.returns-then-not-are_matched
returns-then-not-are_matched t c =
    let s = state_of c.args.shot.now in
    let base = c.args.place.now in
    let m = c.args.count in
    let d = c.args.depth - 1 in
    let q = c.args.q in
    let left : IsFlow m base s d (q + q) c.in_ok-left.left =
    flow_found m base s d (q + q) c.in-Some.to_left c.in_ok-left.left (sym c.in-Some.is ∙ c.in_ok-to_left.ensures) c.in_ok-left.ensures in
    let right : IsFlow m base s d (q + q + 1) c.in_ok-right.right =
    flow_found m base s d (q + q + 1) c.in-Some-2.to_right c.in_ok-right.right (sym c.in-Some-2.is ∙ c.in_ok-to_right.ensures) c.in_ok-right.ensures in
    none_matched m base s c.args.depth q c.in_ok-left.left c.in_ok-right.right c.if-depth-eq0.false left right
    (ap₂ matched (sym c.as_slice.ensures) (sym c.as_slice-2.ensures) ∙ sym c.are_matched.ensures ∙ c.if-not-are_matched.true)

pub returns : goal.returns
returns t c =
    let s = state_of c.args.shot.now in
    let base = c.args.place.now in
    let m = c.args.count in
    let d = c.args.depth - 1 in
    let q = c.args.q in
    let left : IsFlow m base s d (q + q) c.in_ok-left.left =
    flow_found m base s d (q + q) c.in-Some.to_left c.in_ok-left.left (sym c.in-Some.is ∙ c.in_ok-to_left.ensures) c.in_ok-left.ensures in
    let right : IsFlow m base s d (q + q + 1) c.in_ok-right.right =
    flow_found m base s d (q + q + 1) c.in-Some-2.to_right c.in_ok-right.right (sym c.in-Some-2.is ∙ c.in_ok-to_right.ensures) c.in_ok-right.ensures in
    left_found m base s c.args.depth q c.in_ok-left.left c.in_ok-right.right c.if-depth-eq0.false left right
    (ap₂ matched (sym c.as_slice.ensures) (sym c.as_slice-2.ensures) ∙ sym c.are_matched.ensures ∙ c.if-not-are_matched.false)
