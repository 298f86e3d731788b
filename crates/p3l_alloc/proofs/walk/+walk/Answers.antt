use Rattle.std.proofs.Common.{◌≡◌, ◌+◌, ◌-◌, ◌*◌, ◌/◌, ◌<◌, ◌≤◌, ◌++◌, ◌∙◌, ℕ, List, [], ◌∷◌, drop, length, get_or, refl, sym, ap, subst, arith}
use Rattle.std.specs.Prelude.{sum_by}
use Rattle.std.proofs.Math.Nat.{div-le_self}
use Rattle.p3l_skel.specs.Tree.{node_at}
use Rattle.p3l_model.specs.Costed.{costed}
use Rattle.p3l_alloc.specs.Table.{row_in}
use Rattle.p3l_alloc.specs.Walk.{first_within, least_of, part_time, CanServe, AddsFirst, IsWithin}
use Rattle.p3l_alloc.proofs.Added.{adds_unit, adds_workers, adds_segments, adds_loop, at_workers, at_loop, at_unit, at_segments, at_stages, some_levels, within_some, within_parts, stages_few, walk_start, walk_step, walk_end, stage_room, later_is}
use Rattle.p3l_alloc.proofs.First.{count_found, part_room, loop_room, segments_found}
use Rattle.p3l_alloc.proofs.walk.+walk.Goals as goal

pub first_counts-returns-then-levels-eq0 : goal.first_counts-returns-then-levels-eq0
first_counts-returns-then-levels-eq0 t c = absurd (within_some c.args.tree.now c.args.levels c.args.node c.requires.levels c.if-levels-eq0.true)

pub first_counts-first_workers-requires-clause-sharing : goal.first_counts-first_workers-requires-clause-sharing
first_counts-first_workers-requires-clause-sharing t c =
    let at = at_workers c.args.tree.now c.args.costs.now c.requires.tree c.requires.costs c.args.rows.now c.args.most c.args.levels c.args.node c.first_part-first.result (omega (arith, c.if-levels-eq0.false)) c.requires.levels c.requires.rows c.requires.slow c.first_part-first.ensures c.in-Workers.span c.in-Workers.sharing c.in-Workers.ends c.args.processes c.row_in-row.result.now c.requires.processes c.row_in-row.ensures (sym c.in-Workers.ensures) in
    at.part.sharing

pub first_counts-part_time-within-requires-clause-sharing : goal.first_counts-part_time-within-requires-clause-sharing
first_counts-part_time-within-requires-clause-sharing t c =
    let at = at_workers c.args.tree.now c.args.costs.now c.requires.tree c.requires.costs c.args.rows.now c.args.most c.args.levels c.args.node c.first_part-first.result (omega (arith, c.if-levels-eq0.false)) c.requires.levels c.requires.rows c.requires.slow c.first_part-first.ensures c.in-Workers.span c.in-Workers.sharing c.in-Workers.ends c.args.processes c.row_in-row.result.now c.requires.processes c.row_in-row.ensures (sym c.in-Workers.ensures) in
    at.part.sharing

pub first_counts-returns-in_default : goal.first_counts-returns-in_default
first_counts-returns-in_default t c =
    let at = at_workers c.args.tree.now c.args.costs.now c.requires.tree c.requires.costs c.args.rows.now c.args.most c.args.levels c.args.node c.first_part-first.result (omega (arith, c.if-levels-eq0.false)) c.requires.levels c.requires.rows c.requires.slow c.first_part-first.ensures c.in-Workers.span c.in-Workers.sharing c.in-Workers.ends c.args.processes c.row_in-row.result.now c.requires.processes c.row_in-row.ensures (sym c.in-Workers.ensures) in
    absurd (count_found c.in-Workers.span c.in-Workers.sharing c.in-Workers.ends c.args.time c.args.processes _ c.row_in-row.result.now at.part c.requires.time (subst (λ a. CanServe a c.args.time c.args.processes) at.is c.requires.can) c.in_default.ensures.none)

pub first_counts-first_counts-requires : goal.first_counts-first_counts-requires
first_counts-first_counts-requires t c =
    let some : 0 < c.args.levels = omega (arith, c.if-levels-eq0.false) in
    let at = at_workers c.args.tree.now c.args.costs.now c.requires.tree c.requires.costs c.args.rows.now c.args.most c.args.levels c.args.node c.first_part-first.result some c.requires.levels c.requires.rows c.requires.slow c.first_part-first.ensures c.in-Workers.span c.in-Workers.sharing c.in-Workers.ends c.args.processes c.row_in-row.result.now c.requires.processes c.row_in-row.ensures (sym c.in-Workers.ensures) in
    let n = c.in-Some.workers in
    let room = part_room c.in-Workers.span c.in-Workers.sharing c.in-Workers.ends c.args.time c.args.processes _ c.row_in-row.result.now at.part c.requires.time n c.in-Some.ensures.found in
    let less = div-le_self (c.args.processes - 2) n in
    (omega (arith, c.decreases), (c.requires.tree, (c.requires.costs, (c.requires.rows, (c.requires.most, (omega (arith, less, c.requires.processes), (at.within, (omega (arith, c.part_time-within.ensures), (at.part.slow, subst (λ u. CanServe (costed c.args.tree.now c.args.costs.now c.first_part-first.result) u ((c.args.processes - 2) / n)) (sym c.part_time-within.ensures) room)))))))))

pub first_counts-returns-in_default-first_segments : goal.first_counts-returns-in_default-first_segments
first_counts-returns-in_default-first_segments t c =
    let some : 0 < c.args.levels = omega (arith, c.if-levels-eq0.false) in
    let is = at_segments c.args.tree.now c.args.costs.now c.requires.tree c.requires.costs c.args.rows.now c.args.most c.args.levels c.args.node c.first_part-first.result some c.requires.levels c.requires.rows c.requires.slow c.first_part-first.ensures c.in-Segments.span c.in-Segments.fold (sym c.in-Segments.ensures) in
    absurd (segments_found c.in-Segments.span c.in-Segments.fold c.args.time c.args.processes (subst (λ a. CanServe a c.args.time c.args.processes) is c.requires.can) c.in_default-first_segments.ensures.none)

pub first_counts-nonzero_div-within : goal.first_counts-nonzero_div-within
first_counts-nonzero_div-within t c =
    let some : 0 < c.args.levels = omega (arith, c.if-levels-eq0.false) in
    let at = at_loop c.args.tree.now c.args.costs.now c.requires.tree c.requires.costs c.args.rows.now c.args.most c.args.levels c.args.node c.first_part-first.result some c.requires.levels c.requires.rows c.requires.slow c.first_part-first.ensures c.in-Loop.turns c.in-Loop.ends (sym c.in-Loop.ensures) in
    at.some

pub first_counts-overflow_sub-processes : goal.first_counts-overflow_sub-processes
first_counts-overflow_sub-processes t c =
    let some : 0 < c.args.levels = omega (arith, c.if-levels-eq0.false) in
    let at = at_loop c.args.tree.now c.args.costs.now c.requires.tree c.requires.costs c.args.rows.now c.args.most c.args.levels c.args.node c.first_part-first.result some c.requires.levels c.requires.rows c.requires.slow c.first_part-first.ensures c.in-Loop.turns c.in-Loop.ends (sym c.in-Loop.ensures) in
    (loop_room c.in-Loop.turns c.in-Loop.ends c.args.time c.args.processes _ at.some (subst (λ a. CanServe a c.args.time c.args.processes) at.is c.requires.can)).2

pub first_counts-first_counts-requires-in-Loop : goal.first_counts-first_counts-requires-in-Loop
first_counts-first_counts-requires-in-Loop t c =
    let some : 0 < c.args.levels = omega (arith, c.if-levels-eq0.false) in
    let at = at_loop c.args.tree.now c.args.costs.now c.requires.tree c.requires.costs c.args.rows.now c.args.most c.args.levels c.args.node c.first_part-first.result some c.requires.levels c.requires.rows c.requires.slow c.first_part-first.ensures c.in-Loop.turns c.in-Loop.ends (sym c.in-Loop.ensures) in
    let room = loop_room c.in-Loop.turns c.in-Loop.ends c.args.time c.args.processes _ at.some (subst (λ a. CanServe a c.args.time c.args.processes) at.is c.requires.can) in
    let less = div-le_self c.args.time c.in-Loop.turns in
    (omega (arith, c.decreases), (c.requires.tree, (c.requires.costs, (c.requires.rows, (c.requires.most, (omega (arith, c.requires.processes), (at.within, (omega (arith, less, c.requires.time), (at.slow, room.0)))))))))

pub first_counts-returns-in-Unit : goal.first_counts-returns-in-Unit
first_counts-returns-in-Unit t c =
    let some : 0 < c.args.levels = omega (arith, c.if-levels-eq0.false) in
    let is = at_unit c.args.tree.now c.args.costs.now c.requires.tree c.requires.costs c.args.rows.now c.args.most c.args.levels c.args.node c.first_part-first.result some c.requires.levels c.requires.rows c.requires.slow c.first_part-first.ensures c.in-Unit.service (sym c.in-Unit.ensures) in
    subst (λ a. AddsFirst a c.args.time c.args.processes c.args.counts.now c.args.counts.now 1) (sym is)
    (adds_unit c.in-Unit.service c.args.time c.args.processes c.args.counts.now (subst (λ a. CanServe a c.args.time c.args.processes) is c.requires.can))

pub first_counts-returns-in_ok-used-in-Workers : goal.first_counts-returns-in_ok-used-in-Workers
first_counts-returns-in_ok-used-in-Workers t c =
    let some : 0 < c.args.levels = omega (arith, c.if-levels-eq0.false) in
    let at = at_workers c.args.tree.now c.args.costs.now c.requires.tree c.requires.costs c.args.rows.now c.args.most c.args.levels c.args.node c.first_part-first.result some c.requires.levels c.requires.rows c.requires.slow c.first_part-first.ensures c.in-Workers.span c.in-Workers.sharing c.in-Workers.ends c.args.processes c.row_in-row.result.now c.requires.processes c.row_in-row.ensures (sym c.in-Workers.ensures) in
    let n = c.in-Some.workers in
    let part = costed c.args.tree.now c.args.costs.now c.first_part-first.result in
    let adds : AddsFirst part (part_time c.in-Workers.sharing c.args.time n) ((c.args.processes - 2) / n) (c.args.counts.now ++ n ∷ []) c.first_counts.new.counts c.in_ok-used-in-Workers.used =
    rw (← c.part_time-within.ensures, ← c.in_ok-push-in-Workers.ensures.ok) c.in_ok-used-in-Workers.ensures in
    subst (λ a. AddsFirst a c.args.time c.args.processes c.args.counts.now c.first_counts.new.counts (2 + n * c.in_ok-used-in-Workers.used)) (sym at.is)
    (adds_workers c.in-Workers.span c.in-Workers.sharing c.in-Workers.ends c.args.time c.args.processes n c.in_ok-used-in-Workers.used part c.row_in-row.result.now c.args.counts.now c.first_counts.new.counts at.part c.requires.time (subst (λ a. CanServe a c.args.time c.args.processes) at.is c.requires.can) c.in-Some.ensures.found adds)

pub first_counts-returns-in_ok-push-in-Segments : goal.first_counts-returns-in_ok-push-in-Segments
first_counts-returns-in_ok-push-in-Segments t c =
    let some : 0 < c.args.levels = omega (arith, c.if-levels-eq0.false) in
    let is = at_segments c.args.tree.now c.args.costs.now c.requires.tree c.requires.costs c.args.rows.now c.args.most c.args.levels c.args.node c.first_part-first.result some c.requires.levels c.requires.rows c.requires.slow c.first_part-first.ensures c.in-Segments.span c.in-Segments.fold (sym c.in-Segments.ensures) in
    rw (is, c.segments_procs.ensures, c.in_ok-push-in-Segments.ensures.ok)
    (adds_segments c.in-Segments.span c.in-Segments.fold c.args.time c.args.processes c.in-Some-first_segments.segments c.args.counts.now c.in-Some-first_segments.ensures.found)

pub first_counts-returns-in_ok-used-in-Loop : goal.first_counts-returns-in_ok-used-in-Loop
first_counts-returns-in_ok-used-in-Loop t c =
    let some : 0 < c.args.levels = omega (arith, c.if-levels-eq0.false) in
    let at = at_loop c.args.tree.now c.args.costs.now c.requires.tree c.requires.costs c.args.rows.now c.args.most c.args.levels c.args.node c.first_part-first.result some c.requires.levels c.requires.rows c.requires.slow c.first_part-first.ensures c.in-Loop.turns c.in-Loop.ends (sym c.in-Loop.ensures) in
    subst (λ a. AddsFirst a c.args.time c.args.processes c.args.counts.now c.first_counts-in-Loop.new.counts (2 + c.in_ok-used-in-Loop.used)) (sym at.is)
    (adds_loop c.in-Loop.turns c.in-Loop.ends c.args.time c.args.processes c.in_ok-used-in-Loop.used (costed c.args.tree.now c.args.costs.now c.first_part-first.result) c.args.counts.now c.first_counts-in-Loop.new.counts at.some (subst (λ a. CanServe a c.args.time c.args.processes) at.is c.requires.can) c.in_ok-used-in-Loop.ensures)

pub stages_counts-loop-part-init : goal.stages_counts-loop-part-init
stages_counts-loop-part-init t c =
    let tree = c.args.tree.now in
    let costs = c.args.costs.now in
    let rows = c.args.rows.now in
    let time = c.args.time in
    let most = c.args.most in
    let parts = c.parts_of-parts.result.now in
    let below = costed tree costs in
    let at = at_stages tree costs rows most c.args.levels c.args.node parts c.requires.tree c.requires.costs (some_levels tree c.args.levels c.args.node c.requires.levels) c.requires.levels c.requires.rows c.requires.slow c.parts_of-parts.ensures c.requires.pipe in
    let can = subst (λ a. CanServe a time c.args.processes) at.is c.requires.can in
    let few = stages_few tree rows below time most c.args.processes parts at.rows_are c.requires.time c.requires.processes can in
    walk_start tree rows below time c.args.processes c.least_of_all-later.result parts c.args.counts.now (omega (arith, c.least_of_all-later.ensures, few, c.requires.most, c.requires.processes)) can

pub stages_counts-overflow_cast-given : goal.stages_counts-overflow_cast-given
stages_counts-overflow_cast-given t c =
    let tree = c.args.tree.now in
    let costs = c.args.costs.now in
    let rows = c.args.rows.now in
    let time = c.args.time in
    let most = c.args.most in
    let parts = c.parts_of-parts.result.now in
    let below = costed tree costs in
    let at = at_stages tree costs rows most c.args.levels c.args.node parts c.requires.tree c.requires.costs (some_levels tree c.args.levels c.args.node c.requires.levels) c.requires.levels c.requires.rows c.requires.slow c.parts_of-parts.ensures c.requires.pipe in
    let i = c.loop-part.part-index in
    let left = c.loop-part.left in
    let later = c.loop-part.later in
    let l : ℕ = sum_by (least_of tree rows time) (drop (i + 1) parts) in
    let room = stage_room tree rows below time c.args.processes most parts i left later c.args.counts.now c.loop-part.counts at.rows_are c.requires.time c.requires.processes c.loop-part-test.true c.loop-part.invariant in
    let here : c.first_within.result ≡ first_within time (row_in tree rows (get_or parts i 0)) = c.first_within.ensures ∙ ap (first_within time) c.row_in.ensures in
    let whole : later ≡ first_within time (row_in tree rows (get_or parts i 0)) + l = later_is tree rows below time c.args.processes most parts i left later c.args.counts.now c.loop-part.counts at.rows_are c.requires.time c.requires.processes c.loop-part-test.true c.loop-part.invariant in
    let rest : later - c.first_within.result ≡ l = omega arith in
    let few = c.loop-part.invariant.few in
    let small : later - c.first_within.result ≤ 512 = omega (arith, room.1, c.requires.most, c.requires.processes) in
    omega arith

pub stages_counts-overflow_sub-given : goal.stages_counts-overflow_sub-given
stages_counts-overflow_sub-given t c =
    let tree = c.args.tree.now in
    let costs = c.args.costs.now in
    let rows = c.args.rows.now in
    let time = c.args.time in
    let most = c.args.most in
    let parts = c.parts_of-parts.result.now in
    let below = costed tree costs in
    let at = at_stages tree costs rows most c.args.levels c.args.node parts c.requires.tree c.requires.costs (some_levels tree c.args.levels c.args.node c.requires.levels) c.requires.levels c.requires.rows c.requires.slow c.parts_of-parts.ensures c.requires.pipe in
    let i = c.loop-part.part-index in
    let left = c.loop-part.left in
    let later = c.loop-part.later in
    let l : ℕ = sum_by (least_of tree rows time) (drop (i + 1) parts) in
    let room = stage_room tree rows below time c.args.processes most parts i left later c.args.counts.now c.loop-part.counts at.rows_are c.requires.time c.requires.processes c.loop-part-test.true c.loop-part.invariant in
    let here : c.first_within.result ≡ first_within time (row_in tree rows (get_or parts i 0)) = c.first_within.ensures ∙ ap (first_within time) c.row_in.ensures in
    let whole : later ≡ first_within time (row_in tree rows (get_or parts i 0)) + l = later_is tree rows below time c.args.processes most parts i left later c.args.counts.now c.loop-part.counts at.rows_are c.requires.time c.requires.processes c.loop-part-test.true c.loop-part.invariant in
    let rest : later - c.first_within.result ≡ l = omega arith in
    let few = c.loop-part.invariant.few in
    omega (arith, room.1)

pub stages_counts-overflow_sub-levels : goal.stages_counts-overflow_sub-levels
stages_counts-overflow_sub-levels t c = some_levels c.args.tree.now c.args.levels c.args.node c.requires.levels

pub stages_counts-first_counts-requires : goal.stages_counts-first_counts-requires
stages_counts-first_counts-requires t c =
    let tree = c.args.tree.now in
    let costs = c.args.costs.now in
    let rows = c.args.rows.now in
    let time = c.args.time in
    let most = c.args.most in
    let parts = c.parts_of-parts.result.now in
    let below = costed tree costs in
    let at = at_stages tree costs rows most c.args.levels c.args.node parts c.requires.tree c.requires.costs (some_levels tree c.args.levels c.args.node c.requires.levels) c.requires.levels c.requires.rows c.requires.slow c.parts_of-parts.ensures c.requires.pipe in
    let i = c.loop-part.part-index in
    let left = c.loop-part.left in
    let later = c.loop-part.later in
    let l : ℕ = sum_by (least_of tree rows time) (drop (i + 1) parts) in
    let room = stage_room tree rows below time c.args.processes most parts i left later c.args.counts.now c.loop-part.counts at.rows_are c.requires.time c.requires.processes c.loop-part-test.true c.loop-part.invariant in
    let here : c.first_within.result ≡ first_within time (row_in tree rows (get_or parts i 0)) = c.first_within.ensures ∙ ap (first_within time) c.row_in.ensures in
    let whole : later ≡ first_within time (row_in tree rows (get_or parts i 0)) + l = later_is tree rows below time c.args.processes most parts i left later c.args.counts.now c.loop-part.counts at.rows_are c.requires.time c.requires.processes c.loop-part-test.true c.loop-part.invariant in
    let rest : later - c.first_within.result ≡ l = omega arith in
    let few = c.loop-part.invariant.few in
    let some = some_levels tree c.args.levels c.args.node c.requires.levels in
    let same : parts ≡ (node_at tree c.args.node).parts = c.parts_of-parts.ensures in
    let inside : i < length (node_at tree c.args.node).parts = rw (← same) c.loop-part-test.true in
    let within = within_parts tree c.args.levels c.args.node i 0 some c.requires.levels inside in
    (omega (arith, c.decreases, some), (c.requires.tree, (c.requires.costs, (c.requires.rows, (c.requires.most, (omega (arith, c.requires.processes), (subst (λ (ps : List ℕ). IsWithin tree (c.args.levels - 1) (get_or ps i 0)) (sym same) within, (c.requires.time, (at.slow i c.loop-part-test.true, subst (λ u. CanServe (costed tree costs (get_or parts i 0)) time (left - u)) (sym rest) room.0)))))))))

pub stages_counts-loop-part-preserved : goal.stages_counts-loop-part-preserved
stages_counts-loop-part-preserved t c =
    let tree = c.args.tree.now in
    let costs = c.args.costs.now in
    let rows = c.args.rows.now in
    let time = c.args.time in
    let most = c.args.most in
    let parts = c.parts_of-parts.result.now in
    let below = costed tree costs in
    let at = at_stages tree costs rows most c.args.levels c.args.node parts c.requires.tree c.requires.costs (some_levels tree c.args.levels c.args.node c.requires.levels) c.requires.levels c.requires.rows c.requires.slow c.parts_of-parts.ensures c.requires.pipe in
    let i = c.loop-part.part-index in
    let left = c.loop-part.left in
    let later = c.loop-part.later in
    let l : ℕ = sum_by (least_of tree rows time) (drop (i + 1) parts) in
    let room = stage_room tree rows below time c.args.processes most parts i left later c.args.counts.now c.loop-part.counts at.rows_are c.requires.time c.requires.processes c.loop-part-test.true c.loop-part.invariant in
    let here : c.first_within.result ≡ first_within time (row_in tree rows (get_or parts i 0)) = c.first_within.ensures ∙ ap (first_within time) c.row_in.ensures in
    let whole : later ≡ first_within time (row_in tree rows (get_or parts i 0)) + l = later_is tree rows below time c.args.processes most parts i left later c.args.counts.now c.loop-part.counts at.rows_are c.requires.time c.requires.processes c.loop-part-test.true c.loop-part.invariant in
    let rest : later - c.first_within.result ≡ l = omega arith in
    let few = c.loop-part.invariant.few in
    let adds = subst (λ u. AddsFirst (costed tree costs (get_or parts i 0)) time (left - u) c.loop-part.counts c.first_counts.new.counts c.in_ok-left.field-0) rest c.in_ok-left.ensures in
    walk_step tree rows below time c.args.processes most parts i left later c.args.counts.now c.loop-part.counts at.rows_are c.requires.time c.requires.processes c.loop-part-test.true c.loop-part.invariant c.in_ok-left.field-0 (left - c.in_ok-left.field-0) (later - c.first_within.result) c.first_counts.new.counts adds refl rest

pub stages_counts-returns : goal.stages_counts-returns
stages_counts-returns t c =
    let tree = c.args.tree.now in
    let costs = c.args.costs.now in
    let rows = c.args.rows.now in
    let time = c.args.time in
    let most = c.args.most in
    let parts = c.parts_of-parts.result.now in
    let below = costed tree costs in
    let at = at_stages tree costs rows most c.args.levels c.args.node parts c.requires.tree c.requires.costs (some_levels tree c.args.levels c.args.node c.requires.levels) c.requires.levels c.requires.rows c.requires.slow c.parts_of-parts.ensures c.requires.pipe in
    subst (λ a. AddsFirst a time c.args.processes c.args.counts.now c.loop-part.counts (c.args.processes - c.loop-part.left)) (sym at.is)
    (walk_end tree rows below time c.args.processes parts c.loop-part.part-index c.loop-part.left c.loop-part.later (c.args.processes - c.loop-part.left) c.args.counts.now c.loop-part.counts c.loop-part-test.false c.loop-part.invariant refl)
