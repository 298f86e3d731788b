use Rattle.std.proofs.Common.{◌≡◌, ◌-◌, ◌<◌, ℕ, sum_by, arith, refl}
use Rattle.std.specs.Prelude.{slice_index}
use Rattle.std.proofs.lemmas.List.{take_all}
use Rattle.p3l_model.specs.NodeCost.{timed}
use Rattle.p3l_model.specs.Service.{ticks_to}
use Rattle.p3l_model.proofs.TickSums.{ticks_to-zero, ticks_to-step, ticks_to-past, ticks_row-timed}
use Rattle.p3l_model.proofs.ticks.+ticks_from.Goals as goal

pub returns-then-levels-eq0 : goal.returns-then-levels-eq0
returns-then-levels-eq0 t c = rw (c.if-levels-eq0.true, ticks_to-zero) refl

pub returns-in_default : goal.returns-in_default
returns-in_default t c =
    let some : 0 < c.args.levels = omega arith in
    rw (ticks_to-past c.args.tree.now c.args.costs.now c.args.levels c.args.number some c.in_default.ensures.past) refl

pub returns : goal.returns
returns t c =
    let some : 0 < c.args.levels = omega arith in
    let below : ℕ → ℕ = ticks_to c.args.tree.now c.args.costs.now (c.args.levels - 1) in
    let node = c.in-Some.node.now in
    let all : c.loop-part.inner ≡ timed (sum_by below node.parts) =
    rw (← c.as_slice-part-items.ensures, ← take_all c.loop-part.part-index c.as_slice-part-items.result.now c.loop-part-test.false) c.loop-part.invariant in
    rw (ticks_to-step c.args.tree.now c.args.costs.now c.args.levels c.args.number some, ← c.in-Some.ensures.found, c.ticks_over.ensures, c.number_of.ensures, all)
    (ticks_row-timed node.form (slice_index c.args.costs.now.ticks node.module) _)
