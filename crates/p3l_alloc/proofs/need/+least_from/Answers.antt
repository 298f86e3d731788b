use Rattle.std.proofs.Common.{◌≡◌, ◌-◌, ◌<◌, ℕ, sum_by, arith, refl}
use Rattle.std.proofs.lemmas.List.{take_all}
use Rattle.p3l_skel.specs.Counts.{outside_parts}
use Rattle.p3l_skel.specs.Numbers.{procs_by}
use Rattle.p3l_skel.proofs.Below.{procs_by-zero, procs_by-step, procs_by-past}
use Rattle.p3l_model.specs.Fitted.{fitted}
use Rattle.p3l_model.proofs.Fit.{procs_row-fitted}
use Rattle.p3l_alloc.specs.Need.{least_at, least_count}
use Rattle.p3l_alloc.proofs.need.+least_from.Goals as goal

pub returns-then-levels-eq0 : goal.returns-then-levels-eq0
returns-then-levels-eq0 t c = rw (c.if-levels-eq0.true, procs_by-zero) refl

pub returns-in_default : goal.returns-in_default
returns-in_default t c =
    let some : 0 < c.args.levels = omega arith in
    rw (procs_by-past c.args.tree.now (least_at c.args.tree.now) c.args.levels c.args.number some c.in_default.ensures.past) refl

pub returns : goal.returns
returns t c =
    let some : 0 < c.args.levels = omega arith in
    let tree = c.args.tree.now in
    let below : ℕ → ℕ = procs_by tree (least_at tree) (c.args.levels - 1) in
    let node = c.in-Some.node.now in
    let all : c.loop-part.inner ≡ fitted (sum_by below (outside_parts node.form node.parts)) =
    rw (← c.outside_parts-part-items.ensures, ← take_all c.loop-part.part-index c.outside_parts-part-items.result.now c.loop-part-test.false) c.loop-part.invariant in
    rw (procs_by-step tree (least_at tree) c.args.levels c.args.number some, ← c.in-Some.ensures.found, c.procs_over.ensures, c.least_count.ensures, all)
    (procs_row-fitted node.form (least_count node.form) _)
