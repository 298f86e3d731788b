use Rattle.std.proofs.Common.{◌≡◌, ◌-◌, ◌<◌, ℕ, sum_by, arith, refl}
use Rattle.std.proofs.lemmas.List.{take_all}
use Rattle.p3l_skel.specs.Counts.{outside_parts, count_of}
use Rattle.p3l_skel.specs.Numbers.{procs_by}
use Rattle.p3l_model.specs.Fitted.{fitted}
use Rattle.p3l_skel.proofs.Below.{procs_by-zero, procs_by-step, procs_by-past}
use Rattle.p3l_model.proofs.Fit.{procs_row-fitted}
use Rattle.p3l_model.proofs.process.+procs_from.Goals as goal

pub returns-then-levels-eq0 : goal.returns-then-levels-eq0
returns-then-levels-eq0 t c = rw (c.if-levels-eq0.true, procs_by-zero) refl

pub returns-in_default : goal.returns-in_default
returns-in_default t c =
    let some : 0 < c.args.levels = omega arith in
    rw (procs_by-past c.args.tree.now (count_of c.args.tree.now c.args.counts.now.list) c.args.levels c.args.number some c.in_default.ensures.past) refl

pub returns : goal.returns
returns t c =
    let some : 0 < c.args.levels = omega arith in
    let count : ℕ → ℕ = count_of c.args.tree.now c.args.counts.now.list in
    let below : ℕ → ℕ = procs_by c.args.tree.now count (c.args.levels - 1) in
    let all : c.loop-part.inner ≡ fitted (sum_by below (outside_parts c.in-Some.node.now.form c.in-Some.node.now.parts)) =
    rw (← c.outside_parts-part-items.ensures, ← take_all c.loop-part.part-index c.outside_parts-part-items.result.now c.loop-part-test.false) c.loop-part.invariant in
    rw (procs_by-step c.args.tree.now count c.args.levels c.args.number some, ← c.in-Some.ensures.found, c.procs_over.ensures, all, c.workers.ensures)
    (procs_row-fitted c.in-Some.node.now.form (count c.args.number) _)
