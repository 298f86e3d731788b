use Rattle.std.proofs.Common.{◌≡◌, ◌-◌, ◌<◌, ℕ, sum_by, arith, refl}
use Rattle.std.proofs.lemmas.List.{take_all}
use Rattle.p3l_skel.specs.Numbers.{runs_to}
use Rattle.p3l_skel.specs.Work.{capped}
use Rattle.p3l_skel.proofs.Below.{runs_to-zero, runs_to-step, runs_to-past}
use Rattle.p3l_skel.proofs.Capped.{runs_row-capped}
use Rattle.p3l_skel.proofs.work.+runs.Goals as goal

pub returns-then-levels-eq0 : goal.returns-then-levels-eq0
returns-then-levels-eq0 t c = rw (c.if-levels-eq0.true, runs_to-zero) refl

pub returns-in_default : goal.returns-in_default
returns-in_default t c =
    let some : 0 < c.args.levels = omega arith in
    rw (runs_to-past c.args.tree.now c.args.levels c.args.number some c.in_default.ensures.past) refl

pub returns : goal.returns
returns t c =
    let some : 0 < c.args.levels = omega arith in
    let below : ℕ → ℕ = runs_to c.args.tree.now (c.args.levels - 1) in
    let all : c.loop-part.inner ≡ capped (sum_by below c.in-Some.node.now.parts) =
    rw (← c.as_slice-part-items.ensures, ← take_all c.loop-part.part-index c.as_slice-part-items.result.now c.loop-part-test.false) c.loop-part.invariant in
    rw (runs_to-step c.args.tree.now c.args.levels c.args.number some, ← c.in-Some.ensures.found, c.runs_over.ensures, all)
    (runs_row-capped c.in-Some.node.now.form _)
