use Rattle.std.proofs.Common.{◌≡◌, ◌%◌, ◌/◌, ◌-◌, ◌*◌, ◌^◌, map, length, arith, ap, ◌∙◌}
use Rattle.p3l_skel.specs.Item.{item, pieces}
use Rattle.p3l_scan.specs.Plan.{step_node}
use Rattle.p3l_scan.specs.Row.{in_row}
use Rattle.p3l_scan.specs.Step.{step_leaf}
use Rattle.p3l_scan.proofs.UnitNodes.{stage-fits, stage-runs, stage-there, step-fits, step-runs, step-there}
use Rattle.p3l_scan.proofs.Running.{given-same}
use Rattle.p3l_scan.proofs.units.ScanUnitsUnits.run.Goals as goal

pub stage-requires-clause-there : goal.stage-requires-clause-there
stage-requires-clause-there g c =
    let odd : c.args.node % 2 ≡ 1 = let test = c.if-node-eq1.true in omega (arith, test) in
    let s = c.args.self.now in
    let there = stage-there s.levels s.words c.args.node c.requires.sequential odd in there.0

pub stage-requires-clause-fits : goal.stage-requires-clause-fits
stage-requires-clause-fits g c =
    let odd : c.args.node % 2 ≡ 1 = let test = c.if-node-eq1.true in omega (arith, test) in
    let s = c.args.self.now in
    ap (λ ws. length ws) c.as_slice.ensures
    ∙ stage-fits s.levels s.words c.args.node c.requires.sequential c.args.words.now c.requires.fits odd

pub overflow_sub-node : goal.overflow_sub-node
overflow_sub-node g c =
    let even : c.args.node % 2 ≡ 1 → ⊥ = (λ e. let test = c.if-node-eq1.false in absurd (omega (arith, test, e))) in
    let s = c.args.self.now in
    let there = step-there s.levels s.words c.args.node c.requires.sequential even in there.1.1

pub step-requires-clause-there : goal.step-requires-clause-there
step-requires-clause-there g c =
    let even : c.args.node % 2 ≡ 1 → ⊥ = (λ e. let test = c.if-node-eq1.false in absurd (omega (arith, test, e))) in
    let s = c.args.self.now in
    let there = step-there s.levels s.words c.args.node c.requires.sequential even in there.0

pub step-requires-clause-fits : goal.step-requires-clause-fits
step-requires-clause-fits g c =
    let even : c.args.node % 2 ≡ 1 → ⊥ = (λ e. let test = c.if-node-eq1.false in absurd (omega (arith, test, e))) in
    let s = c.args.self.now in
    ap (λ ws. length ws) c.as_slice-else-node-eq1.ensures
    ∙ step-fits s.levels s.words c.args.node c.requires.sequential c.args.words.now c.requires.fits even

pub returns-then-node-eq1 : goal.returns-then-node-eq1
returns-then-node-eq1 g c =
    let odd : c.args.node % 2 ≡ 1 = let test = c.if-node-eq1.true in omega (arith, test) in
    let s = c.args.self.now in
    let operator = item (g.U.Units.tree s.inner) (g.U.Units.leaf s.inner) s.op in
    given-same _ c.stage.result _ _
    (ap (λ ws. in_row (map (step_leaf s.elem operator (step_node (c.args.node / 2)))
    (pieces (2 ^ (s.levels - c.args.node / 2)) (2 ^ (c.args.node / 2) * s.words) ws))) c.as_slice.ensures
    ∙ stage-runs s.levels s.words c.args.node c.requires.sequential c.args.words.now c.requires.fits s.elem operator odd)
    c.stage.ensures

pub returns-else-node-eq1 : goal.returns-else-node-eq1
returns-else-node-eq1 g c =
    let even : c.args.node % 2 ≡ 1 → ⊥ = (λ e. let test = c.if-node-eq1.false in absurd (omega (arith, test, e))) in
    let s = c.args.self.now in
    let operator = item (g.U.Units.tree s.inner) (g.U.Units.leaf s.inner) s.op in
    given-same _ c.step.result _ _
    (ap (step_leaf s.elem operator (step_node (c.args.node / 2 - 1))) c.as_slice-else-node-eq1.ensures
    ∙ step-runs s.levels s.words c.args.node c.requires.sequential c.args.words.now c.requires.fits s.elem operator even)
    c.step.ensures
