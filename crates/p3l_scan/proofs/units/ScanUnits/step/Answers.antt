use Rattle.std.proofs.Common.{◌≡◌, ◌-◌, ◌*◌, ◌^◌, length, arith, ap, sym, ◌∙◌}
use Rattle.std.proofs.Math.Nat.{mul_assoc}
use Rattle.p3l_skel.specs.Item.{item}
use Rattle.p3l_scan.specs.Plan.{step_node}
use Rattle.p3l_scan.specs.Step.{step_leaf}
use Rattle.p3l_scan.specs.laws.Powers.{power_pos}
use Rattle.p3l_scan.proofs.Combining.{combines}
use Rattle.p3l_scan.proofs.Lawful.{times-some}
use Rattle.p3l_scan.proofs.Running.{first-leaf, given-same, halves-of, later-leaf}
use Rattle.p3l_scan.proofs.units.ScanUnits.step.Goals as goal

pub merge_halves-requires-clause-block : goal.merge_halves-requires-clause-block
merge_halves-requires-clause-block g c =
    let kept = c.self.invariant in
    let s = c.self.inside in
    let fits = c.requires.fits ∙ sym (ap (λ v. 2 ^ c.args.stage * v.words) c.self.view_is) in
    let later = c.if-stage-eq0.false in (
      2 ^ (c.args.stage - 1) * kept.size,
      times-some (2 ^ (c.args.stage - 1)) kept.size (power_pos (c.args.stage - 1)) kept.some_size,
      halves-of c.args.stage kept.size s.elem s.words (length c.args.block.now) (omega (arith, later)) kept.sized fits,
    )

pub returns-then-stage-eq0 : goal.returns-then-stage-eq0
returns-then-stage-eq0 g c =
    let kept = c.self.invariant in
    let s = c.self.inside in
    let fits = c.requires.fits ∙ sym (ap (λ v. 2 ^ c.args.stage * v.words) c.self.view_is) in
    let operator = item (g.U.Units.tree s.inner) (g.U.Units.leaf s.inner) s.op in
    let keeps = combines (g.U.Units.tree s.inner) (g.U.Units.leaf s.inner) (g.met.U.Units.gives_outs s.inner) s.op s.elem kept.operator in
    let some = let o = kept.operator in o.some in
    let zeroth = c.if-stage-eq0.true in
    let home : 2 ≡ step_node c.args.stage = omega (arith, zeroth) in
    let long : length c.args.block.now ≡ 2 ^ c.args.stage * kept.size * s.elem =
    fits ∙ ap (λ w. 2 ^ c.args.stage * w) kept.sized ∙ sym (mul_assoc (2 ^ c.args.stage) kept.size s.elem) in
    given-same _ c.scan.result _ _
    (first-leaf s.elem some operator keeps (2 ^ c.args.stage * kept.size) c.args.block.now long
    ∙ ap (λ h. step_leaf s.elem operator h c.args.block.now) home
    ∙ ap (λ v. step_leaf v.elem (item (g.U.Units.tree v.inner) (g.U.Units.leaf v.inner) v.op) (step_node c.args.stage)
    c.args.block.now) c.self.view_is)
    c.scan.ensures

pub returns-else-stage-eq0 : goal.returns-else-stage-eq0
returns-else-stage-eq0 g c =
    let kept = c.self.invariant in
    let s = c.self.inside in
    let fits = c.requires.fits ∙ sym (ap (λ v. 2 ^ c.args.stage * v.words) c.self.view_is) in
    let operator = item (g.U.Units.tree s.inner) (g.U.Units.leaf s.inner) s.op in
    let keeps = combines (g.U.Units.tree s.inner) (g.U.Units.leaf s.inner) (g.met.U.Units.gives_outs s.inner) s.op s.elem kept.operator in
    let some = let o = kept.operator in o.some in
    let later = c.if-stage-eq0.false in
    given-same _ c.merge_halves.result _ _
    (later-leaf s.elem some operator keeps (step_node c.args.stage) (2 ^ (c.args.stage - 1) * kept.size) c.args.block.now
    (omega (arith, later))
    (times-some (2 ^ (c.args.stage - 1)) kept.size (power_pos (c.args.stage - 1)) kept.some_size)
    (halves-of c.args.stage kept.size s.elem s.words (length c.args.block.now) (omega (arith, later)) kept.sized fits)
    ∙ ap (λ v. step_leaf v.elem (item (g.U.Units.tree v.inner) (g.U.Units.leaf v.inner) v.op) (step_node c.args.stage)
    c.args.block.now) c.self.view_is)
    c.merge_halves.ensures
