use Rattle.std.proofs.Common.{◌-◌, map, arith, ap, ap₂, sym, ◌∙◌}
use Rattle.p3l_base.specs.declared.outcome.Outcome.TheVariants.{Value}
use Rattle.p3l_skel.specs.Item.{item, pieces}
use Rattle.p3l_scan.specs.Plan.{step_node}
use Rattle.p3l_scan.specs.Row.{in_row, with_next}
use Rattle.p3l_scan.specs.Step.{step_leaf}
use Rattle.p3l_scan.proofs.Running.{given-row, row-none, row-step}
use Rattle.p3l_scan.proofs.units.+row_outcome.Goals as goal

pub returns-then-blocks-eq0 : goal.returns-then-blocks-eq0
returns-then-blocks-eq0 g t c =
    let u = c.args.units.now in
    let f = step_leaf u.elem (item (g.U.Units.tree u.inner) (g.U.Units.leaf u.inner) u.op) (step_node c.args.stage) in
    let none = c.if-blocks-eq0.true in
    ap Value c.new.ensures ∙ row-none f c.args.blocks c.args.size c.args.words.now (omega (arith, none))

pub returns : goal.returns
returns g t c =
    let u = c.args.units.now in
    let f = step_leaf u.elem (item (g.U.Units.tree u.inner) (g.U.Units.leaf u.inner) u.op) (step_node c.args.stage) in
    let some = c.if-blocks-eq0.false in
    given-row _ c.paired.result c.in_ok-first.first c.in_ok-rest.rest c.paired.ensures _
    (ap₂ with_next (c.in_ok-first.ensures ∙ ap f c.split_at.ensures.front)
    (c.in_ok-rest.ensures ∙ ap (λ ws. in_row (map f (pieces (c.args.blocks - 1) c.args.size ws))) c.split_at.ensures.back)
    ∙ sym (row-step f c.args.blocks c.args.size c.args.words.now (omega (arith, some))))
