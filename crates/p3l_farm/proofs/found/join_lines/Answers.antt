use Rattle.std.proofs.Common.{◌+◌, ◌++◌, drop, ap, ◌∙◌, arith}
use Rattle.p3l_farm.specs.Farm.{joined}
use Rattle.p3l_template.specs.Finding.{bares}
use Rattle.p3l_farm.proofs.FarmSteps.{joined_left, joined_end}
use Rattle.p3l_farm.proofs.found.join_lines.Goals as goal

pub loop-line-init : goal.loop-line-init
loop-line-init c = ap (λ z. z ++ bares (joined c.args.lines.now)) c.new-list.ensures

pub loop-line-preserved : goal.loop-line-preserved
loop-line-preserved c =
    ap (λ z. z ++ bares (joined (drop (c.loop-line.line-index + 1) c.args.lines.now)))
    (c.in_ok-add_bare.ensures ∙ ap (λ z. c.loop-line.list ++ bares z) c.as_slice.ensures)
    ∙ joined_left c.args.lines.now c.loop-line.line-index c.line-item.result c.loop-line.list c.loop-line-test.true c.line-item.is
    ∙ c.loop-line.invariant

pub returns : goal.returns
returns c = joined_end c.args.lines.now c.loop-line.line-index c.loop-line.list (omega (arith, c.loop-line-test.false)) ∙ c.loop-line.invariant
