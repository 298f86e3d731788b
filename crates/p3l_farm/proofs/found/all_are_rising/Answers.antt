use Rattle.std.proofs.Common.{◌+◌, ◌&&◌, drop, sym, ap, ◌∙◌, arith}
use Rattle.p3l_farm.specs.Farm.{all_rising, rising}
use Rattle.p3l_farm.proofs.FarmSteps.{rising_left, rising_end}
use Rattle.p3l_farm.proofs.found.all_are_rising.Goals as goal

pub returns-then-not-are_rising : goal.returns-then-not-are_rising
returns-then-not-are_rising c =
    sym (c.loop-line.invariant ∙ rising_left c.args.lines.now c.loop-line.line-index c.line-item.result c.loop-line-test.true c.line-item.is
    ∙ ap (λ b. b && all_rising (drop (c.loop-line.line-index + 1) c.args.lines.now)) (sym (c.are_rising.ensures ∙ ap rising c.as_slice.ensures) ∙ c.if-not-are_rising.true))

pub loop-line-preserved : goal.loop-line-preserved
loop-line-preserved c =
    c.loop-line.invariant ∙ rising_left c.args.lines.now c.loop-line.line-index c.line-item.result c.loop-line-test.true c.line-item.is
    ∙ ap (λ b. b && all_rising (drop (c.loop-line.line-index + 1) c.args.lines.now)) (sym (c.are_rising.ensures ∙ ap rising c.as_slice.ensures) ∙ c.if-not-are_rising.false)

pub returns : goal.returns
returns c = sym (c.loop-line.invariant ∙ rising_end c.args.lines.now c.loop-line.line-index (omega (arith, c.loop-line-test.false)))
