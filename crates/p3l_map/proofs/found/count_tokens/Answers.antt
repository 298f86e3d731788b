use Rattle.std.proofs.Common.{◌≡◌, ◌+◌, length, refl, ◌∙◌, arith}
use Rattle.p3l_map.specs.Places.{total}
use Rattle.p3l_map.proofs.MapSteps.{count_more}
use Rattle.p3l_map.proofs.found.count_tokens.Goals as goal

pub loop-line-init : goal.loop-line-init
unfolding total
loop-line-init c = (refl, omega arith)

pub loop-line-preserved : goal.loop-line-preserved
loop-line-preserved c =
    let counted = c.loop-line.invariant.0 in
    let few = c.loop-line.invariant.1 in
    let more : c.loop-line.count + c.len.result ≡ c.loop-line.count + length c.line-item.result = omega (arith, c.len.ensures) in (
      more ∙ count_more c.args.lines.now c.loop-line.line-index c.loop-line.count c.line-item.result c.loop-line-test.true c.line-item.is counted,
      omega (arith, few),
    )
