use Rattle.std.proofs.Common.{◌≡◌, ◌^◌, min, sym, ap, ◌∙◌, arith}
use Rattle.p3l_model.specs.Least.{least_over}
use Rattle.p3l_cert.specs.Rule.{segments_step, segments_rule}
use Rattle.p3l_cert.proofs.Powers.{shifted}
use Rattle.p3l_cert.proofs.Steps.{over_more}
use Rattle.p3l_cert.proofs.rule.segments_rule.Goals as goal

pub segments_step-requires-clause-few : goal.segments_step-requires-clause-few
segments_step-requires-clause-few c = let p = shifted c.loop-power.power (omega arith) in omega (arith, p.0, p.1)

pub loop-power-preserved : goal.loop-power-preserved
loop-power-preserved c =
    let p = shifted c.loop-power.power (omega arith) in
    let step : segments_step c.args.span c.args.fold.now c.args.bound c.args.cap (2 ^ c.loop-power.power) ≡ c.segments_step.result = ap (segments_step c.args.span c.args.fold.now c.args.bound c.args.cap) (sym p.0) ∙ sym c.segments_step.ensures in
    let best : min c.loop-power.best c.segments_step.result ≡ c.min-best.result = omega arith in
    record {
      so_far = over_more (λ k. segments_step c.args.span c.args.fold.now c.args.bound c.args.cap (2 ^ k)) c.loop-power.power c.args.cap c.loop-power.best c.segments_step.result c.loop-power.invariant.so_far step ∙ best;
      end = omega arith;
    }

pub returns : goal.returns
unfolding segments_rule
returns c =
    let most = c.loop-power.invariant.end in
    let end : c.loop-power.power ≡ 10 = omega arith in
    sym c.loop-power.invariant.so_far ∙ ap (λ k. least_over (λ j. segments_step c.args.span c.args.fold.now c.args.bound c.args.cap (2 ^ j)) 0 k c.args.cap) end
