use Rattle.std.proofs.Common.{subst, arith}
use Rattle.p3l_firing.specs.declared.shot.Own.{Own}
use Rattle.p3l_resume.specs.Ranges.{AreInRange}
use Rattle.p3l_resume.proofs.Seen.{all_seen, one_more}
use Rattle.p3l_resume.proofs.ranges.look_at_owns.Goals as goal

pub loop-own-preserved : goal.loop-own-preserved
loop-own-preserved c =
    one_more (λ (own : Own). AreInRange own.held) c.args.owns.now c.loop-own.own-index c.own-item.result c.loop-own-test.true c.loop-own.invariant
    (subst (λ (own : Own). AreInRange own.held) c.own-item.is (subst AreInRange c.as_slice.ensures c.look_at_tokens.ensures))

pub returns : goal.returns
returns c = all_seen (λ (own : Own). AreInRange own.held) c.args.owns.now c.loop-own.own-index (omega (arith, c.loop-own-test.false)) c.loop-own.invariant
