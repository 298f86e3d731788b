use Rattle.std.proofs.Common.{subst, arith}
use Rattle.p3l_resume.specs.Ranges.{AreInRange}
use Rattle.p3l_resume.proofs.Seen.{all_seen, one_more}
use Rattle.p3l_resume.proofs.ranges.look_at_chans.Goals as goal

pub loop-tokens-preserved : goal.loop-tokens-preserved
loop-tokens-preserved c =
    one_more AreInRange c.args.chans.now c.loop-tokens.tokens-index c.tokens-item.result c.loop-tokens-test.true c.loop-tokens.invariant
    (subst AreInRange c.tokens-item.is (subst AreInRange c.as_slice.ensures c.look_at_tokens.ensures))

pub returns : goal.returns
returns c = all_seen AreInRange c.args.chans.now c.loop-tokens.tokens-index (omega (arith, c.loop-tokens-test.false)) c.loop-tokens.invariant
