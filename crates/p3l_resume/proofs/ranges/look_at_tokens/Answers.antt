use Rattle.std.proofs.Common.{subst, arith}
use Rattle.p3l_resume.specs.Ranges.{IsInRange}
use Rattle.p3l_resume.proofs.Seen.{all_seen, one_more}
use Rattle.p3l_resume.proofs.ranges.look_at_tokens.Goals as goal

pub loop-token-preserved : goal.loop-token-preserved
loop-token-preserved c =
    one_more IsInRange c.args.tokens.now c.loop-token.token-index c.token-item.result c.loop-token-test.true c.loop-token.invariant
    (subst IsInRange c.token-item.is c.look_at_token.ensures)

pub returns : goal.returns
returns c = all_seen IsInRange c.args.tokens.now c.loop-token.token-index (omega (arith, c.loop-token-test.false)) c.loop-token.invariant
