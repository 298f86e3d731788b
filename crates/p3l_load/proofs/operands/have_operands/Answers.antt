use Rattle.std.proofs.Common.{arith, subst}
use Rattle.p3l_load.specs.Written.{HasAllOperands}
use Rattle.p3l_load.proofs.Seen.{all_seen, one_more}
use Rattle.p3l_load.proofs.operands.have_operands.Goals as goal

pub loop-code-preserved : goal.loop-code-preserved
loop-code-preserved c =
    let codes = c.args.codes.now in
    one_more HasAllOperands codes c.loop-code.code-index c.code-item.result c.loop-code-test.true c.loop-code.invariant
    (subst HasAllOperands c.code-item.is c.look_through.ensures)

pub returns : goal.returns
returns c = all_seen HasAllOperands c.args.codes.now c.loop-code.code-index (omega (arith, c.loop-code-test.false)) c.loop-code.invariant
