use Rattle.std.proofs.Common.{arith, subst}
use Rattle.p3l_load.specs.Written.{HasRescueInRange}
use Rattle.p3l_load.proofs.Seen.{all_seen, one_more}
use Rattle.p3l_load.proofs.rescues.have_rescues.Goals as goal

pub loop-info-preserved : goal.loop-info-preserved
loop-info-preserved c =
    let modules = c.args.modules.now in
    one_more HasRescueInRange modules c.loop-info.info-index c.info-item.result c.loop-info-test.true c.loop-info.invariant
    (subst HasRescueInRange c.info-item.is c.look_at.ensures)

pub returns : goal.returns
returns c = all_seen HasRescueInRange c.args.modules.now c.loop-info.info-index (omega (arith, c.loop-info-test.false)) c.loop-info.invariant
