use Rattle.std.proofs.Common.{sym}
use Rattle.p3l_cert.proofs.Filling.{never_missing, filled_step, filled_within}
use Rattle.p3l_cert.proofs.fill.fill.Goals as goal

pub loop-left-preserved-in-Ok : goal.loop-left-preserved-in-Ok
loop-left-preserved-in-Ok c = record {
  filled = filled_step c.args.tree.now c.args.costs.now c.requires.tree c.requires.costs c.args.rows.now c.requires.closed c.loop-left.left c.loop-left.rows c.loop-left.invariant.filled c.loop-left-test.true c.loop-left.invariant.within c.in-Ok.least _ (sym c.in-Ok.ensures);
  within = filled_within c.args.tree.now c.args.costs.now c.requires.tree c.requires.costs c.args.rows.now c.requires.closed c.loop-left.left c.loop-left.rows c.loop-left.invariant.filled c.loop-left-test.true c.loop-left.invariant.within _;
}

pub loop-left-preserved : goal.loop-left-preserved
loop-left-preserved c =
    absurd (never_missing c.args.tree.now c.args.costs.now c.requires.tree c.requires.costs c.args.rows.now c.requires.closed c.loop-left.left c.loop-left.rows c.loop-left.invariant.filled c.loop-left-test.true c.loop-left.invariant.within c.in_default.field-0 (sym c.in_default.ensures))
