use Rattle.std.proofs.Common.{arith}
use Rattle.p3l_timed.proofs.Keeping.{greater_step, greatest_end}
use Rattle.p3l_timed.proofs.greatest.greatest.Goals as goal

pub loop-p-preserved : goal.loop-p-preserved
loop-p-preserved c =
    let was = c.loop-p.invariant in
    let step = greater_step c.args.totals.now c.loop-p.best c.loop-p.p c.greater-best.result was.there was.most was.first c.greater-best.ensures.more c.greater-best.ensures.no_more in
    let some = was.some in
    let test = c.loop-p-test.true in
    record { some = omega (arith, some); there = step.0; inside = omega (arith, test); most = step.1; first = step.2 }

pub returns : goal.returns
returns c =
    let was = c.loop-p.invariant in
    let stop = c.loop-p-test.false in
    greatest_end c.args.totals.now c.loop-p.best c.loop-p.p was.there was.inside (omega (arith, stop)) was.most was.first
