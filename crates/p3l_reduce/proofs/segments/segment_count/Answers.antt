use Rattle.std.proofs.Common.{arith}
use Rattle.p3l_reduce.proofs.Placing.{power_small}
use Rattle.p3l_reduce.proofs.segments.segment_count.Goals as goal

pub returns-clause-few : goal.returns-clause-few
returns-clause-few c = omega (arith, power_small c.args.level c.requires)
