use Rattle.std.proofs.Common.{arith}
use Rattle.p3l_run.proofs.Steps.{root_there}
use Rattle.p3l_run.proofs.sampling.width_of.Goals as goal

pub returns-in-None-clause-width : goal.returns-in-None-clause-width
returns-in-None-clause-width c = let there = root_there c.args.tree.now c.requires in absurd (omega (arith, c.in-None.ensures.past, there))
