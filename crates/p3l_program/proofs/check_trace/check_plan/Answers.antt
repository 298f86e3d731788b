use Rattle.std.proofs.Common.{◌||◌}
use Rattle.p3l_program.proofs.check_trace.check_plan.Goals as goal

pub returns-clause-wants : goal.returns-clause-wants
returns-clause-wants g c = c.agreed.ensures.wants (g.U.Units.may_want || g.F.Files.may_want)
