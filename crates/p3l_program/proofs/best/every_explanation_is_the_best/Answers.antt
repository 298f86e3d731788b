use Rattle.p3l_program.proofs.BestSteps.{explains_best}
use Rattle.p3l_program.proofs.best.every_explanation_is_the_best.Goals as goal

pub returns : goal.returns
returns c = explains_best c.one_command_at_most.ensures
