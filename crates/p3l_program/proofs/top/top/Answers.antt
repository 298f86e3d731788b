use Rattle.p3l_program.proofs.AnswerSteps.{promises}
use Rattle.p3l_program.proofs.top.top.Goals as goal

pub returns : goal.returns
returns g c = promises _ _ _ _ _ c.answer.ensures.answers c.one_command_at_most.ensures
