use Rattle.p3l_program.proofs.HeadlineSteps.{run_means}
use Rattle.p3l_program.proofs.headline.every_run_means_its_program.Goals as goal

pub returns : goal.returns
returns c = run_means c.one_command_at_most.ensures
