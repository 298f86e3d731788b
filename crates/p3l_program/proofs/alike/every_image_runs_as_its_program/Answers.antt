use Rattle.p3l_program.proofs.AlikeSteps.{run_alike}
use Rattle.p3l_program.proofs.alike.every_image_runs_as_its_program.Goals as goal

pub returns : goal.returns
returns c = run_alike c.every_image_has_its_programs_network.ensures
