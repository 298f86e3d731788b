use Rattle.p3l_program.proofs.DeterminedSteps.{one_network}
use Rattle.p3l_program.proofs.determined.every_program_has_one_network.Goals as goal

pub returns : goal.returns
returns c = one_network
