use Rattle.p3l_program.proofs.JoinedSteps.{blocks}
use Rattle.p3l_program.proofs.joined.blocks_join.Goals as goal

pub returns : goal.returns
returns c = blocks
