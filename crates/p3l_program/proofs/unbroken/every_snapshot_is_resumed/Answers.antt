use Rattle.p3l_program.proofs.UnbrokenSteps.{resumed_always}
use Rattle.p3l_program.proofs.unbroken.every_snapshot_is_resumed.Goals as goal

pub returns : goal.returns
returns c = resumed_always
