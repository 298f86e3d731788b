use Rattle.p3l_program.proofs.ReplaySteps.{replayed}
use Rattle.p3l_program.proofs.replay.every_timed_run_is_replayed.Goals as goal

pub returns : goal.returns
returns c = replayed
