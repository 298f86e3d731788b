use Rattle.p3l_run.proofs.StoppedSteps as stopped
use Rattle.p3l_run.proofs.laws.only_recorded_picks_stop.Goals as goal

pub returns : goal.returns
returns c = stopped.only_recorded_picks_stop
