use Rattle.p3l_timed.proofs.TimedLaw.{timed_is_run}
use Rattle.p3l_timed.proofs.laws.a_timed_run_is_a_run.Goals as goal

pub returns : goal.returns
returns c = timed_is_run
