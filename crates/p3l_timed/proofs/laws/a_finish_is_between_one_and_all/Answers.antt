use Rattle.p3l_timed.proofs.TimedLaw.{timed_within}
use Rattle.p3l_timed.proofs.laws.a_finish_is_between_one_and_all.Goals as goal

pub returns : goal.returns
returns c = timed_within
