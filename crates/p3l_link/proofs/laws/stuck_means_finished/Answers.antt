use Rattle.p3l_link.proofs.LinkedLaws.{stuck_empty, run_finished, round_robin_ends}
use Rattle.p3l_link.proofs.laws.stuck_means_finished.Goals as goal

pub returns-clause-state : goal.returns-clause-state
returns-clause-state c = stuck_empty

pub returns-clause-run : goal.returns-clause-run
returns-clause-run c = run_finished

pub returns-clause-ends : goal.returns-clause-ends
returns-clause-ends c = round_robin_ends
