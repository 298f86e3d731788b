use Rattle.p3l_sched.proofs.Picking.{none_can, picked_ready}
use Rattle.p3l_sched.proofs.laws.picks_are_ready.Goals as goal

pub returns-clause-ready : goal.returns-clause-ready
returns-clause-ready c = picked_ready

pub returns-clause-stuck : goal.returns-clause-stuck
returns-clause-stuck c = none_can
