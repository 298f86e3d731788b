use Rattle.p3l_sched.proofs.Picking.{picks_from-ended, picks_from-next, picks_from-stuck}
use Rattle.p3l_sched.proofs.laws.picks_go_one_by_one.Goals as goal

pub returns-clause-next : goal.returns-clause-next
returns-clause-next c = picks_from-next

pub returns-clause-ended : goal.returns-clause-ended
returns-clause-ended c = picks_from-ended

pub returns-clause-stuck : goal.returns-clause-stuck
returns-clause-stuck c = picks_from-stuck
