use Rattle.p3l_firing.proofs.RoundRobinLaw.{after_picks-more, round_robin-some, round_robin-none, never_idle}
use Rattle.p3l_firing.proofs.laws.runs_go_pick_by_pick.Goals as goal

pub returns-clause-more : goal.returns-clause-more
returns-clause-more c = after_picks-more

pub returns-clause-next : goal.returns-clause-next
returns-clause-next c = round_robin-some

pub returns-clause-end : goal.returns-clause-end
returns-clause-end c = round_robin-none

pub returns-clause-busy : goal.returns-clause-busy
returns-clause-busy c = λ tree leaf net items most. never_idle tree leaf net most _ 0
