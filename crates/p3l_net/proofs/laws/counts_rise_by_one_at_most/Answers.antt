use Rattle.p3l_net.proofs.CountLaw.{numbers_rise, sent_rises}
use Rattle.p3l_net.proofs.laws.counts_rise_by_one_at_most.Goals as goal

pub returns-clause-numbers : goal.returns-clause-numbers
returns-clause-numbers c = numbers_rise

pub returns-clause-sent : goal.returns-clause-sent
returns-clause-sent c = sent_rises
