use Rattle.p3l_firing.proofs.FittingWays.{fitting_way}
use Rattle.p3l_firing.proofs.row.{fitting_first, fitting_fired}
use Rattle.p3l_firing.proofs.laws.every_firing_keeps_words_and_tags.Goals as goal

pub returns-clause-first : goal.returns-clause-first
returns-clause-first c = fitting_first

pub returns-clause-fired : goal.returns-clause-fired
returns-clause-fired c = λ tree leaf net typed s p gives fit can. fitting_fired tree leaf gives net typed s fit p can

pub returns-clause-ways : goal.returns-clause-ways
returns-clause-ways c = λ tree leaf net typed s t p gives fit way. fitting_way tree leaf gives net typed s fit p t way
