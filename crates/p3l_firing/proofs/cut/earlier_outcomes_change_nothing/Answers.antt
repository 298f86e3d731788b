use Rattle.p3l_firing.proofs.EarlierLaw.{run-earlier}
use Rattle.p3l_firing.proofs.cut.earlier_outcomes_change_nothing.Goals as goal

pub returns : goal.returns
returns c = λ tree leaf net earlier s picks untrapped. run-earlier earlier tree leaf net untrapped s picks
