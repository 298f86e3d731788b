use Rattle.p3l_firing.proofs.ChoiceLaw.{emptiest_is, due_in_is}
use Rattle.p3l_firing.proofs.laws.channels_are_chosen.Goals as goal

pub returns-clause-emit : goal.returns-clause-emit
returns-clause-emit c = emptiest_is

pub returns-clause-collect : goal.returns-clause-collect
returns-clause-collect c = due_in_is
