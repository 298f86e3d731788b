use Rattle.p3l_resume_laws.proofs.LinkedLaw.{both_bounded, resumed_bounded, resumed_ends}
use Rattle.p3l_resume_laws.proofs.linked.resumed_firings_are_bounded.Goals as goal

pub returns-clause-resumed : goal.returns-clause-resumed
returns-clause-resumed c = resumed_bounded

pub returns-clause-ends : goal.returns-clause-ends
returns-clause-ends c = resumed_ends

pub returns-clause-both : goal.returns-clause-both
returns-clause-both c = both_bounded
