use Rattle.p3l_sched.proofs.PicksLaw.{made_enough, made_stuck}
use Rattle.p3l_sched.proofs.laws.picks_that_are_made_lead_to_the_end.Goals as goal

pub returns-clause-ends : goal.returns-clause-ends
returns-clause-ends c = λ tree leaf net firings invariants s way most laws orderly made enough.
    made_stuck tree leaf net firings invariants laws s orderly way made most enough

pub returns-clause-enough : goal.returns-clause-enough
returns-clause-enough c = λ tree leaf net firings invariants s way most more laws orderly made enough.
    made_enough tree leaf net firings invariants laws s orderly way made most enough more
