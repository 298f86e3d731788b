use Rattle.p3l_firing.specs.Run.{course_from}
use Rattle.p3l_sched.proofs.PicksLaw.{reads_all, reads_no_more}
use Rattle.p3l_sched.proofs.laws.recorded_picks_are_read_to_the_end.Goals as goal

pub returns-clause-ends : goal.returns-clause-ends
returns-clause-ends c = λ tree leaf net s picks. reads_all tree leaf net picks (course_from s)

pub returns-clause-enough : goal.returns-clause-enough
returns-clause-enough c = λ tree leaf net s picks more. reads_no_more tree leaf net picks (course_from s) more
