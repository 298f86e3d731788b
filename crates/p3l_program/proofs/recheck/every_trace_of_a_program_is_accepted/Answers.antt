use Rattle.p3l_program.proofs.RecheckSteps.{accepted_of_program}
use Rattle.p3l_program.proofs.recheck.every_trace_of_a_program_is_accepted.Goals as goal

pub returns : goal.returns
returns c = accepted_of_program c.text_begins_no_other.ensures
