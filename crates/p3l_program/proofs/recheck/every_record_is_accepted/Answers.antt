use Rattle.p3l_program.proofs.RecheckSteps.{accepted}
use Rattle.p3l_program.proofs.recheck.every_record_is_accepted.Goals as goal

pub returns : goal.returns
returns c = accepted c.text_begins_no_other.ensures
