use Rattle.p3l_resume_laws.proofs.LinkedLaw.{resumed_emits}
use Rattle.p3l_resume_laws.proofs.linked.every_resumed_run_emits_what_is_left.Goals as goal

pub returns : goal.returns
returns c = resumed_emits
