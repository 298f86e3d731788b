use Rattle.p3l_resume_laws.proofs.StartLaw.{shot_goes_on}
use Rattle.p3l_resume_laws.proofs.start.every_orderly_shot_goes_on.Goals as goal

pub returns : goal.returns
returns c = shot_goes_on
