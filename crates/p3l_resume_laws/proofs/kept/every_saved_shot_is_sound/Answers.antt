use Rattle.p3l_resume_laws.proofs.KeptLaw.{saved_sound}
use Rattle.p3l_resume_laws.proofs.kept.every_saved_shot_is_sound.Goals as goal

pub returns : goal.returns
returns c = saved_sound
