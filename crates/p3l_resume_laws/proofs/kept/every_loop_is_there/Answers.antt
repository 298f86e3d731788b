use Rattle.p3l_resume_laws.proofs.LoopsThere.{loops_there}
use Rattle.p3l_resume_laws.proofs.kept.every_loop_is_there.Goals as goal

pub returns : goal.returns
returns c = loops_there
