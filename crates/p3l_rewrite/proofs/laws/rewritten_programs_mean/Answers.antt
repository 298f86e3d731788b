use Rattle.p3l_rewrite.proofs.Programs.{programs_mean}
use Rattle.p3l_rewrite.proofs.laws.rewritten_programs_mean.Goals as goal

pub returns : goal.returns
returns c = programs_mean
