use Rattle.p3l_rewrite.proofs.Programs.{programs_resolve}
use Rattle.p3l_rewrite.proofs.laws.rewritten_programs_resolve.Goals as goal

pub returns : goal.returns
returns c = programs_resolve
