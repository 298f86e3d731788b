use Rattle.p3l_rewrite.proofs.Trees.{comp_is_its_pipe}
use Rattle.p3l_rewrite.proofs.laws.comp_is_its_pipe.Goals as goal

pub returns : goal.returns
returns c = comp_is_its_pipe
