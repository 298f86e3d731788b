use Rattle.p3l_compile.proofs.Leaves.{leaves_are_evals}
use Rattle.p3l_compile.proofs.units.leaves_are_evals.Goals as goal

pub returns : goal.returns
returns c = leaves_are_evals
