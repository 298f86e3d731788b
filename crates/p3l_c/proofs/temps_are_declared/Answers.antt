use Rattle.p3l_c.proofs.Temps.{temps_are_declared}
use Rattle.p3l_c.proofs.temps_are_declared.Goals as goal

pub returns : goal.returns
returns c = temps_are_declared
