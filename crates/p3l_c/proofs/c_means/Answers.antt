use Rattle.p3l_c.proofs.c_means.Goals as goal
use Rattle.p3l_c.proofs.Meant.{c_means}

pub returns : goal.returns
returns c = c_means
