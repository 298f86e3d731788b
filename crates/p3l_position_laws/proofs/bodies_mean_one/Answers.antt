use Rattle.p3l_position_laws.proofs.Leaves.{one_meaning}
use Rattle.p3l_position_laws.proofs.bodies_mean_one.Goals as goal

pub returns : goal.returns
returns c = one_meaning
