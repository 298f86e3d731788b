use Rattle.p3l_body_laws.proofs.bodies_mean.Goals as goal
use Rattle.p3l_body_laws.proofs.Programs.{bodies_mean}

pub returns : goal.returns
returns c = bodies_mean
