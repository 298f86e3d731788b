use Rattle.p3l_body_laws.proofs.bodies_write.Goals as goal
use Rattle.p3l_body_laws.proofs.Programs.{bodies_write}

pub returns : goal.returns
returns c = bodies_write
