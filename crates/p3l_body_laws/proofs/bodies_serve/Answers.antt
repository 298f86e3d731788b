use Rattle.p3l_body_laws.proofs.Ordered.{bodies_serve}
use Rattle.p3l_body_laws.proofs.bodies_serve.Goals as goal

pub returns : goal.returns
returns c = bodies_serve
