use Rattle.p3l_body_laws.proofs.Ordered.{bodies_compile}
use Rattle.p3l_body_laws.proofs.bodies_compile.Goals as goal

pub returns : goal.returns
returns c = bodies_compile
