use Rattle.p3l_body_laws.proofs.Ordered.{body_compiles}
use Rattle.p3l_body_laws.proofs.body_compiles.Goals as goal

pub returns : goal.returns
returns c = body_compiles
