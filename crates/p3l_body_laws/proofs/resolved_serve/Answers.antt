use Rattle.p3l_body_laws.proofs.Resolved.{resolved_serve}
use Rattle.p3l_body_laws.proofs.resolved_serve.Goals as goal

pub returns : goal.returns
returns c = resolved_serve
