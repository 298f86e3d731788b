use Rattle.p3l_model.specs.laws.Outside.{root_outside}
use Rattle.p3l_advise.proofs.bottleneck.bottleneck.Goals as goal

pub service-time-requires-clause-outside : goal.service-time-requires-clause-outside
service-time-requires-clause-outside c = root_outside c.args.tree.now
