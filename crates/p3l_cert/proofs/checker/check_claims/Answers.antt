use Rattle.p3l_model.specs.laws.Outside.{root_outside}
use Rattle.p3l_cert.proofs.checker.check_claims.Goals as goal

pub service-requires-clause-outside : goal.service-requires-clause-outside
service-requires-clause-outside c = root_outside c.args.tree.now

pub procs-requires-clause-outside : goal.procs-requires-clause-outside
procs-requires-clause-outside c = root_outside c.args.tree.now
