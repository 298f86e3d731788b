use Rattle.p3l_model.proofs.Deep.{timed_outside}
use Rattle.p3l_model.proofs.service_time.service.Goals as goal

pub service_from-requires-clause-timed : goal.service_from-requires-clause-timed
service_from-requires-clause-timed c =
    timed_outside c.args.tree.now c.args.costs.now c.args.counts.now.list c.args.node c.requires.tree c.requires.costs c.requires.counts c.requires.outside
