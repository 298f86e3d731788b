use Rattle.p3l_model.specs.laws.Outside.{root_outside}
use Rattle.p3l_load.proofs.loader.is_whole.Goals as goal

pub procs-requires-clause-outside : goal.procs-requires-clause-outside
procs-requires-clause-outside c = root_outside c.args.image.now.tree
