use Rattle.p3l_sketch.proofs.OneNode.{root_takes_one}
use Rattle.p3l_network_tests.proofs.running.fill.Goals as goal

pub offer-requires-clause-fits : goal.offer-requires-clause-fits
offer-requires-clause-fits c = root_takes_one _ _ _ c.requires c.in_ok-item_of.ensures
