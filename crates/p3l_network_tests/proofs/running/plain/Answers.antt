use Rattle.std.proofs.Common.{length, ap}
use Rattle.p3l_sketch.proofs.OneNode.{node_there, word_fits}
use Rattle.p3l_network_tests.proofs.running.plain.Goals as goal

pub item_outcome-requires-clause-there : goal.item_outcome-requires-clause-there
item_outcome-requires-clause-there g c = node_there _ c.requires.tree

pub item_outcome-requires-clause-fits : goal.item_outcome-requires-clause-fits
item_outcome-requires-clause-fits g c = word_fits _ _ c.requires.tree (ap length c.in_ok-item.ensures)
