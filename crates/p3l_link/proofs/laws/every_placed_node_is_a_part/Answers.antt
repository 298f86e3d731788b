use Rattle.p3l_link.proofs.LinkedLaws.{node_does, root_part_is}
use Rattle.p3l_link.proofs.Sound.{placed_part}
use Rattle.p3l_link.proofs.laws.every_placed_node_is_a_part.Goals as goal

pub returns-clause-placed : goal.returns-clause-placed
returns-clause-placed c = placed_part

pub returns-clause-means : goal.returns-clause-means
returns-clause-means c = node_does

pub returns-clause-root : goal.returns-clause-root
returns-clause-root c = root_part_is
