use Rattle.std.proofs.Common.{rules}
use Rattle.p3l_network_tests.proofs.OneNode.{typed_there}
use Rattle.p3l_network_tests.proofs.running.machine_of.Goals as goal

pub start-requires : goal.start-requires
start-requires g c = typed_there _ _ c.the_net_of_one_unit_is_typed.ensures (c.lawful_tree.ensures.0 (search rules)) c.requires c.in_ok-net.ensures
