use Rattle.p3l_run_tests.proofs.OneNode.{one_typed}
use Rattle.p3l_run_tests.proofs.feeding.machine_of.Goals as goal

pub start-requires : goal.start-requires
start-requires c = one_typed c.args.tree.now c.in_ok-net.net c.the_net_of_one_unit_is_typed.ensures c.requires c.in_ok-net.ensures
