use Rattle.std.proofs.Common.{◌∙◌}
use Rattle.p3l_sketch.proofs.OneNode.{takes_one}
use Rattle.p3l_run_tests.proofs.OneNode.{one_sound}
use Rattle.p3l_run_tests.proofs.network.run_on.Goals as goal

pub run-requires-clause-sound : goal.run-requires-clause-sound
run-requires-clause-sound g c =
    one_sound c.in_ok-tree.tree c.in_ok-net.net (g.U.Units.leaf c.args.units.now) c.the_net_of_one_unit_is_typed.ensures c.the_net_of_one_unit_has_invariants.ensures c.in_ok-tree.ensures c.in_ok-net.ensures

pub run-requires-clause-width : goal.run-requires-clause-width
run-requires-clause-width g c = takes_one c.in_ok-tree.tree c.in_ok-tree.ensures
