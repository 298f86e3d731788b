use Rattle.std.proofs.Common.{◌≡◌}
use Rattle.p3l_sketch.specs.OneNode.{one_node}
use Rattle.p3l_network_tests.proofs.running.run.Given as goal

abbrev pub invariant-loop-pick : goal.invariant-loop-pick
invariant-loop-pick g l = l.machine.tree ≡ one_node
