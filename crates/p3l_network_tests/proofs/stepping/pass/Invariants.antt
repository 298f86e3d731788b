use Rattle.std.proofs.Common.{◌≡◌}
use Rattle.p3l_link.specs.Net.{linked_net}
use Rattle.p3l_network_tests.proofs.stepping.pass.Given as goal

abbrev pub invariant-loop-step : goal.invariant-loop-step
invariant-loop-step g l =
    record {
      tree : l.machine.tree ≡ l.network.tree.now;
      net : l.machine.net ≡ linked_net l.network.tree.now l.network.counts.now.list 1;
    }
