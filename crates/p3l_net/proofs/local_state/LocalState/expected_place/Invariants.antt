use Rattle.p3l_net.proofs.Held.{Passed}
use Rattle.p3l_net.proofs.local_state.LocalState.expected_place.Given as goal

abbrev pub invariant-loop-k : goal.invariant-loop-k
invariant-loop-k l = Passed l.self.number l.self.held l.k
