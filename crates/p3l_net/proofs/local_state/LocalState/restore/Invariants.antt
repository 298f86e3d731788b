use Rattle.std.proofs.Common.{◌≡◌, ◌≤◌, map, take}
use Rattle.std.specs.Prelude.{vec_capacity}
use Rattle.p3l_firing.specs.Shot.{token_of}
use Rattle.p3l_net.proofs.local_state.LocalState.restore.Given as goal

abbrev pub invariant-loop-token : goal.invariant-loop-token
invariant-loop-token l =
    record {
      tokens : l.held.items ≡ map token_of (take l.token-index l.tokens);
      room : 1 ≤ vec_capacity l.held;
    }
