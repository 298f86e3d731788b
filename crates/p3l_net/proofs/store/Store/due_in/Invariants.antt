use Rattle.std.proofs.Common.{◌≡◌, drop, []}
use Rattle.p3l_firing.specs.kinds.Collect.{due_in}
use Rattle.p3l_net.specs.Machine.{state_of}
use Rattle.p3l_net.proofs.store.Store.due_in.Given as goal

abbrev pub invariant-loop-channel : goal.invariant-loop-channel
invariant-loop-channel l =
    due_in (state_of l.self []) l.number (drop l.channel-index l.channels) ≡ due_in (state_of l.self []) l.number l.channels
