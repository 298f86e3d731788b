use Rattle.std.proofs.Common.{◌≡◌, ◌<◌, length, take, [], IfSome}
use Rattle.p3l_firing.specs.kinds.Emit.{emptiest}
use Rattle.p3l_net.specs.Machine.{state_of}
use Rattle.p3l_net.proofs.store.Store.emptiest.Given as goal

abbrev pub invariant-loop-channel : goal.invariant-loop-channel
invariant-loop-channel l =
    record { best : l.best ≡ emptiest l.self.net (state_of l.self []) (take l.channel-index l.channels); inside : IfSome l.best (λ b. b < length l.self.queues) }
