use Rattle.std.proofs.Common.{◌≡◌, map, take}
use Rattle.p3l_net.specs.Shot.{saved_queue}
use Rattle.p3l_net.proofs.channel.save_all.Given as goal

abbrev pub invariant-loop-channel : goal.invariant-loop-channel
invariant-loop-channel l = l.saved ≡ map saved_queue (take l.channel-index l.channels)
