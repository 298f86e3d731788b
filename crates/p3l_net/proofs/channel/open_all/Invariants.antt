use Rattle.std.proofs.Common.{◌≡◌, map, take}
use Rattle.p3l_net.specs.Channel.{opened}
use Rattle.p3l_net.proofs.channel.open_all.Given as goal

abbrev pub invariant-loop-chan : goal.invariant-loop-chan
invariant-loop-chan l = l.channels.items ≡ map opened (take l.chan-index l.chans)
