use Rattle.std.proofs.Common.{◌≡◌, take}
use Rattle.p3l_net.specs.Shot.{queues_of}
use Rattle.p3l_net.proofs.channel.restore_all.Given as goal

abbrev pub invariant-loop-c : goal.invariant-loop-c
invariant-loop-c l = l.channels.items ≡ queues_of (take l.c l.chans) (take l.c l.saved)
