use Rattle.std.proofs.Common.{◌≡◌, map, take}
use Rattle.p3l_firing.specs.Shot.{token_of}
use Rattle.p3l_net.proofs.channel.Channel.restore.Given as goal

abbrev pub invariant-loop-token : goal.invariant-loop-token
invariant-loop-token l = l.channel ≡ record { tokens = map token_of (take l.token-index l.saved); room = l.chan.cap }
