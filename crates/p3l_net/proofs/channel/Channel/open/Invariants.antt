use Rattle.std.proofs.Common.{◌≡◌, replicate}
use Rattle.p3l_firing.specs.Token.{credit}
use Rattle.p3l_net.specs.Rings.{AreRings, queue_in}
use Rattle.p3l_net.proofs.channel.Channel.open.Given as goal

abbrev pub invariant-loop : goal.invariant-loop
invariant-loop l =
    record {
      queue : queue_in l.channel-inside.slots l.channel-inside.tags ≡ record { tokens = replicate l.counter credit; room = l.chan.cap };
      rings : AreRings l.channel-inside.slots l.channel-inside.tags;
    }
