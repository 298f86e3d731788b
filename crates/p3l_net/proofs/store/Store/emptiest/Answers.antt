use Rattle.std.proofs.Common.{◌<◌, [], take, get_or, length, refl, sym, ap, ◌∙◌}
use Rattle.std.proofs.lemmas.List.{take_more}
use Rattle.p3l_firing.specs.kinds.Emit.{emptiest, better}
use Rattle.p3l_net.specs.Machine.{state_of}
use Rattle.p3l_net.proofs.Choosing.{emptiest-last}
use Rattle.p3l_firing.proofs.Places.{all-has, has-nth}
use Rattle.p3l_net.proofs.store.Store.emptiest.Goals as goal

pub loop-channel-init : goal.loop-channel-init
unfolding emptiest
loop-channel-init c = record { best = refl; inside = tt }

pub better-best-requires-clause-channel : goal.better-best-requires-clause-channel
better-best-requires-clause-channel c =
    all-has (λ x. x < length c.args.self.now.queues) c.args.channels.now c.requires.channels _ (has-nth c.args.channels.now c.loop-channel.channel-index c.loop-channel-test.true)

pub loop-channel-preserved : goal.loop-channel-preserved
loop-channel-preserved c =
    let net = c.args.self.now.net in
    let s = state_of c.args.self.now [] in
    record {
      best = c.better-best.ensures.better
          ∙ ap (λ z. better net s z (get_or c.args.channels.now c.loop-channel.channel-index 0)) c.loop-channel.invariant.best
          ∙ sym (emptiest-last net s (take c.loop-channel.channel-index c.args.channels.now) (get_or c.args.channels.now c.loop-channel.channel-index 0))
          ∙ ap (emptiest net s) (sym (take_more c.args.channels.now c.loop-channel.channel-index 0 c.loop-channel-test.true));
      inside = c.better-best.ensures.inside;
    }
