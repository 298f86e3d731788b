use Rattle.std.proofs.Common.{refl}
use Rattle.p3l_program.proofs.SoundSteps.{linked_network, linked_ready}
use Rattle.p3l_program.proofs.plan.link_allotted.Goals as goal

pub returns : goal.returns
returns c = record {
  ready = linked_ready c.args.loaded c.args.capacity c.requires.ready c.requires.some c.in_ok-net.net c.in_ok-net.ensures.net c.in_ok-net.ensures.typed;
  network = linked_network c.args.loaded c.args.capacity c.requires.ready c.requires.some c.in_ok-net.net c.in_ok-net.ensures.net;
  tree = refl;
  costs = refl;
}
