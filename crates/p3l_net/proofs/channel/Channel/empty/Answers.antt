use Rattle.p3l_net.proofs.Rings.{rings-empty, queue-empty}
use Rattle.p3l_net.proofs.channel.Channel.empty.Goals as goal

pub invariant_of-result : goal.invariant_of-result
invariant_of-result c = rings-empty _ _ _ c.in_ok-slots.ensures c.in_ok-tags.ensures

pub returns : goal.returns
returns c = queue-empty _ _ _ c.in_ok-slots.ensures c.in_ok-tags.ensures
