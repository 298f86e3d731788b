use Rattle.p3l_link.proofs.LinkedLaws.{net_has_invariants}
use Rattle.p3l_link.proofs.laws.every_linked_net_has_invariants.Goals as goal

pub returns : goal.returns
returns c = net_has_invariants
