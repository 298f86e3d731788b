use Rattle.p3l_firing.proofs.SingleTyped.{unit_net_typed}
use Rattle.p3l_firing.proofs.laws.the_net_of_one_unit_is_typed.Goals as goal

pub returns : goal.returns
returns c = unit_net_typed
