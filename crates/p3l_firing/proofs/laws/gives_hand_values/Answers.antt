use Rattle.p3l_firing.proofs.Hand.{hand_values}
use Rattle.p3l_firing.proofs.laws.gives_hand_values.Goals as goal

pub returns : goal.returns
returns c = hand_values
