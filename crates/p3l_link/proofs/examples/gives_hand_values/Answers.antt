use Rattle.p3l_link.proofs.Hand.{hand_values}
use Rattle.p3l_link.proofs.examples.gives_hand_values.Goals as goal

pub returns : goal.returns
returns c = hand_values
