use Rattle.p3l_firing.proofs.CutLaw.{unbroken}
use Rattle.p3l_firing.proofs.cut.saved_and_resumed_is_unbroken.Goals as goal

pub returns : goal.returns
returns c = unbroken
