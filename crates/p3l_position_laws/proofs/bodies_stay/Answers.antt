use Rattle.p3l_position_laws.proofs.Meaning.{eval_same}
use Rattle.p3l_position_laws.proofs.bodies_stay.Goals as goal

pub returns : goal.returns
returns c = eval_same
