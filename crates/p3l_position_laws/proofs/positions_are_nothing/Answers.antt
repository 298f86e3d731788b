use Rattle.p3l_position_laws.proofs.Alike.{positions_are_nothing}
use Rattle.p3l_position_laws.proofs.positions_are_nothing.Goals as goal

pub returns : goal.returns
returns c = positions_are_nothing
