use Rattle.p3l_position_laws.proofs.Programs.{resolved_settles}
use Rattle.p3l_position_laws.proofs.programs_settle.Goals as goal

pub returns : goal.returns
returns c = resolved_settles
