use Rattle.p3l_c.proofs.Nesting.{lines_are_flat}
use Rattle.p3l_c.proofs.lines_are_flat.Goals as goal

pub returns : goal.returns
returns c = lines_are_flat
