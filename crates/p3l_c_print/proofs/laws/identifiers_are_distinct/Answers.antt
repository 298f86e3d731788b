use Rattle.p3l_c_print.proofs.Identifiers.{distinct}
use Rattle.p3l_c_print.proofs.laws.identifiers_are_distinct.Goals as goal

pub returns : goal.returns
returns c = distinct
