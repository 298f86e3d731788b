use Rattle.p3l_link.specs.NodeLaw.{kind_found}
use Rattle.p3l_orderly.proofs.laws.what_is_found_is_what_the_part_is.Goals as goal

pub returns : goal.returns
returns c = kind_found
