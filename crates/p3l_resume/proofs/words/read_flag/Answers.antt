use Rattle.p3l_tree_format.specs.Rescue.{flag_number}
use Rattle.p3l_resume.proofs.words.read_flag.Goals as goal

pub returns : goal.returns
returns c = c.read_one_of.ensures flag_number
