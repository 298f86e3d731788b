use Rattle.p3l_image.specs.Net.{proc_number}
use Rattle.p3l_image.proofs.net.read_kind.Goals as goal

pub returns : goal.returns
returns c = c.read_one_of.ensures proc_number
