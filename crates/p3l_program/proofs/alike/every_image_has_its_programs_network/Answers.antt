use Rattle.p3l_program.proofs.AlikeSteps.{has_network}
use Rattle.p3l_program.proofs.alike.every_image_has_its_programs_network.Goals as goal

pub returns : goal.returns
returns c = has_network c.resolved_serve.ensures c.image_begins_no_other.ensures
