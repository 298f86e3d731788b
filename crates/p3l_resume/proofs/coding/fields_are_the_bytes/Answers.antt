use Rattle.p3l_resume.specs.Places.{saved_fields}
use Rattle.p3l_resume.specs.laws.Places.{placed_saved}
use Rattle.p3l_resume.proofs.coding.fields_are_the_bytes.Goals as goal

pub returns : goal.returns
unfolding saved_fields
returns c = placed_saved.joined
