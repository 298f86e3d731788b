use Rattle.p3l_image.specs.Places.{image_fields}
use Rattle.p3l_image.specs.laws.Places.{placed_image}
use Rattle.p3l_image.proofs.coding.fields_are_the_bytes.Goals as goal

pub returns : goal.returns
unfolding image_fields
returns c = placed_image.joined
