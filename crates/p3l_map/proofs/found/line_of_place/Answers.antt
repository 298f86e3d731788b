use Rattle.std.proofs.Common.{refl}
use Rattle.p3l_map.specs.Map.{spot}
use Rattle.p3l_map.proofs.found.line_of_place.Goals as goal

pub returns : goal.returns
unfolding spot
returns c = refl
