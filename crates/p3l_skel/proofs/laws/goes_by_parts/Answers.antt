use Rattle.p3l_skel.proofs.Depth.{item-by_parts}
use Rattle.p3l_skel.proofs.laws.goes_by_parts.Goals as goal

pub returns : goal.returns
returns g c = λ node words inside. item-by_parts _ _ c.requires node words inside
