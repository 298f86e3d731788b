use Rattle.p3l_skel.proofs.Greatest.{greatest_segments}
use Rattle.p3l_skel.proofs.laws.has_greatest_segments.Goals as goal

pub returns : goal.returns
returns c = greatest_segments c.args._tree.now c.requires
