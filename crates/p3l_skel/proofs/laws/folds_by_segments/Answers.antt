use Rattle.p3l_skel.proofs.Folds.{tree_fold-segments}
use Rattle.p3l_skel.proofs.laws.folds_by_segments.Goals as goal

pub returns : goal.returns
returns c = tree_fold-segments
