-- By the law of the joins.
use Rattle.p3l_reduce.proofs.Whole.{joins_whole}
use Rattle.p3l_reduce.proofs.reduce.joins_fold_the_whole.Goals as goal

pub returns : goal.returns
returns c = joins_whole
