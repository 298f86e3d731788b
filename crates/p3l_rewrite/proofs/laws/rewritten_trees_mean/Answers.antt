use Rattle.p3l_rewrite.proofs.Trees.{trees_mean}
use Rattle.p3l_rewrite.proofs.laws.rewritten_trees_mean.Goals as goal

pub returns : goal.returns
returns c = trees_mean
