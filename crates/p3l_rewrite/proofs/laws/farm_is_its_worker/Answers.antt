use Rattle.p3l_rewrite.proofs.Trees.{farm_means}
use Rattle.p3l_rewrite.proofs.laws.farm_is_its_worker.Goals as goal

pub returns : goal.returns
returns c = farm_means
