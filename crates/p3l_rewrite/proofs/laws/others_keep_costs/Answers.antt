use Rattle.p3l_rewrite.proofs.Costs.{others_keep_costs}
use Rattle.p3l_rewrite.proofs.laws.others_keep_costs.Goals as goal

pub returns : goal.returns
returns c = others_keep_costs
