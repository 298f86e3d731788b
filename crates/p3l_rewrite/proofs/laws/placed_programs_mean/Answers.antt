use Rattle.p3l_rewrite.proofs.Placed.{placed_means}
use Rattle.p3l_rewrite.proofs.laws.placed_programs_mean.Goals as goal

pub returns : goal.returns
returns c = λ program other text is same. placed_means program other is.placed is.same same
