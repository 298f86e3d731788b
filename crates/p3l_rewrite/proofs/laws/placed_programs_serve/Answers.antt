use Rattle.p3l_rewrite.proofs.Placed.{placed_serves}
use Rattle.p3l_rewrite.proofs.laws.placed_programs_serve.Goals as goal

pub returns : goal.returns
returns c = λ tree costs processors time other text is serves. placed_serves tree costs processors time other is.placed is.same serves
