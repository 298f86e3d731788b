use Rattle.p3l_rewrite.proofs.Candidates.{others_are}
use Rattle.p3l_rewrite.proofs.laws.others_are_rewritten.Goals as goal

pub returns : goal.returns
returns c = others_are
