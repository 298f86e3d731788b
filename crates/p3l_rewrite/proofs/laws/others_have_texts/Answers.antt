use Rattle.p3l_rewrite.proofs.Texts.{others_have_texts}
use Rattle.p3l_rewrite.proofs.laws.others_have_texts.Goals as goal

pub returns : goal.returns
returns c = others_have_texts
