use Rattle.p3l_print.proofs.Unplacing.{canonical_same}
use Rattle.p3l_text_laws.proofs.canonical_texts_stay.Goals as goal

pub returns : goal.returns
returns c = λ text program is. canonical_same is.placed program is.same
