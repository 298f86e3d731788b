use Rattle.p3l_image.proofs.OldText.{old_texts}
use Rattle.p3l_image.proofs.coding.old_texts_have_no_rescue.Goals as goal

pub returns : goal.returns
returns c = old_texts
