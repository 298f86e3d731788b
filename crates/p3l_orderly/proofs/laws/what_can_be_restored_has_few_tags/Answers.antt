use Rattle.p3l_net.proofs.Saving.{fits_held}
use Rattle.p3l_orderly.proofs.SavedSteps.{few_of_held}
use Rattle.p3l_orderly.proofs.laws.what_can_be_restored_has_few_tags.Goals as goal

pub returns : goal.returns
returns c = λ tree net shot can. few_of_held net shot (fits_held tree net can.typed.widths can.typed.few_tags shot can.fits)
