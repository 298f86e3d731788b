use Rattle.p3l_fitting.proofs.Restored.{can_restore}
use Rattle.p3l_fitting.proofs.laws.what_fits_can_be_restored.Goals as goal

pub returns : goal.returns
returns c = λ tree net typed widths loops shot agree fitting. can_restore tree net typed widths shot agree fitting.fits
