use Rattle.p3l_fitting.proofs.FitsLaw.{fitting_is}
use Rattle.p3l_fitting.proofs.fitting.is_fitting.Goals as goal

pub returns : goal.returns
returns c = fitting_is c.args.tree.now c.args.counts.now.list c.args.net.now _ c.args.shot.now _ c.in_ok-survey.ensures c.fits_survey.ensures
