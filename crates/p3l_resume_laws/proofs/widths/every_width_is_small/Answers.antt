use Rattle.p3l_resume_laws.proofs.WidthsLaw.{widths_few}
use Rattle.p3l_resume_laws.proofs.widths.every_width_is_small.Goals as goal

pub returns : goal.returns
returns c = widths_few
