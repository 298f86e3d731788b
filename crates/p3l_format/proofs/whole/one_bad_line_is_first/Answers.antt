use Rattle.p3l_format.specs.laws.FirstLine.{one_first_bad}
use Rattle.p3l_format.proofs.whole.one_bad_line_is_first.Goals as goal

pub returns : goal.returns
returns g c = λ it text line other. one_first_bad (g.F.Field.format it) text line other
