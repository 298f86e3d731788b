use Rattle.p3l_export.proofs.Ranges.{rows_in_range}
use Rattle.p3l_export.proofs.laws.capacities_are_in_range.Goals as goal

pub returns : goal.returns
returns c = λ tree costs net ends widths chosen each. rows_in_range tree costs net ends widths chosen each
