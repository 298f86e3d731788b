use Rattle.p3l_format.specs.laws.Formats.{one_spelling}
use Rattle.p3l_trace.specs.Text.{trace_format}
use Rattle.p3l_trace.specs.laws.Text.{lawful_trace}
use Rattle.p3l_trace.proofs.text.text_begins_no_other.Goals as goal

pub returns : goal.returns
returns c = λ v w more. one_spelling trace_format lawful_trace v w more
