use Rattle.std.proofs.Common.{◌≡◌, ◌++◌, drop}
use Rattle.p3l_stream.specs.Text.{text_of}
use Rattle.p3l_stream.proofs.text.text_of.Given as goal

abbrev pub invariant-loop-outcome : goal.invariant-loop-outcome
invariant-loop-outcome l = l.text ++ text_of (drop l.outcome-index l.outcomes) ≡ text_of l.outcomes
