use Rattle.std.proofs.Common.{length}
use Rattle.p3l_stream.specs.Passing.{PassedBlanks}
use Rattle.p3l_stream.proofs.lines.Lines.pass_blanks.Given as goal

abbrev pub invariant-loop-line : goal.invariant-loop-line
invariant-loop-line l = PassedBlanks l.fn.self l.self

abbrev pub decreases-loop-line : goal.decreases-loop-line
decreases-loop-line l = length l.self.held
