use Rattle.std.proofs.Common.{◌≡◌, ◌++◌, length}
use Rattle.p3l_trace.specs.Agreement.{picks_of}
use Rattle.p3l_program.specs.Picks.{picks_text}
use Rattle.p3l_program.proofs.picks.write_picks.Given as goal

abbrev pub invariant-loop-line : goal.invariant-loop-line
invariant-loop-line l = l.out.items ++ picks_text (picks_of l.rest) ≡ l.initial.out.items ++ picks_text (picks_of l.lines)

abbrev pub decreases-loop-line : goal.decreases-loop-line
decreases-loop-line l = length l.rest
