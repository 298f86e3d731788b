use Rattle.std.proofs.Common.{◌≡◌, ◌-◌, ◌≤◌, length, drop}
use Rattle.p3l_lexer.specs.Piece.{after_close}
use Rattle.p3l_lexer.proofs.cut.close.Given as goal

abbrev pub invariant-loop-n : goal.invariant-loop-n
invariant-loop-n l = (l.n ≤ length l.body) × (after_close l.body ≡ after_close (drop l.n l.body))

abbrev pub decreases-loop-n : goal.decreases-loop-n
decreases-loop-n l = length l.body - l.n
