use Rattle.std.proofs.Common.{length}
use Rattle.p3l_lexer.proofs.Lexing.{Reached}
use Rattle.p3l_lexer.proofs.lexer.tokens.Given as goal

abbrev pub invariant-loop-rest : goal.invariant-loop-rest
invariant-loop-rest l = Reached l.text l.rest l.at l.list

abbrev pub decreases-loop-rest : goal.decreases-loop-rest
decreases-loop-rest l = length l.rest
