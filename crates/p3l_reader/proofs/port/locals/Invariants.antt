use Rattle.std.proofs.Common.{[], length}
use Rattle.p3l_grammar.specs.Parser.{another_local}
use Rattle.p3l_reader.proofs.Lists.{Extends}
use Rattle.p3l_reader.proofs.port.locals.Given as goal

abbrev pub invariant-loop-locals : goal.invariant-loop-locals
invariant-loop-locals l = Extends another_local [] l.tokens l.locals l.rest

abbrev pub decreases-loop-locals : goal.decreases-loop-locals
decreases-loop-locals l = length l.rest
