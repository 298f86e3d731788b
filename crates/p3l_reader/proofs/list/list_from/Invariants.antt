use Rattle.std.proofs.Common.{length}
use Rattle.p3l_reader.proofs.Lists.{Extends}
use Rattle.p3l_reader.proofs.list.list_from.Given as goal

abbrev pub invariant-loop-list : goal.invariant-loop-list
invariant-loop-list g l = Extends g.T.Listed.list l.fn.first l.tokens l.list l.rest

abbrev pub decreases-loop-list : goal.decreases-loop-list
decreases-loop-list g l = length l.rest
