use Rattle.std.proofs.Common.{take}
use Rattle.p3l_map.proofs.GroupSteps.{AreFirsts}
use Rattle.p3l_map.proofs.found.firsts_of_groups.Given as goal

abbrev pub invariant-loop-k : goal.invariant-loop-k
invariant-loop-k l = AreFirsts l.number (take l.k l.pieces) l.firsts
