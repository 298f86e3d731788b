use Rattle.std.proofs.Common.{◌≡◌, take}
use Rattle.p3l_link.proofs.compare.same_procs.Given as goal

-- the lists are the same so far
abbrev pub invariant-loop-i : goal.invariant-loop-i
invariant-loop-i l = take l.i l.one ≡ take l.i l.other
