use Rattle.p3l_alloc.proofs.Soonest.{IsBestBelow}
use Rattle.p3l_alloc.proofs.entry.segments_entry.Given as goal

-- the best of the levels so far
abbrev pub invariant-loop-level : goal.invariant-loop-level
invariant-loop-level l = IsBestBelow l.span l.fold l.processes l.level l.best
