use Rattle.std.proofs.Common.{◌≡◌, ◌+◌, drop}
use Rattle.p3l_alloc.specs.Walk.{first_within}
use Rattle.p3l_alloc.proofs.walk.first_within.Given as goal

-- the entries so far are later
abbrev pub invariant-loop-processes : goal.invariant-loop-processes
invariant-loop-processes l = first_within l.time l.row ≡ l.processes + first_within l.time (drop l.processes l.row)
