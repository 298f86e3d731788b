use Rattle.std.proofs.Common.{◌≡◌, replicate}
use Rattle.p3l_map.proofs.found.none_taken.Given as goal

abbrev pub invariant-loop-line : goal.invariant-loop-line
invariant-loop-line l = l.taken.items ≡ replicate l._line 0
