use Rattle.std.proofs.Common.{◌≡◌, take}
use Rattle.p3l_check.proofs.copy.copy_slices.Given as goal

abbrev pub invariant-loop-slice : goal.invariant-loop-slice
invariant-loop-slice l = l.copy ≡ take l.slice-index l.slices
