use Rattle.std.proofs.Common.{take}
use Rattle.std.specs.List.{All}
use Rattle.p3l_base.specs.Slice.{LiesWithin}
use Rattle.p3l_base.specs.declared.slice.Slice.{Slice}
use Rattle.p3l_skel.proofs.cut.lie_within.Given as goal

-- the slices so far lie within
abbrev pub invariant-loop-slice : goal.invariant-loop-slice
invariant-loop-slice l = All (λ (s : Slice). LiesWithin s l.words) (take l.slice-index l.slices)
