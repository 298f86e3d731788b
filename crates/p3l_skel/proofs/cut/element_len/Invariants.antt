use Rattle.std.proofs.Common.{◌≡◌, ◌^◌, min, take}
use Rattle.p3l_base.specs.Cut.{element_size}
use Rattle.p3l_skel.proofs.cut.element_len.Given as goal

-- the words of the slices so far
abbrev pub invariant-loop-slice : goal.invariant-loop-slice
invariant-loop-slice l = l.len ≡ min (element_size (take l.slice-index l.slices)) (2 ^ 32)
