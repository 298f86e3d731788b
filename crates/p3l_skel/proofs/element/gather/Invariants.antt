use Rattle.std.proofs.Common.{◌≡◌, take}
use Rattle.p3l_base.specs.Cut.{element_words}
use Rattle.p3l_skel.proofs.element.gather.Given as goal

-- the words of the slices so far
abbrev pub invariant-loop-slice : goal.invariant-loop-slice
invariant-loop-slice l = l.gathered.items ≡ element_words (take l.slice-index l.cut.ins) l.cut.second l.words l.element
