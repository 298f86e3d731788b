use Rattle.std.proofs.Common.{◌≡◌, ◌++◌, drop}
use Rattle.p3l_firing.specs.Segments.{halved}
use Rattle.p3l_reduce.proofs.segments.halves.Given as goal

abbrev pub invariant-loop-part : goal.invariant-loop-part
invariant-loop-part l = l.cut.items ++ halved (drop l.part-index l.lengths) ≡ halved l.lengths
