use Rattle.std.proofs.Common.{◌≡◌}
use Rattle.p3l_firing.specs.Segments.{segment_lengths}
use Rattle.p3l_reduce.proofs.segments.segment_lengths.Given as goal

abbrev pub invariant-loop-done : goal.invariant-loop-done
invariant-loop-done l = l.lengths.items ≡ segment_lengths l._done l.len
