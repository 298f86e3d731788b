use Rattle.std.proofs.Common.{◌≡◌, ◌++◌, ◌-◌, length}
use Rattle.p3l_base.proofs.Walk.{copied}
use Rattle.p3l_base.proofs.slice.+copy_cut.Given as goal

abbrev pub decreases-copy_cut : goal.decreases-copy_cut
decreases-copy_cut l = length l.dims.now

abbrev pub invariant-loop-k : goal.invariant-loop-k
invariant-loop-k l =
    l.cut.items ≡ l.fn.cut.items ++ copied l.words l.start l.inner l.free.first l.free.second l.low (l.k - l.low)
