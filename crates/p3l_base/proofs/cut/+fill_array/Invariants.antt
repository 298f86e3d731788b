use Rattle.std.proofs.Common.{◌≡◌, ◌++◌, length}
use Rattle.p3l_base.proofs.Fill.{filled}
use Rattle.p3l_base.proofs.cut.+fill_array.Given as goal

abbrev pub decreases-fill_array : goal.decreases-fill_array
decreases-fill_array l = length l.dims.now

abbrev pub invariant-loop-k : goal.invariant-loop-k
invariant-loop-k l =
    l.token.items ≡ l.fn.token.items ++ filled l.results l.cut.second l.dim.place l.inner l.corner.first l.corner.second l.corner.at l.k
