use Rattle.std.proofs.Common.{◌≡◌, ◌≤◌, take}
use Rattle.p3l_base.specs.Cut.{first_count}
use Rattle.p3l_skel.proofs.cut.first_len.Given as goal

-- the count so far
abbrev pub invariant-loop-dim : goal.invariant-loop-dim
invariant-loop-dim l = (l.len ≡ first_count (take l.dim-index l.dims)) × (l.len ≤ l.dim-index)
