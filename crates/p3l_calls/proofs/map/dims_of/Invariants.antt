use Rattle.std.proofs.Common.{◌≡◌, ◌++◌, drop}
use Rattle.p3l_calls.specs.Map.{dims_of}
use Rattle.p3l_calls.proofs.map.dims_of.Given as goal

-- the dimensions so far, with those of the rest
abbrev pub invariant-loop-k : goal.invariant-loop-k
invariant-loop-k l = l.dims ++ dims_of l.indices (drop l.k l.subs) (drop l.k l.sizes) ≡ dims_of l.indices l.subs l.sizes
