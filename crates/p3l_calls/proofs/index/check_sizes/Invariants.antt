use Rattle.std.proofs.Common.{◌≡◌, drop}
use Rattle.p3l_calls.specs.Index.{sizes_rule}
use Rattle.p3l_calls.proofs.index.check_sizes.Given as goal

-- the brackets that are left, with their sizes
abbrev pub invariant-loop-k : goal.invariant-loop-k
invariant-loop-k l = sizes_rule l.indices (drop l.k l.subs) (drop l.k l.sizes) ≡ sizes_rule l.indices l.subs l.sizes
