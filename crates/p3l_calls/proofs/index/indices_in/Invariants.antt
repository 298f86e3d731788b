use Rattle.std.proofs.Common.{◌≡◌, ◌++◌, drop}
use Rattle.p3l_calls.specs.Index.{indices_in}
use Rattle.p3l_calls.proofs.index.indices_in.Given as goal

-- the indices so far, with those of the rest
abbrev pub invariant-loop-k : goal.invariant-loop-k
invariant-loop-k l = l.indices ++ indices_in (drop l.k l.subs) (drop l.k l.sizes) ≡ indices_in l.subs l.sizes
