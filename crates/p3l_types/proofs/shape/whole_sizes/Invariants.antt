use Rattle.std.proofs.Common.{◌≡◌, ◌++◌, drop}
use Rattle.p3l_types.specs.Shape.{whole_sizes}
use Rattle.p3l_types.proofs.shape.whole_sizes.Given as goal

-- the sizes so far, with those of the rest
abbrev pub invariant-loop-k : goal.invariant-loop-k
invariant-loop-k l = l.left ++ whole_sizes (drop l.k l.subs) (drop l.k l.sizes) ≡ whole_sizes l.subs l.sizes
