use Rattle.std.proofs.Common.{◌≡◌, drop}
use Rattle.p3l_types.specs.Shape.{sizes_of}
use Rattle.p3l_types.proofs.Sizes.{sizes_after}
use Rattle.p3l_types.proofs.shape.sizes_of.Given as goal

-- the sizes so far, with those of the rest
abbrev pub invariant-loop-k : goal.invariant-loop-k
invariant-loop-k l = sizes_after l.consts l.sizes l.k (drop l.k l.nums) ≡ sizes_of l.consts 0 l.nums
