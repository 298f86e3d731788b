use Rattle.std.proofs.Common.{◌≡◌, drop}
use Rattle.p3l_reduce.specs.JoinTree.{matched}
use Rattle.p3l_reduce.proofs.matched.are_matched.Given as goal

-- the tokens that are left match where all do
abbrev pub invariant-loop-k : goal.invariant-loop-k
invariant-loop-k l = matched l.left l.right ≡ matched (drop l.k l.left) (drop l.k l.right)
