use Rattle.std.proofs.Common.{arith}
use Rattle.std.proofs.lemmas.Grind.{common_steps}
use Rattle.p3l_types.proofs.Sizes.{whole-kept, whole-dropped}
use Rattle.p3l_types.proofs.shape.whole_sizes.Goals as goal
use Rattle.p3l_types.proofs.shape.whole_sizes.Goals.{in-Whole+in_ok-push-in-Whole, in-Free}

pub loop-k-preserved : goal.loop-k-preserved
loop-k-preserved c = elim c.match-sub.branch [
  | in-Whole+in_ok-push-in-Whole w ↦ grind (arith, common_steps, whole-kept)
  | in-Free w ↦ grind (arith, common_steps, whole-dropped)
]
