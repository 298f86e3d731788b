use Rattle.std.proofs.Common.{length}
use Rattle.p3l_net.proofs.kinds.fold_gather.+folded.Given as goal

abbrev pub decreases-folded : goal.decreases-folded
decreases-folded g l = length l.tokens.now
