use Rattle.std.proofs.Common.{length}
use Rattle.p3l_types.proofs.shape.+product.Given as goal

abbrev pub decreases-product : goal.decreases-product
decreases-product l = length l.sizes.now
