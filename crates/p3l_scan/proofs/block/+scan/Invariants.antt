use Rattle.std.proofs.Common.{length}
use Rattle.p3l_scan.proofs.block.+scan.Given as goal

-- a half has fewer words
abbrev pub decreases-scan : goal.decreases-scan
decreases-scan g l = length l.block.now
