use Rattle.p3l_scan.proofs.units.+row_outcome.Given as goal

-- the number of blocks that are left
abbrev pub decreases-row_outcome : goal.decreases-row_outcome
decreases-row_outcome g l = l.blocks
