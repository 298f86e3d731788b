use Rattle.p3l_scan.proofs.tree.+add_counts.Given as goal

-- the number of stages that follow
abbrev pub decreases-add_counts : goal.decreases-add_counts
decreases-add_counts l = l.more
