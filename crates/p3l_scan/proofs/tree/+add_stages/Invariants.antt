use Rattle.p3l_scan.proofs.tree.+add_stages.Given as goal

-- the number of stages that follow
abbrev pub decreases-add_stages : goal.decreases-add_stages
decreases-add_stages l = l.more
