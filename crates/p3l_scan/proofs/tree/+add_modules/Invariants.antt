use Rattle.p3l_scan.proofs.tree.+add_modules.Given as goal

-- the number of stages that follow
abbrev pub decreases-add_modules : goal.decreases-add_modules
decreases-add_modules l = l.more
