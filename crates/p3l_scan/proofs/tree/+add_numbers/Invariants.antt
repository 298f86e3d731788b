use Rattle.p3l_scan.proofs.tree.+add_numbers.Given as goal

-- the number of stages that follow
abbrev pub decreases-add_numbers : goal.decreases-add_numbers
decreases-add_numbers l = l.more
