use Rattle.p3l_reduce.proofs.found.+to_come.Given as goal

abbrev pub decreases-to_come : goal.decreases-to_come
decreases-to_come l = l.depth
