use Rattle.p3l_net.proofs.kinds.split.+segment.Given as goal

abbrev pub decreases-segment : goal.decreases-segment
decreases-segment l = l.count
