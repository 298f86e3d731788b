use Rattle.p3l_reduce.proofs.widths.+push_segments.Given as goal

abbrev pub decreases-push_segments : goal.decreases-push_segments
decreases-push_segments l = l.level
