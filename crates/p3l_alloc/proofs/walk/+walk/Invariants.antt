use Rattle.std.proofs.Common.{◌+◌, ◌*◌}
use Rattle.p3l_model.specs.Costed.{costed}
use Rattle.p3l_alloc.proofs.Added.{IsWalked}
use Rattle.p3l_alloc.proofs.walk.+walk.Given as goal

abbrev pub decreases-first_counts : goal.decreases-first_counts
decreases-first_counts l = 2 * l.levels + 1

abbrev pub decreases-stages_counts : goal.decreases-stages_counts
decreases-stages_counts l = 2 * l.levels

-- the counts of the stages so far
abbrev pub invariant-stages_counts-loop-part : goal.invariant-stages_counts-loop-part
invariant-stages_counts-loop-part l =
    IsWalked l.tree l.rows (costed l.tree l.costs) l.time l.processes l.parts l.part-index l.left l.later l.fn.counts l.counts
