use Rattle.std.proofs.Common.{◌+◌, ◌-◌, ◌≤◌}
use Rattle.p3l_model.specs.Costed.{Costed, Workers}
use Rattle.p3l_alloc.specs.Soonest.{IsShared}
use Rattle.p3l_alloc.proofs.Soonest.{IsBestBefore}
use Rattle.p3l_alloc.proofs.entry.workers_entry.Given as goal

abbrev pub invariant-loop-workers : goal.invariant-loop-workers
invariant-loop-workers l = record {
  some : 1 ≤ l.workers;
  low : l.span.low ≤ l.workers;
  best : (a : Costed) → IsShared l.sharing a l.processes l.part → IsBestBefore (Workers l.span l.sharing l.ends a) l.processes l.workers l.best;
}

abbrev pub decreases-loop-workers : goal.decreases-loop-workers
decreases-loop-workers l = l.most + 1 - l.workers
