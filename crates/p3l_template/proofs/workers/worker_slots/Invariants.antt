-- The slots so far with those to come are all.
use Rattle.std.proofs.Common.{◌≡◌, ◌+◌, ◌-◌, ◌++◌}
use Rattle.p3l_template.specs.Shape.{fan_slots}
use Rattle.p3l_template.proofs.workers.worker_slots.Given as goal

abbrev pub invariant-loop-worker : goal.invariant-loop-worker
invariant-loop-worker l =
    l.slots ++ fan_slots (l.first + l.worker) ((l.first + l.workers) + l.worker) (l.workers - l.worker)
    ≡ fan_slots l.first (l.first + l.workers) l.workers
