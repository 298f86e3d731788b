-- The ports so far with those to come are all.
use Rattle.std.proofs.Common.{◌≡◌, ◌+◌, ◌-◌, ◌++◌}
use Rattle.p3l_template.specs.Built.{all_ports}
use Rattle.p3l_template.specs.Shape.{fan_slots}
use Rattle.p3l_template.proofs.workers.worker_ports.Given as goal

abbrev pub invariant-loop-worker : goal.invariant-loop-worker
invariant-loop-worker l =
    l.ports ++ all_ports (fan_slots (l.first + l.worker) ((l.first + l.workers) + l.worker) (l.workers - l.worker))
    ≡ all_ports (fan_slots l.first (l.first + l.workers) l.workers)
