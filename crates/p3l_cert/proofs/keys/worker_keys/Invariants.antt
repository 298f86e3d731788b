use Rattle.std.proofs.Common.{◌≡◌, ◌-◌}
use Rattle.p3l_model.specs.Least.{part_bound}
use Rattle.p3l_cert.specs.Keys.{worker_keys}
use Rattle.p3l_cert.proofs.keys.worker_keys.Given as goal

abbrev pub invariant-loop-workers : goal.invariant-loop-workers
invariant-loop-workers l = l.keys ≡ worker_keys l.part (part_bound l.sharing l.bound) l.cap l.first (l.workers - l.first)
