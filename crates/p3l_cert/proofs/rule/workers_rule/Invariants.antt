use Rattle.std.proofs.Common.{◌≡◌, ◌-◌, Ok}
use Rattle.p3l_model.specs.Least.{part_bound}
use Rattle.p3l_cert.specs.Rule.{needed, workers_rule}
use Rattle.p3l_cert.proofs.rule.workers_rule.Given as goal

abbrev pub invariant-loop-workers : goal.invariant-loop-workers
invariant-loop-workers l = workers_rule (needed l.rows) l.part (part_bound l.sharing l.bound) l.cap l.first (l.workers - l.first) ≡ Ok l.best
