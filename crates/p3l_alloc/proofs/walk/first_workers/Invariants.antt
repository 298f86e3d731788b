use Rattle.std.proofs.Common.{◌-◌, ◌/◌, ◌<◌, ℕ}
use Rattle.std.specs.Prelude.{slice_index_or}
use Rattle.p3l_model.specs.NodeCost.{never}
use Rattle.p3l_model.specs.Costed.{IsIn}
use Rattle.p3l_alloc.specs.Walk.{part_time}
use Rattle.p3l_alloc.proofs.walk.first_workers.Given as goal

-- with the numbers so far the part is too late
abbrev pub invariant-loop-workers : goal.invariant-loop-workers
invariant-loop-workers l =
    (m : ℕ) → IsIn l.fn.span m → m < l.workers → part_time l.sharing l.time m < slice_index_or l.part ((l.processes - 2) / m) never
