use Rattle.std.proofs.Common.{◌^◌, ◌<◌, ◌≤◌, ℕ}
use Rattle.p3l_skel.specs.Numbers.{joined_procs}
use Rattle.p3l_model.specs.NodeCost.{segments_service}
use Rattle.p3l_model.specs.Costed.{IsIn}
use Rattle.p3l_alloc.proofs.walk.first_segments.Given as goal

-- the levels so far take too many processes, or are too late
abbrev pub invariant-loop-level : goal.invariant-loop-level
invariant-loop-level l =
    (k : ℕ) → k < l.level → IsIn l.span (2 ^ k) → joined_procs (2 ^ k) ≤ l.processes → l.time < segments_service l.fold (2 ^ k)
