use Rattle.std.proofs.Common.{◌≡◌, ◌<◌, ℕ, length}
use Rattle.std.specs.Prelude.{slice_index_or}
use Rattle.p3l_model.specs.NodeCost.{never}
use Rattle.p3l_model.specs.Costed.{Costed}
use Rattle.p3l_alloc.specs.Soonest.{IsSoonest, HasPart, over_part}
use Rattle.p3l_alloc.proofs.table.cost_row.Given as goal

-- the entries so far
abbrev pub invariant-loop-processes : goal.invariant-loop-processes
invariant-loop-processes l = record {
  size : length l.row.items ≡ l.processes;
  entries : (a : Costed) → HasPart l.cost a l.most l.part → (p : ℕ) → p < l.processes → IsSoonest (over_part l.cost a) p (slice_index_or l.row.items p never);
}
