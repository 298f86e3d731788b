use Rattle.std.proofs.Common.{◌≡◌, ◌<◌, ℕ, length}
use Rattle.std.specs.Prelude.{slice_index_or}
use Rattle.p3l_model.specs.NodeCost.{never}
use Rattle.p3l_model.specs.Costed.{Costed, Both}
use Rattle.p3l_alloc.specs.Soonest.{IsSoonest, IsRow}
use Rattle.p3l_alloc.proofs.table.both_row.Given as goal

-- the entries so far
abbrev pub invariant-loop-processes : goal.invariant-loop-processes
invariant-loop-processes l = record {
  size : length l.row.items ≡ l.processes;
  entries : (a b : Costed) → IsRow a l.most l.first → IsRow b l.most l.others → (p : ℕ) → p < l.processes → IsSoonest (Both a b) p (slice_index_or l.row.items p never);
}
