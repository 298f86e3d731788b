use Rattle.std.proofs.Common.{◌-◌, ℕ, drop, length}
use Rattle.p3l_model.specs.Costed.{Costed, stages}
use Rattle.p3l_alloc.specs.Soonest.{IsRow}
use Rattle.p3l_alloc.specs.Table.{AreRows}
use Rattle.p3l_alloc.proofs.table.stages_row.Given as goal

-- the row of the last stages
abbrev pub invariant-loop-after : goal.invariant-loop-after
invariant-loop-after l =
    (below : ℕ → Costed) → AreRows l.tree l.rows below l.most l.parts → IsRow (stages below (drop (length l.parts - l.after) l.parts)) l.most l.row
