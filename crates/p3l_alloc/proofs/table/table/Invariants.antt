use Rattle.std.proofs.Common.{◌-◌, length}
use Rattle.p3l_alloc.specs.Table.{IsTableFrom}
use Rattle.p3l_alloc.proofs.table.table.Given as goal

-- the rows of the last nodes
abbrev pub invariant-loop-after : goal.invariant-loop-after
invariant-loop-after l = IsTableFrom l.tree l.costs l.most l.rows (length l.tree.nodes - l.after)
