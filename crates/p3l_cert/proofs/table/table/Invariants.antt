use Rattle.std.proofs.Common.{◌≤◌, length}
use Rattle.p3l_cert.specs.Table.{IsTableOf}
use Rattle.p3l_cert.proofs.table.table.Given as goal

abbrev pub invariant-loop-node : goal.invariant-loop-node
invariant-loop-node l = record {
  table : IsTableOf l.tree l.costs l.table l.node;
  end : l.node ≤ length l.tree.nodes;
}
