use Rattle.std.proofs.Common.{◌≡◌, ℕ, length, Option, Some}
use Rattle.std.specs.Prelude.{IfSome, slice_get}
use Rattle.p3l_units.specs.declared.table.BareNode.{BareNode}
use Rattle.p3l_units.specs.Table.{IsBareNode}
use Rattle.p3l_units.proofs.table.bare_nodes.Given as goal

-- the nodes so far
abbrev pub invariant-loop-node : goal.invariant-loop-node
invariant-loop-node l = record {
  whole : length l.bare_nodes ≡ l.node;
  each : (k : ℕ) (found : Option BareNode) → slice_get l.bare_nodes k ≡ Some found → IfSome found (IsBareNode (record { tree = l.tree; codes = l.codes }) k);
}
