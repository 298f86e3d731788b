use Rattle.std.proofs.Common.{◌≡◌, ◌++◌, drop}
use Rattle.std.specs.List.{flat_map}
use Rattle.p3l_export.specs.Slices.{node_dims}
use Rattle.p3l_export.proofs.slices.put_all_dims.Given as goal

-- the text so far, with what is left
abbrev pub invariant-loop-node : goal.invariant-loop-node
invariant-loop-node l =
    l.text.items ++ flat_map node_dims (drop l.node-index l.nodes) ≡ l.fn.text.items ++ flat_map node_dims l.nodes
