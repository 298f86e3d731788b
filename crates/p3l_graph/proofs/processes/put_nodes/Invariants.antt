use Rattle.std.proofs.Common.{◌≡◌, ◌++◌, drop}
use Rattle.std.specs.Prelude.{string_bytes}
use Rattle.p3l_graph.specs.Numbered.{numbered}
use Rattle.p3l_graph.specs.Processes.{node_line}
use Rattle.p3l_graph.proofs.processes.put_nodes.Given as goal

-- the text so far, with the nodes that are left
abbrev pub invariant-loop-number : goal.invariant-loop-number
invariant-loop-number l =
    string_bytes l.text ++ numbered (node_line l.tree l.net) l.number (drop l.number l.tree.nodes)
    ≡ string_bytes l.fn.text ++ numbered (node_line l.tree l.net) 0 l.tree.nodes
