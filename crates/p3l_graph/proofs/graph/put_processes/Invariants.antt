use Rattle.std.proofs.Common.{◌≡◌, ◌++◌, drop}
use Rattle.std.specs.Prelude.{string_bytes}
use Rattle.p3l_graph.specs.Boxes.{process_line}
use Rattle.p3l_graph.specs.Numbered.{numbered}
use Rattle.p3l_graph.proofs.graph.put_processes.Given as goal

-- the text so far, with the boxes that are left
abbrev pub invariant-loop-number : goal.invariant-loop-number
invariant-loop-number l =
    string_bytes l.text ++ numbered (process_line l.tree) l.number (drop l.number l.net.procs)
    ≡ string_bytes l.fn.text ++ numbered (process_line l.tree) 0 l.net.procs
