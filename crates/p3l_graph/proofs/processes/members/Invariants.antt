use Rattle.std.proofs.Common.{◌≡◌, ◌++◌, drop}
use Rattle.std.specs.Prelude.{string_bytes}
use Rattle.p3l_graph.specs.Numbered.{numbered}
use Rattle.p3l_graph.specs.Processes.{member_words}
use Rattle.p3l_graph.proofs.processes.members.Given as goal

-- the text so far, with the processes that are left
abbrev pub invariant-loop-number : goal.invariant-loop-number
invariant-loop-number l =
    string_bytes l.text ++ numbered (member_words l.node) l.number (drop l.number l.net.procs) ≡ numbered (member_words l.node) 0 l.net.procs
