use Rattle.std.proofs.Common.{◌≡◌, ◌++◌, drop}
use Rattle.std.specs.Prelude.{string_bytes}
use Rattle.p3l_graph.specs.Frames.{member_line, members}
use Rattle.p3l_graph.specs.Numbered.{numbered}
use Rattle.p3l_graph.proofs.frames.put_members.Given as goal

-- the text so far, with the processes that are left
abbrev pub invariant-loop-number : goal.invariant-loop-number
invariant-loop-number l =
    string_bytes l.text ++ numbered (member_line l.node) l.number (drop l.number l.net.procs)
    ≡ string_bytes l.fn.text ++ members l.net l.node
