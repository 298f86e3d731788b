use Rattle.std.proofs.Common.{◌≡◌, ◌++◌, drop}
use Rattle.std.specs.Prelude.{string_bytes}
use Rattle.p3l_graph.specs.Numbered.{numbered}
use Rattle.p3l_graph.specs.Processes.{stream_words}
use Rattle.p3l_graph.proofs.processes.ends.Given as goal

-- the text so far, with the processes that are left
abbrev pub invariant-loop-number : goal.invariant-loop-number
invariant-loop-number l =
    string_bytes l.text ++ numbered stream_words l.number (drop l.number l.net.procs) ≡ numbered stream_words 0 l.net.procs
