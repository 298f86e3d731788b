use Rattle.std.proofs.Common.{◌≡◌, ◌++◌, drop}
use Rattle.std.specs.List.{flat_map}
use Rattle.p3l_export.specs.Processes.{ends_line}
use Rattle.p3l_export.proofs.processes.put_all_ends.Given as goal

-- the text so far, with what is left
abbrev pub invariant-loop-process : goal.invariant-loop-process
invariant-loop-process l =
    l.text.items ++ flat_map ends_line (drop l.process-index l.procs) ≡ l.fn.text.items ++ flat_map ends_line l.procs
