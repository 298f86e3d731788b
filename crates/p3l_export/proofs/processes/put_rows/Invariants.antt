use Rattle.std.proofs.Common.{◌≡◌, ◌++◌, drop}
use Rattle.p3l_export.specs.Numbered.{numbered}
use Rattle.p3l_export.specs.Processes.{process_line}
use Rattle.p3l_export.proofs.processes.put_rows.Given as goal

-- the text so far, with the rows that are left
abbrev pub invariant-loop-number : goal.invariant-loop-number
invariant-loop-number l =
    l.text.items ++ numbered (process_line l.loads) l.number (drop l.number l.procs) ≡ l.fn.text.items ++ numbered (process_line l.loads) 0 l.procs
