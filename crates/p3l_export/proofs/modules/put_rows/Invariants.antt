use Rattle.std.proofs.Common.{◌≡◌, ◌++◌, drop}
use Rattle.p3l_export.specs.Numbered.{numbered}
use Rattle.p3l_export.specs.Modules.{module_line}
use Rattle.p3l_export.proofs.modules.put_rows.Given as goal

-- the text so far, with the rows that are left
abbrev pub invariant-loop-number : goal.invariant-loop-number
invariant-loop-number l =
    l.text.items ++ numbered module_line l.number (drop l.number l.modules) ≡ l.fn.text.items ++ numbered module_line 0 l.modules
