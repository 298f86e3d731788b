use Rattle.std.proofs.Common.{◌≡◌, ◌++◌}
use Rattle.std.specs.Prelude.{string_bytes}
use Rattle.p3l_advise.specs.Lines.{indent}
use Rattle.p3l_advise.proofs.lines.put_indent.Given as goal

-- the blanks so far
abbrev pub invariant-loop-level : goal.invariant-loop-level
invariant-loop-level l = string_bytes l.text ≡ string_bytes l.fn.text ++ indent l._level
