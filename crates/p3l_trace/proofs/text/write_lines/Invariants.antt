use Rattle.std.proofs.Common.{◌≡◌, ◌++◌, drop}
use Rattle.p3l_format.specs.Series.{fits_from, spell_from}
use Rattle.p3l_trace.specs.Text.{first_line, line_format, next_line}
use Rattle.p3l_trace.proofs.text.write_lines.Given as goal

-- the lines so far fit, and are written
abbrev pub invariant-loop-line : goal.invariant-loop-line
invariant-loop-line l = record {
  fits : fits_from line_format next_line first_line (drop l.line-index l.lines) ≡ fits_from line_format next_line first_line l.lines;
  put : l.out.items ++ spell_from line_format next_line first_line (drop l.line-index l.lines) ≡ l.initial.out.items ++ spell_from line_format next_line first_line l.lines;
}
