-- The bytes of a line.
use Rattle.std.specs.Prelude.{ℕ, List, string_bytes}
use Rattle.p3l_report.specs.declared.line.MessageLine.{MessageLine}
use Rattle.p3l_report.specs.declared.line.MessageLine.TheVariants as line

abbrev pub line_text : MessageLine → List ℕ
line_text (line.Fixed text) = text.now
line_text (line.Made text) = string_bytes text
