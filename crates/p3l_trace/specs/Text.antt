-- The text of a trace.
use Rattle.std.specs.Prelude.{ℕ, List, [], ◌∷◌}
use Rattle.p3l_trace.specs.declared.trace.TraceLine.{TraceLine}
use Rattle.p3l_trace.specs.declared.trace.Traced.{Traced}
use Rattle.p3l_trace.specs.declared.line.LineItem.{LineItem}
use Rattle.p3l_trace.specs.Kind.{said_format}
use Rattle.p3l_format.specs.Format.{Format, both, record_of}
use Rattle.p3l_format.specs.Text.{text_then, then_text}
use Rattle.p3l_format.specs.Decimal.{number_then}
use Rattle.p3l_format.specs.Line.{line}
use Rattle.p3l_format.specs.Series.{until}

-- "p3l-trace 1" and a line feed
abbrev pub header : List ℕ
header = 112 ∷ 51 ∷ 108 ∷ 45 ∷ 116 ∷ 114 ∷ 97 ∷ 99 ∷ 101 ∷ 32 ∷ 49 ∷ 10 ∷ []

-- "end "
abbrev pub end_word : List ℕ
end_word = 101 ∷ 110 ∷ 100 ∷ 32 ∷ []

abbrev pub space : List ℕ
space = 32 ∷ []

abbrev pub feed : List ℕ
feed = 10 ∷ []

-- the greatest number of 32 bits
abbrev pub most_pick : ℕ
most_pick = 4294967295

-- the greatest number of 64 bits
abbrev pub most_count : ℕ
most_count = 18446744073709551615

-- a pick, and what is said of it
unfoldable pub pick_format : Format ℕ TraceLine
pick_format = record_of (λ p. record { pick = p.0; kind = p.1 }) (λ l. (l.pick, l.kind)) (both (number_then 0 most_pick space) (then_text said_format feed))

unfoldable pub line_format : LineItem → Format ℕ TraceLine
line_format item = line pick_format

abbrev pub next_line : TraceLine → LineItem
next_line l = record {}

abbrev pub first_line : LineItem
first_line = record {}

-- the lines up to the last, which begins as no other does
unfoldable pub lines_format : Format ℕ (List TraceLine)
lines_format = until line_format next_line first_line end_word

-- the last line after its first word: the counts of picks that fired and of idle ones
unfoldable pub counts_format : Format ℕ (ℕ × ℕ)
counts_format = both (number_then 0 most_count space) (number_then 0 most_count feed)

unfoldable pub body_format : Format ℕ Traced
body_format = record_of (λ p. record { lines = p.0; fired = p.1.0; idle = p.1.1 }) (λ t. (t.lines, (t.fired, t.idle))) (both lines_format counts_format)

unfoldable pub trace_format : Format ℕ Traced
trace_format = text_then header body_format
