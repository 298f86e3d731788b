-- The items of a text.
use Rattle.std.specs.Prelude.{ℕ, ◌+◌, List, [], ◌∷◌}
use Rattle.p3l_stream.specs.declared.taken.Cutoff.{Cutoff}
use Rattle.p3l_stream.specs.declared.taken.Cutoff.TheVariants as stop
use Rattle.p3l_stream.specs.declared.line.LineContent.{LineContent}
use Rattle.p3l_stream.specs.declared.line.LineContent.TheVariants as line
use Rattle.p3l_stream.specs.declared.items.Ending.{Ending}
use Rattle.p3l_stream.specs.declared.items.Ending.TheVariants as ending
use Rattle.p3l_stream.specs.declared.items.Items.{Items}
use Rattle.p3l_stream.specs.Lines.{line_of, lines_of}

-- a line before others: its item comes first, and a refused line is the ending
abbrev pub put_line : LineContent → ℕ → Items → Items
put_line line.Blank number rest = rest
put_line (line.Item words) number rest = record rest { items = words ∷ rest.items }
put_line line.BadWord number rest = record { items = []; ending = ending.BadWord number }
put_line (line.WrongCount had) number rest = record { items = []; ending = ending.WrongCount number had }
put_line line.OutOfRange number rest = record { items = []; ending = ending.OutOfRange number }

-- the items of lines that are numbered from here on, and the ending, which is this one where no line is refused
abbrev pub items_of_lines : ℕ → ℕ → Ending → List (List ℕ) → Items
items_of_lines width number close [] = record { items = []; ending = close }
items_of_lines width number close (bytes ∷ lines) = put_line (line_of width bytes) number (items_of_lines width (number + 1) close lines)

-- the ending where no line is refused
abbrev pub closing : Cutoff → Ending
closing stop.End = ending.End
closing stop.Fault = ending.ReadFault
closing stop.Limit = ending.TooLong

-- the items of the bytes taken, and their ending, by how the taking stopped
abbrev pub items_taken : ℕ → Cutoff → List ℕ → Items
items_taken width how bytes = items_of_lines width 1 (closing how) (lines_of how bytes)

-- the items of a whole text, and their ending
abbrev pub items_of : ℕ → List ℕ → Items
items_of width bytes = items_taken width stop.End bytes
