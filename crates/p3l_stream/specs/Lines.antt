-- The lines of a text, and what each holds.
use Rattle.std.specs.Prelude.{ℕ, ℤ, Bool, ◌==◌, List, [], ◌∷◌, length, Result, Ok, Err, if◌then◌else◌}
use Rattle.std.specs.List.{slice_split}
use Rattle.std.specs.Str.Lines.{strip_carriage_return}
use Rattle.p3l_stream.specs.declared.taken.Cutoff.{Cutoff}
use Rattle.p3l_stream.specs.declared.taken.Cutoff.TheVariants as stop
use Rattle.p3l_stream.specs.declared.line.LineContent.{LineContent}
use Rattle.p3l_stream.specs.declared.line.LineContent.TheVariants as line
use Rattle.p3l_stream.specs.declared.word.WordFault.{WordFault}
use Rattle.p3l_stream.specs.declared.word.WordFault.TheVariants as fault
use Rattle.p3l_stream.specs.Words.{numbers_of, words_of}

-- a line feed ends a line
abbrev pub is_feed : ℕ → Bool
is_feed byte = byte == 10

-- the part after the last line feed is a line where the input is at its end, if there are bytes; else it is dropped
abbrev pub last_line : Cutoff → List ℕ → List (List ℕ)
last_line stop.End [] = []
last_line stop.End (byte ∷ bytes) = strip_carriage_return (byte ∷ bytes) ∷ []
last_line _ part = []

-- the lines of the parts between line feeds: a line ends by a line feed, and one carriage return before its end is no part of it
abbrev pub lines_between : Cutoff → List (List ℕ) → List (List ℕ)
lines_between how [] = []
lines_between how (part ∷ []) = last_line how part
lines_between how (part ∷ next ∷ parts) = strip_carriage_return part ∷ lines_between how (next ∷ parts)

-- the lines of the bytes taken, by how the taking stopped
abbrev pub lines_of : Cutoff → List ℕ → List (List ℕ)
lines_of how bytes = lines_between how (slice_split is_feed bytes)

-- the content of a line whose words write these numbers, where an item has n words
abbrev pub line_from : ℕ → Result (List ℤ) WordFault → LineContent
line_from width (Err fault.Form) = line.BadWord
line_from width (Err fault.Range) = line.OutOfRange
line_from width (Ok []) = line.Blank
line_from width (Ok (number ∷ numbers)) =
    if length (number ∷ numbers) == width then line.Item (number ∷ numbers) else line.WrongCount (length (number ∷ numbers))

-- the content of a line
abbrev pub line_of : ℕ → List ℕ → LineContent
line_of width bytes = line_from width (numbers_of (words_of bytes))
