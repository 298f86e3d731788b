-- The picks of a run, as a text of which a schedule is made.
use Rattle.std.specs.Prelude.{◌≡◌, ℕ, List, [], ◌∷◌, ◌++◌, codes, Option, Some, None, Result, Ok}
use Rattle.std.specs.Fmt.{decimal}
use Rattle.p3l_io.specs.Change.{Change, IsStill}
use Rattle.p3l_io.specs.Content.{Held}
use Rattle.p3l_report.specs.declared.verdict.Verdict.{Verdict}
use Rattle.p3l_trace.specs.declared.trace.TraceLine.{TraceLine}
use Rattle.p3l_trace.specs.Agreement.{picks_of}
use Rattle.p3l_program.specs.Saved.{HasSave, IsSaved}

-- the bytes after a pick: a space where others follow, and a line feed after the last
abbrev pub mark_before : List ℕ → List ℕ
mark_before [] = codes "\n"
mark_before (pick ∷ picks) = codes " "

-- picks in decimal, separated by one space, and a line feed; no picks have no bytes
abbrev pub picks_text : List ℕ → List ℕ
picks_text [] = []
picks_text (pick ∷ picks) = (decimal pick ++ mark_before picks) ++ picks_text picks

-- the file of this name, where one is named, has the text of these picks
abbrev pub ArePicksSaved : Change Held → Option (List ℕ) → List ℕ → Type 0
ArePicksSaved files None picks = Unit {0}
ArePicksSaved files (Some name) picks = IsSaved files name (picks_text picks)

-- the result of writing the picks of the lines that were kept to the file that is named for them
abbrev pub IsPicking : Change Held → Option (List ℕ) → Option (List TraceLine) → Result (Unit {0}) Verdict → Type 0
IsPicking files (Some name) (Some lines) result = HasSave files name (picks_text (picks_of lines)) result
IsPicking files name lines result = (result ≡ Ok tt) × IsStill files
