-- Passing the bytes at hand, line by line.
use Rattle.std.specs.Prelude.{◌≡◌, ◌≢◌, ℕ, ◌+◌, ◌<◌, ◌≤◌, true, List, [], ◌∷◌, ◌++◌, ◌⊎◌, length, Option, Some, None, Result, Ok, Err}
use Rattle.p3l_base.specs.declared.NoMemory.{NoMemory}
use Rattle.p3l_io.specs.Change.{Change}
use Rattle.p3l_io.specs.declared.fault.Failed.{Failed}
use Rattle.p3l_stream.specs.declared.line.LineContent.{LineContent}
use Rattle.p3l_stream.specs.declared.line.LineContent.TheVariants as line
use Rattle.p3l_stream.specs.declared.taken.Cutoff.TheVariants as stop
use Rattle.p3l_stream.specs.Answers.{IsAtEnd}
use Rattle.p3l_stream.specs.Ended.{AreBlank, IsLine, ended, held_by}
use Rattle.p3l_stream.specs.Lines.{last_line}
use Rattle.std.specs.Str.Lines.{strip_carriage_return}
use Rattle.p3l_stream.specs.Part.{FitsIn, PartSeen, StandsFor, line_after, no_part}
use Rattle.p3l_stream.specs.Words.{numbers_of, words_of}
use Rattle.p3l_stream.specs.Seen.{Seen}
use Rattle.p3l_stream.specs.Taken.{IsTaken}

-- n lines were passed, and these bytes are still held
abbrev pub moved_past : Seen → ℕ → List ℕ → Seen
moved_past s count held = record s { held = held; passed = s.passed + count }

-- the first line was passed, which holds this
pub record PassesLine (old new : Seen) (holds : LineContent) : Type 0 where
  pub first : List ℕ
  pub is_line : IsLine first
  pub holds_it : held_by old.words first ≡ holds
  pub bytes_are : old.held ≡ first ++ 10 ∷ new.held
  pub after : new ≡ moved_past old 1 new.held

-- the first line was passed if it is ended
abbrev pub MayPassLine : Seen → Seen → Option LineContent → Type 0
MayPassLine old new None = IsLine old.held × (new ≡ old)
MayPassLine old new (Some holds) = PassesLine old new holds

-- lines without words were passed, and then this one, which has some
pub record PassesFilled (old new : Seen) (holds : LineContent) : Type 0 where
  pub blanks : List (List ℕ)
  pub first : List ℕ
  pub are_blank : AreBlank old.words blanks
  pub is_line : IsLine first
  pub holds_it : held_by old.words first ≡ holds
  pub has_words : holds ≢ line.Blank
  pub bytes_are : old.held ≡ ended blanks ++ (first ++ 10 ∷ new.held)
  pub after : new ≡ moved_past old (length blanks + 1) new.held

-- ended lines without words were passed
pub record PassedBlanks (old new : Seen) : Type 0 where
  pub blanks : List (List ℕ)
  pub are_blank : AreBlank old.words blanks
  pub bytes_are : old.held ≡ ended blanks ++ new.held
  pub after : new ≡ moved_past old (length blanks) new.held

-- ended lines were passed up to the first that has words, if there is one
abbrev pub MayPassFilled : Seen → Seen → Option LineContent → Type 0
MayPassFilled old new None = PassedBlanks old new × IsLine new.held
MayPassFilled old new (Some holds) = PassesFilled old new holds

-- the first line was passed, whose first words were read before
pub record EndsLine (old new : Seen) (part : PartSeen) (holds : LineContent) : Type 0 where
  pub first : List ℕ
  pub is_line : IsLine first
  pub holds_it : line_after part (numbers_of (words_of (strip_carriage_return first))) ≡ holds
  pub bytes_are : old.held ≡ first ++ 10 ∷ new.held
  pub after : new ≡ moved_past old 1 new.held

-- the first line was passed if it is ended; of the next one nothing was read
abbrev pub MayEndLine : Seen → Seen → PartSeen → PartSeen → Option LineContent → Type 0
MayEndLine old new part after None = IsLine old.held × (new ≡ old) × (after ≡ part)
MayEndLine old new part after (Some holds) = EndsLine old new part holds × (after ≡ no_part part.width)

-- ended lines without words were passed, and what is at hand stands for a line that isn't ended
pub record PassedRead (old new : Seen) (part : PartSeen) : Type 0 where
  pub so_far : List ℕ
  pub passed : PassedBlanks old (record new { held = so_far })
  pub stands : StandsFor part new.held so_far
  pub fits : FitsIn part new

-- ended lines were passed up to the first that has words, if there is one
abbrev pub MayPassRead : Seen → Seen → PartSeen → Option LineContent → Type 0
MayPassRead old new part None = PassedRead old new part
MayPassRead old new part (Some holds) = PassesFilled old new holds

-- some lines were passed, or none
abbrev pub OnlyPasses : Seen → Seen → Type 0
OnlyPasses old new = new ≡ record old { held = new.held; passed = new.passed }

-- the line that the end of the input ends was passed
pub record PassesLast (old new : Seen) (holds : LineContent) : Type 0 where
  pub holds_it : held_by old.words old.held ≡ holds
  pub after : new ≡ moved_past old (length (last_line stop.End old.held)) []

-- a piece was taken, or the end was met; out of memory, a piece is lost
pub record TakesPiece (old new : Seen) (source : Change (List ℕ)) (piece held : List ℕ) : Type 0 where
  pub short : length piece ≤ 4096
  pub after : new ≡ record old { held = held; taken = old.taken + length piece; at_end = new.at_end }
  pub within : new.taken ≤ new.limit
  pub below : new.at_end ≡ true → new.taken < new.limit
  pub given : IsTaken source piece
  pub all : new.at_end ≡ true → IsAtEnd source.new.content

-- the result of one request to the source
abbrev pub RequestsOnce : Seen → Seen → Change (List ℕ) → Result (Result (Unit {0}) Failed) NoMemory → Type 0
RequestsOnce old new source (Ok (Ok done)) =
    (piece : List ℕ) × TakesPiece old new source piece (old.held ++ piece) × ((0 < length piece) ⊎ (new.at_end ≡ true))
RequestsOnce old new source (Ok (Err failed)) = (new ≡ old) × IsTaken source []
RequestsOnce old new source (Err want) = (piece : List ℕ) × TakesPiece old new source piece old.held
