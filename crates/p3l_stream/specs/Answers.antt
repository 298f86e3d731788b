-- Answers of a call of the stream.
use Rattle.std.specs.Prelude.{◌≡◌, ℕ, ◌+◌, ◌<◌, ◌≤◌, Bool, true, false, List, [], ◌∷◌, ◌++◌, ◌⊎◌, length, Option, Some, None, Result, Ok, Err}
use Rattle.p3l_base.specs.declared.NoMemory.{NoMemory}
use Rattle.p3l_io.specs.Change.{Change, HasRisen, HasSameFaults}
use Rattle.p3l_io.specs.declared.fault.Failed.{Failed}
use Rattle.p3l_stream.specs.declared.line.LineContent.{LineContent}
use Rattle.p3l_stream.specs.declared.line.LineContent.TheVariants as line
use Rattle.p3l_stream.specs.declared.items.Ending.TheVariants as ending
use Rattle.p3l_stream.specs.declared.taken.Cutoff.TheVariants as stop
use Rattle.p3l_stream.specs.Ended.{AreBlank, IsLine, ended, held_by}
use Rattle.p3l_stream.specs.Given.{GivenCause}
use Rattle.p3l_stream.specs.Lines.{last_line}
use Rattle.p3l_stream.specs.Seen.{Answer, Seen, closed_by}
use Rattle.p3l_stream.specs.Taken.{IsTaken}

-- nothing is left, where that is known
abbrev pub IsAtEnd : Option (List ℕ) → Type 0
IsAtEnd None = Unit {0}
IsAtEnd (Some left) = left ≡ []

-- these bytes were taken: none where the source was at its end before, and all where it came to its end
pub record Takes (old new : Seen) (source : Change (List ℕ)) (got : List ℕ) : Type 0 where
  pub same_words : new.words ≡ old.words
  pub same_limit : new.limit ≡ old.limit
  pub counted : new.taken ≡ old.taken + length got
  pub within : new.taken ≤ new.limit
  pub below : new.at_end ≡ true → new.taken < new.limit
  pub given : IsTaken source got
  pub once : old.at_end ≡ true → (got ≡ []) × (new.at_end ≡ true)
  pub all : old.at_end ≡ false → new.at_end ≡ true → IsAtEnd source.new.content

-- a line comes before other bytes, ended by a line feed, or by the end of the input with nothing
-- after it
abbrev pub IsBefore : Bool → List ℕ → List ℕ → List ℕ → Type 0
IsBefore at_end bytes first after = (bytes ≡ first ++ 10 ∷ after) ⊎ ((at_end ≡ true) × (bytes ≡ first) × (after ≡ []))

-- the bytes have some lines without words, then one that holds this, and after them what is held; `before` lines were passed, and `now` are
pub record Finds (width before now : ℕ) (at_end : Bool) (bytes held : List ℕ) (holds : LineContent) : Type 0 where
  pub blanks : List (List ℕ)
  pub first : List ℕ
  pub after_blanks : List ℕ
  pub are_blank : AreBlank width blanks
  pub is_line : IsLine first
  pub holds_it : held_by width first ≡ holds
  pub bytes_are : bytes ≡ ended blanks ++ after_blanks
  pub stands : IsBefore at_end after_blanks first held
  pub counted : now ≡ before + (length blanks + 1)

-- the bytes have lines without words alone, and after them this part of a line, which counts as
-- `count`
pub record RunsOut (width before now count : ℕ) (bytes part : List ℕ) : Type 0 where
  pub blanks : List (List ℕ)
  pub are_blank : AreBlank width blanks
  pub is_line : IsLine part
  pub bytes_are : bytes ≡ ended blanks ++ part
  pub counted : now ≡ before + (length blanks + count)

-- the next line with words of an open stream that has these bytes to answer
abbrev pub FindsLine : Seen → Seen → List ℕ → LineContent → Type 0
FindsLine old new bytes holds = Finds old.words old.passed new.passed new.at_end bytes new.held holds

-- the lines of an open stream that has these bytes to answer have no words; a part that is no line is dropped
abbrev pub FindsNone : Seen → Seen → List ℕ → Type 0
FindsNone old new bytes = (part : List ℕ) × RunsOut old.words old.passed new.passed 0 bytes part × (new.held ≡ [])

-- the lines of an open stream that has these bytes to answer have no words, up to the end of the input
abbrev pub FindsEnd : Seen → Seen → List ℕ → Type 0
FindsEnd old new bytes =
    (part : List ℕ) × RunsOut old.words old.passed new.passed (length (last_line stop.End part)) bytes part
    × (held_by old.words part ≡ line.Blank) × (new.held ≡ [])

-- the answer of an open stream that has these bytes to answer
abbrev pub AnswerOf : Seen → Seen → List ℕ → Result Answer NoMemory → Type 0
AnswerOf old new bytes (Ok (Ok words)) = FindsLine old new bytes (line.Item words)
AnswerOf old new bytes (Ok (Err ending.End)) = FindsEnd old new bytes × (new.at_end ≡ true)
AnswerOf old new bytes (Ok (Err (ending.BadWord number))) = FindsLine old new bytes line.BadWord × (number ≡ new.passed)
AnswerOf old new bytes (Ok (Err (ending.WrongCount number had))) = FindsLine old new bytes (line.WrongCount had) × (number ≡ new.passed)
AnswerOf old new bytes (Ok (Err (ending.OutOfRange number))) = FindsLine old new bytes line.OutOfRange × (number ≡ new.passed)
AnswerOf old new bytes (Ok (Err ending.ReadFault)) = FindsNone old new bytes × (new.at_end ≡ false) × (new.taken < new.limit)
AnswerOf old new bytes (Ok (Err ending.TooLong)) = FindsNone old new bytes × (new.taken ≡ new.limit)
AnswerOf old new bytes (Err e) = Unit {0}

-- a call of an open stream takes these bytes, and answers so
pub record Answers (old new : Seen) (source : Change (List ℕ)) (result : Result Answer NoMemory) : Type 0 where
  pub got : List ℕ
  pub takes : Takes old new source got
  pub answer : AnswerOf old new (old.held ++ got) result

-- the answer by a line of this number; one without words is the last
abbrev pub answer_for : LineContent → ℕ → Answer
answer_for line.Blank number = Err ending.End
answer_for (line.Item words) number = Ok words
answer_for line.BadWord number = Err (ending.BadWord number)
answer_for (line.WrongCount had) number = Err (ending.WrongCount number had)
answer_for line.OutOfRange number = Err (ending.OutOfRange number)

-- only a fault of reading raises the count of the source
abbrev pub NextCause : Result Answer NoMemory → (source : Change (List ℕ)) → Type 0
NextCause result source = GivenCause (closed_by result) source

-- the same of one request
abbrev pub TakeCause : Result (Result (Unit {0}) Failed) NoMemory → (source : Change (List ℕ)) → Type 0
TakeCause (Ok (Err failed)) source = HasRisen source
TakeCause _ source = HasSameFaults source
