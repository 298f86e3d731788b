-- A line that is read before it is ended.
use Rattle.std.specs.Prelude.{◌≡◌, ℕ, zero, suc, ◌+◌, ◌≤◌, ℤ, Bool, true, false, ◌==◌, ◌||◌, List, [], ◌∷◌, ◌++◌, length, Option, Some, None, Result, Ok, Err, if◌then◌else◌}
use Rattle.std.specs.Str.Lines.{strip_carriage_return}
use Rattle.p3l_stream.specs.declared.line.LineContent.{LineContent}
use Rattle.p3l_stream.specs.declared.line.LineContent.TheVariants as line
use Rattle.p3l_stream.specs.declared.word.WordFault.{WordFault}
use Rattle.p3l_stream.specs.Ended.{IsLine, held_by}
use Rattle.p3l_stream.specs.Lines.{line_from}
use Rattle.p3l_stream.specs.Seen.{Seen}
use Rattle.p3l_stream.specs.Words.{is_filled, numbers_of, put_number, words_of}

-- the part of a line that was read: the count of words of an item; the numbers of the first words, as many as an item has at most; the
-- count of words so far; the first fault; and true if a byte was there that is held no more
pub record PartSeen : Type 0 where
  pub width : ℕ
  pub numbers : List ℤ
  pub count : ℕ
  pub fault : Option WordFault
  pub begun : Bool

-- nothing was read
abbrev pub no_part : ℕ → PartSeen
no_part width = record { width = width; numbers = []; count = 0; fault = None; begun = false }

-- there is a fault
abbrev pub has_fault : Option WordFault → Bool
has_fault None = false
has_fault (Some first) = true

abbrev pub is_faulty : PartSeen → Bool
is_faulty part = has_fault part.fault

-- the content of a line of so many words, of which these are the numbers
abbrev pub counted : ℕ → ℕ → List ℤ → LineContent
counted width zero numbers = line.Blank
counted width (suc more) numbers = if suc more == width then line.Item numbers else line.WrongCount (suc more)

-- the content of the line whose other words write these numbers
abbrev pub goes_on : Option WordFault → ℕ → ℕ → List ℤ → Result (List ℤ) WordFault → LineContent
goes_on (Some first) width count numbers others = line_from width (Err first)
goes_on None width count numbers (Err first) = line_from width (Err first)
goes_on None width count numbers (Ok others) = counted width (count + length others) (numbers ++ others)

abbrev pub line_after : PartSeen → Result (List ℤ) WordFault → LineContent
line_after part others = goes_on part.fault part.width part.count part.numbers others

-- numbers before others
abbrev pub put_each : List ℤ → Result (List ℤ) WordFault → Result (List ℤ) WordFault
put_each [] others = others
put_each (number ∷ numbers) others = put_number (Ok number) (put_each numbers others)

-- the numbers of words, before those of others
abbrev pub put_all : Result (List ℤ) WordFault → Result (List ℤ) WordFault → Result (List ℤ) WordFault
put_all (Err first) others = Err first
put_all (Ok numbers) others = put_each numbers others

-- the words that were read and the bytes at hand stand for a line so far: however it goes on, it holds what they tell
pub record StandsFor (part : PartSeen) (held so_far : List ℕ) : Type 0 where
  pub held_is : IsLine held
  pub line_is : IsLine so_far
  pub begun : is_filled so_far ≡ (part.begun || is_filled held)
  pub holds : (tail : List ℕ) → held_by part.width (so_far ++ tail) ≡ line_after part (numbers_of (words_of (strip_carriage_return (held ++ tail))))

-- a lower bound of the count of bytes that are held no more
abbrev pub behind : PartSeen → ℕ
behind part = if part.begun then 1 else 0

-- each word that was read, and each line that was passed, has a byte of those taken
pub record FitsIn (part : PartSeen) (s : Seen) : Type 0 where
  pub width : part.width ≡ s.words
  pub count : part.count + length s.held ≤ s.taken
  pub number : behind part + s.passed + length s.held ≤ s.taken
