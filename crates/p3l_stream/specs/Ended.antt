-- Lines as bytes have them, each ended by a line feed.
use Rattle.std.specs.Prelude.{◌≡◌, ◌≢◌, ℕ, List, [], ◌∷◌, ◌++◌, None, position}
use Rattle.std.specs.Str.Lines.{strip_carriage_return}
use Rattle.p3l_stream.specs.declared.line.LineContent.{LineContent}
use Rattle.p3l_stream.specs.declared.line.LineContent.TheVariants as line
use Rattle.p3l_stream.specs.Lines.{is_feed, line_of}

-- no byte of a line is a line feed
abbrev pub IsLine : List ℕ → Type 0
IsLine bytes = position is_feed bytes ≡ None

-- the content of a line, which may have a carriage return before its end
abbrev pub held_by : ℕ → List ℕ → LineContent
held_by width bytes = line_of width (strip_carriage_return bytes)

-- lines, each ended by a line feed
abbrev pub ended : List (List ℕ) → List ℕ
ended [] = []
ended (bytes ∷ lines) = bytes ++ 10 ∷ ended lines

-- they are lines without words
abbrev pub AreBlank : ℕ → List (List ℕ) → Type 0
AreBlank width [] = Unit {0}
AreBlank width (bytes ∷ lines) = IsLine bytes × (held_by width bytes ≡ line.Blank) × AreBlank width lines

-- some lines without words come first, and then an ended one that has some
pub record HasLine (width : ℕ) (bytes : List ℕ) : Type 0 where
  pub blanks : List (List ℕ)
  pub first : List ℕ
  pub after : List ℕ
  pub are_blank : AreBlank width blanks
  pub is_line : IsLine first
  pub has_words : held_by width first ≢ line.Blank
  pub bytes_are : bytes ≡ ended blanks ++ (first ++ 10 ∷ after)
