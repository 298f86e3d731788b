-- Picks in a text.
use Rattle.std.specs.Prelude.{◌≡◌, ℕ, ◌+◌, ◌^◌, Bool, true, false, not, ◌&&◌, ◌||◌, ◌==◌, nat_lt, List, [], ◌∷◌, ◌++◌, count_by, Option, Some, None, Result, Ok, Err, if◌then◌else◌}
use Rattle.std.specs.Char.{is_ascii_digit}
use Rattle.std.specs.List.{list_all}
use Rattle.std.specs.Str.Parse.{digits_value}
use Rattle.p3l_sched.specs.declared.refusal.PickRefusal.{PickRefusal}
use Rattle.p3l_sched.specs.declared.refusal.PickRefusal.TheVariants as refusal
use Rattle.p3l_base.specs.Memory.{Refused}

-- spaces, tabs, carriage returns and line feeds separate words
abbrev pub is_gap : ℕ → Bool
is_gap byte = byte == 32 || byte == 9 || byte == 13 || byte == 10

-- a byte of a word
abbrev pub is_of_word : ℕ → Bool
is_of_word byte = not (is_gap byte)

-- a line feed begins a new line
abbrev pub is_feed : ℕ → Bool
is_feed byte = byte == 10

-- bytes that separate words
abbrev pub AreGap : List ℕ → Type 0
AreGap [] = Unit {0}
AreGap (byte ∷ bytes) = (is_gap byte ≡ true) × AreGap bytes

-- bytes of a word
abbrev pub AreOfWord : List ℕ → Type 0
AreOfWord [] = Unit {0}
AreOfWord (byte ∷ bytes) = (is_gap byte ≡ false) × AreOfWord bytes

-- a word has a byte
abbrev pub IsWord : List ℕ → Type 0
IsWord [] = ⊥
IsWord (byte ∷ bytes) = AreOfWord (byte ∷ bytes)

-- a word ends before these bytes: there is none, or the first separates words
abbrev pub EndsWord : List ℕ → Type 0
EndsWord [] = Unit {0}
EndsWord (byte ∷ bytes) = is_gap byte ≡ true

-- the text is a gap, a word and what is after it
pub record IsAtWord (text gap word after : List ℕ) : Type 0 where
  pub text_is : text ≡ gap ++ (word ++ after)
  pub are_gap : AreGap gap
  pub is_word : IsWord word
  pub ends : EndsWord after

-- the first word with what comes before and after it, or there is none
abbrev pub IsNextWord : List ℕ → Option (List ℕ × List ℕ × List ℕ) → Type 0
IsNextWord text None = AreGap text
IsNextWord text (Some (gap, word, after)) = IsAtWord text gap word after

-- the number that a word writes in decimal digits, if it is below 2^64
abbrev pub number_of : List ℕ → Option ℕ
number_of word = if list_all is_ascii_digit word && nat_lt (digits_value 10 word) (2 ^ 64) then Some (digits_value 10 word) else None

-- the pick of a number, which is below the count of processes
abbrev pub pick_from : ℕ → ℕ → Option ℕ → Result ℕ PickRefusal
pick_from count line None = Err (refusal.BadPick line)
pick_from count line (Some pick) = if nat_lt pick count then Ok pick else Err (refusal.NoSuchProcess line pick count)

-- the pick that a word of this line writes
abbrev pub pick_of : ℕ → ℕ → List ℕ → Result ℕ PickRefusal
pick_of count line word = pick_from count line (number_of word)

-- the picks of the first words of a text that begins at line `line`; after them this rest begins, at line `last`
abbrev pub AreRead : ℕ → ℕ → List ℕ → List ℕ → ℕ → List ℕ → Type 0
AreRead count line text [] last rest = (line ≡ last) × (text ≡ rest)
AreRead count line text (pick ∷ picks) last rest =
    (gap : List ℕ) × (word : List ℕ) × (after : List ℕ) × IsAtWord text gap word after
    × (pick_of count (line + count_by is_feed gap) word ≡ Ok pick) × AreRead count (line + count_by is_feed gap) after picks last rest

-- a word is refused, and each before it is a pick
pub record IsFirstRefused (text : List ℕ) (count : ℕ) (refused : PickRefusal) : Type 0 where
  pub picks : List ℕ
  pub line : ℕ
  pub rest : List ℕ
  pub gap : List ℕ
  pub word : List ℕ
  pub after : List ℕ
  pub before : AreRead count 1 text picks line rest
  pub at : IsAtWord rest gap word after
  pub is_refused : pick_of count (line + count_by is_feed gap) word ≡ Err refused

-- all words are picks, and these; or the first that is none is refused
abbrev pub Reads : List ℕ → ℕ → Result (List ℕ) PickRefusal → Type 0
Reads text count (Ok picks) = (last : ℕ) × (rest : List ℕ) × AreRead count 1 text picks last rest × AreGap rest
Reads text count (Err refusal.NoMemory) = Refused
Reads text count (Err (refusal.BadPick line)) = IsFirstRefused text count (refusal.BadPick line)
Reads text count (Err (refusal.NoSuchProcess line pick of_count)) = IsFirstRefused text count (refusal.NoSuchProcess line pick of_count)
