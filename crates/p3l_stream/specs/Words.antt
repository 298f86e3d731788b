-- The words of a line, and the numbers that they write.
use Rattle.std.specs.Prelude.{◌≡◌, ℕ, ◌^◌, ◌<◌, ℤ, pos, neg_ℤ, Bool, true, false, not, ◌&&◌, ◌||◌, ◌==◌, nat_le, nat_lt, List, [], ◌∷◌, length, drop, filter, Option, Some, None, Result, Ok, Err, if◌then◌else◌}
use Rattle.std.specs.Char.{is_ascii_digit}
use Rattle.std.specs.List.{list_all, slice_split}
use Rattle.std.specs.Str.Parse.{digits_value, starts_with_minus}
use Rattle.p3l_stream.specs.declared.word.WordFault.{WordFault}
use Rattle.p3l_stream.specs.declared.word.WordFault.TheVariants as fault

-- spaces and tabs separate words
abbrev pub is_blank : ℕ → Bool
is_blank byte = byte == 32 || byte == 9

-- there is a byte
abbrev pub is_filled : List ℕ → Bool
is_filled [] = false
is_filled (byte ∷ bytes) = true

-- the words of a line: its parts between blanks, but for the empty ones
abbrev pub words_of : List ℕ → List (List ℕ)
words_of line = filter is_filled (slice_split is_blank line)

-- a byte of a word
abbrev pub is_of_word : ℕ → Bool
is_of_word byte = not (is_blank byte)

-- this word comes first, and these bytes have the others; or there is no word
abbrev pub IsFirstWord : List ℕ → Option (List ℕ × List ℕ) → Type 0
IsFirstWord bytes None = words_of bytes ≡ []
IsFirstWord bytes (Some (word, after)) = (words_of bytes ≡ word ∷ words_of after) × (length after < length bytes)

-- a word after its minus sign, if it has one
abbrev pub digits_of : List ℕ → List ℕ
digits_of word = if starts_with_minus word then drop 1 word else word

-- an optional minus sign, and one or more digits
abbrev pub is_numeral : List ℕ → Bool
is_numeral word = is_filled (digits_of word) && list_all is_ascii_digit (digits_of word)

-- the number that the digits of a word write
abbrev pub magnitude : List ℕ → ℕ
magnitude word = digits_value 10 (digits_of word)

-- the number of this sign and magnitude, if it lies from -2^63 to 2^63 - 1
abbrev pub signed_number : Bool → ℕ → Result ℤ WordFault
signed_number true n = if nat_le n (2 ^ 63) then Ok (neg_ℤ (pos n)) else Err fault.Range
signed_number false n = if nat_lt n (2 ^ 63) then Ok (pos n) else Err fault.Range

-- the number that a word writes, or why it writes none
abbrev pub number_of : List ℕ → Result ℤ WordFault
number_of word = if is_numeral word then signed_number (starts_with_minus word) (magnitude word) else Err fault.Form

-- one number before others, where none is at fault; the first fault decides
abbrev pub put_number : Result ℤ WordFault → Result (List ℤ) WordFault → Result (List ℤ) WordFault
put_number (Err first) rest = Err first
put_number (Ok number) (Err first) = Err first
put_number (Ok number) (Ok numbers) = Ok (number ∷ numbers)

-- the numbers that words write, or the fault of the first word that writes none
abbrev pub numbers_of : List (List ℕ) → Result (List ℤ) WordFault
numbers_of [] = Ok []
numbers_of (word ∷ words) = put_number (number_of word) (numbers_of words)

-- the first word writes this number, or is at this fault, and these bytes have the other words; or there is no word
abbrev pub IsFirstNumber : List ℕ → Option (Result ℤ WordFault × List ℕ) → Type 0
IsFirstNumber bytes None = words_of bytes ≡ []
IsFirstNumber bytes (Some (number, after)) = (numbers_of (words_of bytes) ≡ put_number number (numbers_of (words_of after))) × (length after < length bytes)
