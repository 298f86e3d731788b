-- Long words that aren't ended.
use Rattle.std.specs.Prelude.{◌≡◌, ℕ, ◌<◌, Bool, true, false, ◌==◌, List, length, take, None, Err, position}
use Rattle.std.specs.Char.{is_ascii_digit}
use Rattle.std.specs.List.{list_all}
use Rattle.std.specs.Str.Parse.{starts_with_minus}
use Rattle.p3l_stream.specs.declared.long.Shortening.{Shortening}
use Rattle.p3l_stream.specs.declared.long.Shortening.TheVariants as short
use Rattle.p3l_stream.specs.declared.word.WordFault.TheVariants as fault
use Rattle.p3l_stream.specs.Words.{digits_of, is_blank, is_filled, is_numeral, number_of}

abbrev pub is_zero : ℕ → Bool
is_zero byte = byte == 48

-- a byte of the word is no digit, and none is a blank
pub record IsRefused (word : List ℕ) : Type 0 where
  pub filled : is_filled (digits_of word) ≡ true
  pub no_digits : list_all is_ascii_digit (digits_of word) ≡ false
  pub is_word : position is_blank word ≡ None

-- zeros come before other digits of a numeral
pub record HasZeros (word : List ℕ) (minus : Bool) (count : ℕ) : Type 0 where
  pub numeral : is_numeral word ≡ true
  pub sign : starts_with_minus word ≡ minus
  pub before : count < length (digits_of word)
  pub zeros : list_all is_zero (take count (digits_of word)) ≡ true

-- why a word can be shortened so
abbrev pub CanShorten : List ℕ → Shortening → Type 0
CanShorten word short.None = Unit {0}
CanShorten word short.Refused = IsRefused word
CanShorten word short.TooGreat = number_of word ≡ Err fault.Range
CanShorten word (short.Zeros minus count) = HasZeros word minus count
