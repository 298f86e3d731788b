-- The numbers that words write.
use Rattle.std.proofs.Common.{◌≡◌, ℕ, zero, suc, lit<, nat_le, nat_lt, w64, ◌<◌, ◌≤◌, ◌^◌, ℤ, Bool, true, false, ◌&&◌, cond, List, [], ◌∷◌, ◌++◌, length, drop, Result, Ok, Err, refl, sym, ◌∙◌, arith, rules}
use Rattle.std.specs.Char.{is_ascii_digit}
use Rattle.std.specs.List.{list_all}
use Rattle.std.specs.Str.{IsAscii, IsUtf8}
use Rattle.std.specs.Str.Parse.{ParsesSigned, digits_value, starts_with_minus}
use Rattle.std.proofs.lemmas.Bool.{cond-false, cond-true, eqb-true, false_from_ne_true, leb-true, ltb-true}
use Rattle.std.proofs.lemmas.Fmt.{IsAscii-from_digits}
use Rattle.std.proofs.lemmas.Str.{IsAscii-append, IsUtf8-from_ascii}
use Rattle.std.proofs.lemmas.Str.Parse.{IsDigitsTest, IsNumeralModel, numerals_by_value, parse_signed_digits, parse_signed_minus}
use Rattle.p3l_stream.specs.declared.word.WordFault.{WordFault}
use Rattle.p3l_stream.specs.declared.word.WordFault.TheVariants as fault
use Rattle.p3l_stream.specs.Words.{is_filled, is_numeral, number_of, signed_number}

-- numbers before others, where none of these is at fault
abbrev pub put_numbers : List ℤ → Result (List ℤ) WordFault → Result (List ℤ) WordFault
put_numbers numbers (Err first) = Err first
put_numbers numbers (Ok more) = Ok (numbers ++ more)

tells_digits : IsDigitsTest (λ ds. list_all is_ascii_digit ds ≡ true)
tells_digits = search rules

own : IsNumeralModel (λ ds. list_all is_ascii_digit ds ≡ true) (digits_value 10)
own = numerals_by_value _ tells_digits

too_low : (n : ℕ) → (n ≤ 2 ^ 63 → ⊥) → signed_number true n ≡ Err fault.Range
too_low n past = cond-false (nat_le n (2 ^ 63)) _ _ (false_from_ne_true _ (λ within. past (leb-true n (2 ^ 63) within)))

too_high : (n : ℕ) → (n < 2 ^ 63 → ⊥) → signed_number false n ≡ Err fault.Range
too_high n past = cond-false (nat_lt n (2 ^ 63)) _ _ (false_from_ne_true _ (λ within. past (ltb-true n (2 ^ 63) within)))

left_true : (a b : Bool) → (a && b) ≡ true → a ≡ true
left_true true b both = refl
left_true false b both = absurd cc

right_true : (a b : Bool) → (a && b) ≡ true → b ≡ true
right_true true b both = both
right_true false b both = absurd cc

filled_length : (bytes : List ℕ) → is_filled bytes ≡ true → 0 < length bytes
filled_length [] filled = absurd cc
filled_length (byte ∷ bytes) filled = omega arith

-- a numeral that `parse` refuses is out of range
pub number_of-refused : {E : Type 0} (word : List ℕ) (e : E) → is_numeral word ≡ true → ParsesSigned w64 10 word (Err e) → Err fault.Range ≡ number_of word
number_of-refused word e numeral parses =
    elim (starts_with_minus word) as (
    λ b. starts_with_minus word ≡ b → (is_filled (cond b (drop 1 word) word) && list_all is_ascii_digit (cond b (drop 1 word) word)) ≡ true
    → Err fault.Range ≡ signed_number b (digits_value 10 (cond b (drop 1 word) word))
    ) [
      | true ↦ λ minus both.
          let digits : list_all is_ascii_digit (drop 1 word) ≡ true = right_true (is_filled (drop 1 word)) _ both in
          let some : 0 < length (drop 1 word) = filled_length (drop 1 word) (left_true (is_filled (drop 1 word)) _ both) in
          sym (too_low _ (λ within. parse_signed_minus own w64 word (Err e) parses (eqb-true _ _ minus) (digits, some, within)))
      | false ↦ λ plain both.
          let digits : list_all is_ascii_digit word ≡ true = right_true (is_filled word) _ both in
          let some : 0 < length word = filled_length word (left_true (is_filled word) _ both) in
          sym (too_high _ (λ within. parse_signed_digits own w64 word (Err e) parses digits (some, within)))
    ] refl numeral
    ∙ sym (cond-true (is_numeral word) _ _ numeral)

ascii_one : (byte : ℕ) → byte < 128 → IsAscii (byte ∷ [])
ascii_one byte small zero = small
ascii_one byte small (suc i) = lit< tt

minus_first : (word : List ℕ) → starts_with_minus word ≡ true → IsAscii (drop 1 word) → IsAscii word
minus_first [] minus rest = absurd cc
minus_first (byte ∷ bytes) minus rest =
    IsAscii-append (byte ∷ []) bytes (ascii_one byte (let is : byte ≡ 45 = eqb-true byte 45 minus in omega arith)) rest

-- a numeral is text
pub IsUtf8-numeral : (word : List ℕ) → is_numeral word ≡ true → IsUtf8 word
IsUtf8-numeral word numeral =
    IsUtf8-from_ascii word (
    elim (starts_with_minus word) as (
    λ b. starts_with_minus word ≡ b → (is_filled (cond b (drop 1 word) word) && list_all is_ascii_digit (cond b (drop 1 word) word)) ≡ true → IsAscii word
    ) [
      | true ↦ λ minus both. minus_first word minus (IsAscii-from_digits _ (own.to _ (right_true (is_filled (drop 1 word)) _ both)))
      | false ↦ λ plain both. IsAscii-from_digits _ (own.to _ (right_true (is_filled word) _ both))
    ] refl numeral
    )
