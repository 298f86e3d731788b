-- Numerals of at most 18 digits, which are within 64 bits.
use Rattle.std.proofs.Common.{◌≡◌, ℕ, zero, suc, w64, ◌+◌, ◌*◌, ◌^◌, ◌<◌, ◌≤◌, ℤ, pos, neg_ℤ, ◌-ℤ◌, to_z, of_z, Bool, true, false, nat_le, nat_lt, cond, List, [], ◌∷◌, ◌&&◌, ◌||◌, ◌==◌, length, length-take, get_or, take, drop, add-one, Some, Result, Ok, Err, position, refl, sym, ap, subst, ◌∙◌, arith, pow-add}
use Rattle.std.specs.Prelude.{FitsSigned}
use Rattle.std.specs.Char.{is_ascii_digit}
use Rattle.std.specs.List.{AllPass, list_all}
use Rattle.std.specs.Str.Parse.{digits_value, starts_with_minus}
use Rattle.std.proofs.Math.Nat.{pow-le-pow_right}
use Rattle.std.proofs.lemmas.Bool.{cond-true, and_from, and_parts, leb-true, le-leb, ltb-true, lt-ltb, or_left, or_right}
use Rattle.std.proofs.lemmas.Bool.Decides.{nat_tests}
use Rattle.std.proofs.lemmas.Int.{to_z-of_z, to_z_pos}
use Rattle.std.proofs.lemmas.List.{get_or-take}
use Rattle.std.proofs.lemmas.List.Elements.{All-get_or}
use Rattle.std.proofs.lemmas.List.Sums.{AllPass-from_list_all, position_or_len_is}
use Rattle.std.proofs.Math.IntN.{+ℤ_idl}
use Rattle.p3l_stream.specs.declared.word.WordFault.{WordFault}
use Rattle.p3l_stream.specs.declared.word.WordFault.TheVariants as fault
use Rattle.p3l_stream.specs.Words.{IsFirstNumber, IsFirstWord, is_blank, is_filled, is_numeral, is_of_word, magnitude, number_of, numbers_of, put_number, signed_number, words_of}
use Rattle.p3l_stream.proofs.Positions.{unwrap_or-position}
use Rattle.p3l_stream.proofs.WordsApart.{IsFirstWord-found, word_len}
use Rattle.p3l_stream.specs.Lines.{is_feed}

-- one more digit stays below the next power
pub digit_more : (value digit count : ℕ) → value < 10 ^ count → digit < 10 → value * 10 + digit < 10 ^ (count + 1)
digit_more value digit count below small = omega (arith, pow-add 10 count 1)

-- at most 18 digits
pub below_top : (count : ℕ) → count ≤ 18 → 10 ^ count ≤ 10 ^ 18
below_top count few = pow-le-pow_right {n = 10} (omega arith) {j = 18} few

pub below_half : (value : ℕ) → value < 10 ^ 18 → value < 2 ^ 63
below_half value small = omega arith

-- a number of at most 2^63 with a minus sign fits
negative_fits : (n : ℕ) → n ≤ 2 ^ 63 → FitsSigned w64 (neg_ℤ (pos n))
negative_fits zero small = record { sfits = omega arith }
negative_fits (suc n) small = record { sfits = omega arith }

minus_of : (n : ℕ) → pos 0 -ℤ pos n ≡ neg_ℤ (pos n)
minus_of n = +ℤ_idl (neg_ℤ (pos n))

-- a number below 2^63, subtracted from 0
pub negated : (n : ℕ) → n < 2 ^ 63 → to_z w64 (of_z w64 (pos 0 -ℤ to_z w64 n)) ≡ neg_ℤ (pos n)
negated n small =
    ap (λ z. to_z w64 (of_z w64 (pos 0 -ℤ z))) (to_z_pos w64 n small)
    ∙ ap (λ z. to_z w64 (of_z w64 z)) (minus_of n)
    ∙ to_z-of_z w64 (neg_ℤ (pos n)) (negative_fits n (omega arith))

filled : (bytes : List ℕ) → 0 < length bytes → is_filled bytes ≡ true
filled [] some = absurd (omega arith)
filled (byte ∷ bytes) some = refl

no_minus : (byte : ℕ) → is_ascii_digit byte ≡ true → (byte == 45) ≡ false
no_minus byte digit = grind (arith, nat_tests)

-- digits do not start with a minus sign
pub plain : (bytes : List ℕ) → list_all is_ascii_digit bytes ≡ true → starts_with_minus bytes ≡ false
plain [] digits = refl
plain (byte ∷ bytes) digits = no_minus byte (and_parts (is_ascii_digit byte) (list_all is_ascii_digit bytes) digits).0

-- digits write their value
pub number_of-digits : (digits : List ℕ) → 0 < length digits → list_all is_ascii_digit digits ≡ true → digits_value 10 digits < 2 ^ 63 → number_of digits ≡ Ok (pos (digits_value 10 digits))
number_of-digits digits some all small =
    ap (λ b. cond (is_filled (cond b (drop 1 digits) digits) && list_all is_ascii_digit (cond b (drop 1 digits) digits)) (signed_number b (digits_value 10 (cond b (drop 1 digits) digits))) (Err fault.Form)) (plain digits all)
    ∙ cond-true (is_filled digits && list_all is_ascii_digit digits) _ _ (and_from _ _ (filled digits some) all)
    ∙ cond-true (nat_lt (digits_value 10 digits) (2 ^ 63)) _ _ (lt-ltb _ _ small)

-- and after a minus sign the negated one
pub number_of-minus : (digits : List ℕ) → 0 < length digits → list_all is_ascii_digit digits ≡ true → digits_value 10 digits < 2 ^ 63 → number_of (45 ∷ digits) ≡ Ok (neg_ℤ (pos (digits_value 10 digits)))
number_of-minus digits some all small =
    cond-true (is_filled digits && list_all is_ascii_digit digits) _ _ (and_from _ _ (filled digits some) all)
    ∙ cond-true (nat_le (digits_value 10 digits) (2 ^ 63)) _ _ (le-leb _ _ (omega arith))

-- the digits that bytes begin with are a numeral
pub front-digits : (bytes : List ℕ) (count value : ℕ) → (count ≡ 0 → ⊥) → count ≤ length bytes → list_all is_ascii_digit (take count bytes) ≡ true → value ≡ digits_value 10 (take count bytes) → value < 10 ^ 18 → number_of (take count bytes) ≡ Ok (to_z w64 value)
front-digits bytes count value some within all is small =
    let half : value < 2 ^ 63 = omega arith in
    number_of-digits (take count bytes) (omega (arith, length-take count bytes)) all (omega (arith, is))
    ∙ ap (λ (n : ℕ). Ok (pos n)) (sym is)
    ∙ ap Ok (sym (to_z_pos w64 value half))

-- and so are those after a minus sign, with it
pub front-minus : (bytes digits : List ℕ) (count value : ℕ) → 1 ≤ length bytes → get_or bytes 0 0 ≡ 45 → digits ≡ drop 1 bytes → (count ≡ 0 → ⊥) → count ≤ length digits → list_all is_ascii_digit (take count digits) ≡ true → value ≡ digits_value 10 (take count digits) → value < 10 ^ 18
    → number_of (take (count + 1) bytes) ≡ Ok (to_z w64 (of_z w64 (pos 0 -ℤ to_z w64 value)))
front-minus [] digits count value one minus rest some within all is small = absurd (omega arith)
front-minus (byte ∷ bytes) digits count value one minus rest some within all is small =
    let half : value < 2 ^ 63 = omega arith in
    let within_it : count ≤ length bytes = omega (arith, ap length rest) in
    let all_digits : list_all is_ascii_digit (take count bytes) ≡ true = sym (ap (λ (l : List ℕ). list_all is_ascii_digit (take count l)) rest) ∙ all in
    let value_is : value ≡ digits_value 10 (take count bytes) = is ∙ ap (λ (l : List ℕ). digits_value 10 (take count l)) rest in
    ap (λ n. number_of (take n (byte ∷ bytes))) (add-one count)
    ∙ ap (λ (b : ℕ). number_of (b ∷ take count bytes)) minus
    ∙ number_of-minus (take count bytes) (omega (arith, length-take count bytes)) all_digits (omega (arith, value_is))
    ∙ ap (λ (n : ℕ). Ok (neg_ℤ (pos n))) (sym value_is)
    ∙ ap Ok (sym (negated value half))

signed_fits : (minus : Bool) (n : ℕ) (number : ℤ) → signed_number minus n ≡ Ok number → FitsSigned w64 number
signed_fits true n number is =
    elim (nat_le n (2 ^ 63)) as (λ b. nat_le n (2 ^ 63) ≡ b → ◌≡◌ {A = Result ℤ WordFault} (cond b (Ok (neg_ℤ (pos n))) (Err fault.Range)) (Ok number) → FitsSigned w64 number) [
      | true ↦ λ within e. let it : neg_ℤ (pos n) ≡ number = cc in subst (FitsSigned w64) it (negative_fits n (leb-true n (2 ^ 63) within))
      | false ↦ λ past e. absurd cc
    ] refl is
signed_fits false n number is =
    elim (nat_lt n (2 ^ 63)) as (λ b. nat_lt n (2 ^ 63) ≡ b → ◌≡◌ {A = Result ℤ WordFault} (cond b (Ok (pos n)) (Err fault.Range)) (Ok number) → FitsSigned w64 number) [
      | true ↦ λ within e. let it : pos n ≡ number = cc in subst (FitsSigned w64) it (record { sfits = ltb-true n (2 ^ 63) within })
      | false ↦ λ past e. absurd cc
    ] refl is

-- a number that a word writes is within 64 bits
pub number_fits : (word : List ℕ) (number : ℤ) → number_of word ≡ Ok number → FitsSigned w64 number
number_fits word number is =
    elim (is_numeral word) as (λ b. cond b (signed_number (starts_with_minus word) (magnitude word)) (Err fault.Form) ≡ Ok number → FitsSigned w64 number) [
      | true ↦ λ e. signed_fits (starts_with_minus word) (magnitude word) number e
      | false ↦ λ e. absurd cc
    ] is

-- a byte that a numeral can have
abbrev pub is_numeral_byte : ℕ → Bool
is_numeral_byte byte = is_ascii_digit byte || byte == 45

pub no_blank : (byte : ℕ) → is_numeral_byte byte ≡ true → is_blank byte ≡ false
no_blank byte fits = grind (arith, nat_tests)

pub no_feed : (byte : ℕ) → is_numeral_byte byte ≡ true → is_feed byte ≡ false
no_feed byte fits = grind (arith, nat_tests)

pub no_return : (byte : ℕ) → is_numeral_byte byte ≡ true → (byte == 13) ≡ false
no_return byte fits = grind (arith, nat_tests)

-- a word that writes a number is a numeral
pub is_numeral-from_number : (word : List ℕ) (number : ℤ) → number_of word ≡ Ok number → is_numeral word ≡ true
is_numeral-from_number word number is =
    elim (is_numeral word) as (λ b. cond b (signed_number (starts_with_minus word) (magnitude word)) (Err fault.Form) ≡ Ok number → b ≡ true) [
      | true ↦ λ e. refl
      | false ↦ λ e. absurd cc
    ] is

digits_are : (bytes : List ℕ) → list_all is_ascii_digit bytes ≡ true → list_all is_numeral_byte bytes ≡ true
digits_are [] digits = refl
digits_are (byte ∷ bytes) digits =
    let both = and_parts (is_ascii_digit byte) (list_all is_ascii_digit bytes) digits in
    and_from _ _ (or_left (is_ascii_digit byte) (byte == 45) both.0) (digits_are bytes both.1)

minus_digits : (word : List ℕ) → starts_with_minus word ≡ true → list_all is_ascii_digit (drop 1 word) ≡ true → list_all is_numeral_byte word ≡ true
minus_digits [] minus digits = refl
minus_digits (byte ∷ bytes) minus digits = and_from _ _ (or_right (is_ascii_digit byte) (byte == 45) minus) (digits_are bytes digits)

-- a numeral has no other bytes
pub bytes-of_numeral : (word : List ℕ) → is_numeral word ≡ true → list_all is_numeral_byte word ≡ true
bytes-of_numeral word numeral =
    elim (starts_with_minus word) as (
    λ b. starts_with_minus word ≡ b → (is_filled (cond b (drop 1 word) word) && list_all is_ascii_digit (cond b (drop 1 word) word)) ≡ true → list_all is_numeral_byte word ≡ true
    ) [
      | true ↦ λ minus both. minus_digits word minus (and_parts (is_filled (drop 1 word)) _ both).1
      | false ↦ λ no both. digits_are word (and_parts (is_filled word) _ both).1
    ] refl numeral

-- nor has what writes a number
pub all_bytes : (word : List ℕ) (number : ℤ) → number_of word ≡ Ok number → AllPass is_numeral_byte word
all_bytes word number is = AllPass-from_list_all is_numeral_byte word (bytes-of_numeral word (is_numeral-from_number word number is))

-- bytes that begin with a numeral have its bytes there
pub byte-of_numeral : (bytes : List ℕ) (len : ℕ) (number : ℤ) → len ≤ length bytes → number_of (take len bytes) ≡ Ok number → (k : ℕ) → k < len → is_numeral_byte (get_or bytes k 0) ≡ true
byte-of_numeral bytes len number within is k below =
    let word : List ℕ = take len bytes in
    let size : length word ≡ len = length-take len bytes ∙ omega arith in
    subst (λ b. is_numeral_byte b ≡ true) (get_or-take len bytes k 0 below)
    (All-get_or (λ b. is_numeral_byte b ≡ true) word k 0 (omega (arith, size)) (all_bytes word number is))

-- a numeral before a blank or the end is the whole word
pub word_len-numeral : (bytes : List ℕ) (len : ℕ) (number : ℤ) → len ≤ length bytes → number_of (take len bytes) ≡ Ok number → (len < length bytes → is_blank (get_or bytes len 0) ≡ true) → word_len bytes ≡ len
word_len-numeral bytes len number within is ends =
    position_or_len_is is_blank bytes len 0 within (λ k below. no_blank (get_or bytes k 0) (byte-of_numeral bytes len number within is k below)) ends

-- the first word is the numeral that a blank or the end comes after
pub IsFirstNumber-plain : (bytes : List ℕ) (start : ℕ) (rest : List ℕ) (len : ℕ) (number : ℤ) (after : List ℕ) → Some start ≡ position is_of_word bytes → rest ≡ drop start bytes → len ≤ length rest → number_of (take len rest) ≡ Ok number → (len < length rest → is_blank (get_or rest len 0) ≡ true) → after ≡ drop len rest → IsFirstNumber bytes (Some (Ok number, after))
IsFirstNumber-plain bytes start rest len number after found rest_is within is ends after_is =
    let first : IsFirstWord bytes (Some (take len rest, after)) =
    IsFirstWord-found bytes start len rest (take len rest) after found rest_is (sym (unwrap_or-position is_blank rest ∙ word_len-numeral rest len number within is ends)) refl after_is in
    (ap numbers_of first.0 ∙ ap (λ r. put_number r (numbers_of (words_of after))) is, first.1)
