-- The numbers that words write.
use Rattle.std.proofs.Common.{◌≡◌, ◌≢◌, ℕ, nat_lt, ◌<◌, ◌^◌, true, ◌&&◌, List, [], ◌∷◌, length, Option, Some, Result, Ok, Err, refl, sym, ap, ◌∙◌, arith, rules}
use Rattle.std.specs.Char.{is_ascii_digit}
use Rattle.std.specs.List.{list_all}
use Rattle.std.specs.Result.{result_ok}
use Rattle.std.specs.Str.{IsUtf8}
use Rattle.std.specs.Str.Parse.{ParsesUnsigned, digits_value}
use Rattle.std.proofs.lemmas.Bool.{cond-false, cond-true, false_from_ne_true, ltb-true}
use Rattle.std.proofs.lemmas.Fmt.{IsAscii-from_digits}
use Rattle.std.proofs.lemmas.Str.{IsUtf8-from_ascii}
use Rattle.std.proofs.lemmas.Str.Parse.{IsDigitsTest, IsNumeralModel, numerals_by_value, parse_digits}
use Rattle.p3l_sched.specs.Picks.{number_of}

tells_digits : IsDigitsTest (λ ds. list_all is_ascii_digit ds ≡ true)
tells_digits = search rules

own : IsNumeralModel (λ ds. list_all is_ascii_digit ds ≡ true) (digits_value 10)
own = numerals_by_value _ tells_digits

-- digits are text
pub IsUtf8-digits : (word : List ℕ) → list_all is_ascii_digit word ≡ true → IsUtf8 word
IsUtf8-digits word digits = IsUtf8-from_ascii word (IsAscii-from_digits _ (own.to _ digits))

some_length : (word : List ℕ) → word ≢ [] → 0 < length word
some_length [] some = absurd (some refl)
some_length (byte ∷ bytes) some = omega arith

test_of : (n : ℕ) → n < 2 ^ 64 → nat_lt n (2 ^ 64) ≡ true
test_of n below = search rules

-- a parsed word gives its number
pub parsed : {E : Type 0} (word : List ℕ) (r : Result ℕ E) (o : Option ℕ) → list_all is_ascii_digit word ≡ true → word ≢ [] → ParsesUnsigned 64 10 word r → o ≡ result_ok r → o ≡ number_of word
parsed {E} word (Ok x) o digits some p is =
    let q : ((0 < length word) × (digits_value 10 word < 2 ^ 64)) × (x ≡ digits_value 10 word) = parse_digits own {E = E} 64 word (Ok x) p digits in
    is ∙ ap (λ (n : ℕ). Some n) q.1
    ∙ sym (cond-true (list_all is_ascii_digit word && nat_lt (digits_value 10 word) (2 ^ 64)) _ _ (ap (λ b. b && nat_lt (digits_value 10 word) (2 ^ 64)) digits ∙ test_of _ q.0.1))
parsed {E} word (Err e) o digits some p is =
    let no : ((0 < length word) × (digits_value 10 word < 2 ^ 64)) → ⊥ = parse_digits own {E = E} 64 word (Err e) p digits in
    is ∙ sym (cond-false (list_all is_ascii_digit word && nat_lt (digits_value 10 word) (2 ^ 64)) _ _
    (ap (λ b. b && nat_lt (digits_value 10 word) (2 ^ 64)) digits ∙ false_from_ne_true _ (λ below. no (some_length word some, ltb-true _ (2 ^ 64) below))))
