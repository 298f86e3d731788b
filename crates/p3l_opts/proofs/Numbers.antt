-- Numbers above 0 as digits spell them.
use Rattle.std.proofs.Common.{◌≡◌, ℕ, zero, suc, ◌<◌, ◌≤◌, ◌^◌, List, [], ◌∷◌, length, get_or, Option, Some, None, IfSome, IfNone, sym, ap, ◌∙◌, arith}
use Rattle.std.specs.declared.result.Result.{Result}
use Rattle.std.specs.declared.result.Result.TheVariants.{Ok, Err}
use Rattle.std.specs.Fmt.{decimal}
use Rattle.std.specs.Result.{result_ok}
use Rattle.std.specs.Int.{IsInRange}
use Rattle.std.specs.Str.Parse.{AllDigits, digits_value, ParsesUnsigned}
use Rattle.std.proofs.lemmas.Str.Parse.{IsNumeralModel, numerals_by_value, tells_digits, parse_plain, digit_at}
use Rattle.std.proofs.lemmas.Fmt.{parse-decimal, first_decimal, digits_decimal, decimal-digits_value, decimal_digit, decimal_nonempty, decimal_injective}

digits : IsNumeralModel (AllDigits 10) (digits_value 10)
digits = numerals_by_value (AllDigits 10) tells_digits

-- digits that begin with 1 to 9 are the decimal spelling of their value
spelled : (x : ℕ) (ds : List ℕ) → AllDigits 10 ds → 0 < length ds → 48 < get_or ds 0 0 → digits_value 10 ds < 2 ^ 64 → x ≡ digits_value 10 ds → (1 ≤ x) × (x < 2 ^ 64) × (ds ≡ decimal x)
spelled x ds all some first fits e =
    let back : decimal (digits_value 10 ds) ≡ ds = decimal-digits_value digits ds all some (λ z. absurd (omega arith)) (omega arith) in
    let same : decimal x ≡ ds = ap decimal e ∙ back in
    (above x same, omega arith, sym same)
  where
    above : (n : ℕ) → decimal n ≡ ds → 1 ≤ n
    above zero q = absurd (let z : ds ≡ 48 ∷ [] = sym q ∙ decimal_digit 0 (omega arith) in let f : get_or ds 0 0 ≡ 48 = ap (λ l. get_or l 0 0) z in omega arith)
    above (suc n) q = omega arith

pub parsed : {E : Type 0} (ds : List ℕ) (r : Result ℕ E) (o : Option ℕ) → ParsesUnsigned 64 10 ds r → 48 < get_or ds 0 0 → o ≡ result_ok r → IfSome o (λ n. (1 ≤ n) × (n < 2 ^ 64) × (ds ≡ decimal n))
parsed ds r None p h e = tt
parsed ds (Err f) (Some n) p h e = absurd cc
parsed {E} ds (Ok x) (Some n) p h e =
    let q : ((AllDigits 10 ds) × (0 < length ds) × (digits_value 10 ds < 2 ^ 64)) × (x ≡ digits_value 10 ds) = parse_plain digits {E = E} 64 ds (Ok x) p (λ z. absurd (omega arith)) in
    let same : n ≡ x = cc in
    spelled n ds q.0.0 q.0.1 h q.0.2 (same ∙ q.1)

-- digits that aren't parsed spell no number above 0
pub unparsed : {E : Type 0} (ds : List ℕ) (r : Result ℕ E) (o : Option ℕ) → ParsesUnsigned 64 10 ds r → o ≡ result_ok r → IfNone o ((n : ℕ) → 1 ≤ n → n < 2 ^ 64 → ds ≡ decimal n → ⊥)
unparsed ds r (Some n) p e = tt
unparsed {E} ds r None p e = λ n low high same. (
    let q : r ≡ Ok n = parse-decimal 64 n ds r high (omega arith) same p in
    let ok : Result ℕ E = Ok n in
    let z : None ≡ result_ok ok = e ∙ ap result_ok q in
    cc)

-- a number above 0 begins with a digit from 1 to 9
pub first_digit : (n : ℕ) (ds : List ℕ) → 1 ≤ n → n < 2 ^ 64 → ds ≡ decimal n → (48 < get_or ds 0 0) × (get_or ds 0 0 < 58)
first_digit n ds low high e =
    let first : 48 < get_or (decimal n) 0 0 = first_decimal n low (omega arith) in
    let range : IsInRange 48 57 (get_or (decimal n) 0 0) = digit_at (decimal n) 0 (digits_decimal digits n (omega arith)) (decimal_nonempty n (omega arith)) in
    let same : get_or ds 0 0 ≡ get_or (decimal n) 0 0 = ap (λ l. get_or l 0 0) e in
    (omega arith, omega (arith, range.1))

-- no number is spelled as a greater one
pub not_greater : (m n : ℕ) (ds : List ℕ) → m < n → n < 2 ^ 64 → ds ≡ decimal m → ds ≡ decimal n → ⊥
not_greater m n ds h high p q =
    let same : m ≡ n = decimal_injective m n (omega arith) (omega arith) (sym p ∙ q) in omega arith

-- 0 is spelled so
pub zero_digit : (word : List ℕ) → word ≡ 48 ∷ [] → (0 < 2 ^ 64) × (word ≡ decimal 0)
zero_digit word is = (omega arith, is ∙ sym (decimal_digit 0 (omega arith)))

-- a word that spells no number above 0 and isn't `0` spells no number
pub no_number : (o : Option ℕ) (word : List ℕ) → IfNone o ((n : ℕ) → 1 ≤ n → n < 2 ^ 64 → word ≡ decimal n → ⊥) → (word ≡ 48 ∷ [] → ⊥) → IfNone o ((n : ℕ) → n < 2 ^ 64 → word ≡ decimal n → ⊥)
no_number (Some n) word above other = tt
no_number None word above other = by
  where
    by : (n : ℕ) → n < 2 ^ 64 → word ≡ decimal n → ⊥
    by zero low is = other (is ∙ decimal_digit 0 (omega arith))
    by (suc n) low is = above (suc n) (omega arith) low is
