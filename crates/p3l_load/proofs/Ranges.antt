-- Numbers that are in the ranges of their fields, and lists of such.
use Rattle.std.proofs.Common.{◌≡◌, ℕ, ℤ, pos, negsuc, suc, ◌^◌, ◌<◌, ◌≤◌, true, ltb, leb, List, ◌∷◌, length, arith}
use Rattle.std.specs.List.{All, list_all}
use Rattle.std.specs.Int.{w64, cast_unsigned}
use Rattle.std.proofs.lemmas.Bool.{le-leb, lt-ltb, ltb-true}
use Rattle.p3l_format.specs.Format.{Format, as_form, within, counted}
use Rattle.p3l_format.specs.Numbers.{number, is_i64, i64_format, u8_format, u32_format, u64_format, is_in, is_byte, u8_in, u32_in, u32_below}
use Rattle.p3l_format.specs.laws.Parts.{both_true}

pub u32_fits : (n : ℕ) → n < 2 ^ 32 → u32_format.fits n ≡ true
unfolding number
u32_fits n small = lt-ltb n (2 ^ 32) small

in_range : (low high n : ℕ) → low ≤ n → n ≤ high → is_in low high n ≡ true
in_range low high n above under = both_true (leb low n) (leb n high) (le-leb low n above) (le-leb n high under)

pub fits_in : (low high n : ℕ) → low ≤ n → n ≤ high → n < 2 ^ 32 → (u32_in low high).fits n ≡ true
unfolding within
fits_in low high n above under small = both_true (u32_format.fits n) (is_in low high n) (u32_fits n small) (in_range low high n above under)

pub fits_below : (limit n : ℕ) → n < limit → n < 2 ^ 32 → (u32_below limit).fits n ≡ true
unfolding within
fits_below limit n low small = both_true (u32_format.fits n) (ltb n limit) (u32_fits n small) (lt-ltb n limit low)

pub fits_byte : (low high n : ℕ) → low ≤ n → n ≤ high → n < 256 → (u8_in low high).fits n ≡ true
unfolding within u8_format
fits_byte low high n above under small = both_true (is_byte n) (is_in low high n) (lt-ltb n 256 small) (in_range low high n above under)

unsigned_small : (z : ℤ) → is_i64 z ≡ true → cast_unsigned w64 z < 2 ^ 64
unsigned_small (pos n) fits = let low = ltb-true n (2 ^ 63) fits in omega (arith, low)
unsigned_small (negsuc n) fits = let low = ltb-true n (2 ^ 63) fits in omega (arith, low)

pub whole_fits : (z : ℤ) → is_i64 z ≡ true → i64_format.fits z ≡ true
unfolding as_form number
whole_fits z fits = both_true (is_i64 z) (u64_format.fits (cast_unsigned w64 z)) fits (lt-ltb (cast_unsigned w64 z) (2 ^ 64) (unsigned_small z fits))

-- a list of a field
pub list_fits : {A : Type 0} (low : ℕ) (item : Format ℕ A) (xs : List A) → low ≤ length xs → length xs < 2 ^ 32 → list_all item.fits xs ≡ true
    → (counted (u32_in low 4294967295) (λ _. item)).fits xs ≡ true
unfolding counted
list_fits low item xs some few all =
    both_true ((u32_in low 4294967295).fits (length xs)) (list_all item.fits xs) (fits_in low 4294967295 (length xs) some (omega (arith, few)) few) all

-- a property of all holds of all but the first
pub after_first : {A : Type 0} (P : A → Type 0) (x : A) (xs : List A) → All P (x ∷ xs) → All P xs
after_first P x xs all k d inside = all (suc k) d (omega (arith, inside))

pub first_of : {A : Type 0} (P : A → Type 0) (x : A) (xs : List A) → All P (x ∷ xs) → P x
first_of P x xs all = all 0 x (omega arith)
