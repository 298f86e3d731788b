-- The results of the two helper functions, and the numbers that int64_t has.
use Rattle.std.proofs.Common.{◌≡◌, ℕ, ℤ, suc, pos, negsuc, ◌+◌, ◌-◌, ◌/◌, ◌%◌, ◌^◌, ◌≤◌, ◌<◌, Bool, true, false, cond, Option, Some, None, refl, ap, ◌∙◌, arith}
use Rattle.std.specs.Prelude.{nat_lt, ◌-ℤ◌, FitsSigned}
use Rattle.std.specs.Int.{w64, cast_signed, cast_unsigned, int_shr}
use Rattle.std.proofs.lemmas.Int.{ints}
use native.Mathlib.Nat.{div-le_self}
use Rattle.std.proofs.lemmas.Bool.Decides.{nat_tests}
use borrow.Author.Differences.{fits_in, read_fits}
use mir.Val.{sel}
use Rattle.p3l_c.specs.Helper.{some_then, in_range, ranged, narrowed, shifted_down, signed_call, shr_call}

-- a test that is passed, or not
pub lt_true : (m n : ℕ) → m < n → nat_lt m n ≡ true
lt_true m n h = grind (arith, nat_tests)

pub lt_false : (m n : ℕ) → n ≤ m → nat_lt m n ≡ false
lt_false m n h = grind (arith, nat_tests)

pub range_fits : (v : ℤ) → FitsSigned w64 v → in_range v ≡ true
range_fits (pos n) f = lt_true n (2 ^ 63) f.sfits
range_fits (negsuc n) f = lt_true n (2 ^ 63) f.sfits

pub ranged_fits : (v : ℤ) → FitsSigned w64 v → ranged v ≡ Some v
ranged_fits v f = ap (λ b. cond b (Some v) None) (range_fits v f)

pub ranged_natural : (n : ℕ) → n < 2 ^ 63 → ranged (pos n) ≡ Some (pos n)
ranged_natural n h = ap (λ b. cond b (Some (pos n)) None) (lt_true n (2 ^ 63) h)

pub narrowed_small : (n : ℕ) → n < 2 ^ 63 → narrowed n ≡ Some (pos n)
narrowed_small n h = ap (λ b. cond b (Some (pos n)) None) (lt_true n (2 ^ 63) h)

-- a cast to int64_t gives one of its numbers
pub cast_fits : (n : ℕ) → FitsSigned w64 (cast_signed w64 n)
cast_fits n = fits_in w64 (cast_signed w64 n) (omega (arith, read_fits w64 n))

pub unsigned_small : (v : ℤ) → FitsSigned w64 v → cast_unsigned w64 v < 2 ^ 64
unsigned_small (pos n) f = let h : n < 2 ^ 63 = f.sfits in omega arith
unsigned_small (negsuc n) f = omega arith

minus_one : (n : ℕ) → negsuc 0 -ℤ pos n ≡ negsuc n
minus_one n = omega (arith, ints)

-- `-1 - (int64_t)n`
minus_one_less : (n : ℕ) → n < 2 ^ 63 → ranged (negsuc 0 -ℤ pos n) ≡ Some (negsuc n)
minus_one_less n h = ap ranged (minus_one n) ∙ ap (λ b. cond b (Some (negsuc n)) None) (lt_true n (2 ^ 63) h)

-- the call of p3l_signed gives the number with these bits
pub signed_is : (u : ℕ) → u < 2 ^ 64 → signed_call u ≡ Some (cast_signed w64 u)
unfolding signed_call
signed_is u h = by (nat_lt u (2 ^ 63)) refl
  where
    rest : ℕ
    rest = ((2 ^ 64 - 1) + (2 ^ 64 - u)) % 2 ^ 64

    by : (b : Bool) → nat_lt u (2 ^ 63) ≡ b → cond b (cond b (Some (pos u)) None) (some_then (narrowed (((2 ^ 64 - 1) + (2 ^ 64 - u)) % 2 ^ 64)) (λ w. ranged (negsuc 0 -ℤ w))) ≡ Some (sel b (pos u) (negsuc (2 ^ 64 - suc u)))
    by true e = refl
    by false e =
        let big : 2 ^ 63 ≤ u = grind (arith, nat_tests) in
        let is : ((2 ^ 64 - 1) + (2 ^ 64 - u)) % 2 ^ 64 ≡ 2 ^ 64 - suc u = omega arith in
        let small : 2 ^ 64 - suc u < 2 ^ 63 = omega arith in
        ap (λ n. some_then (narrowed n) (λ w. ranged (negsuc 0 -ℤ w))) is
        ∙ ap (λ o. some_then o (λ w. ranged (negsuc 0 -ℤ w))) (narrowed_small (2 ^ 64 - suc u) small)
        ∙ minus_one_less (2 ^ 64 - suc u) small

back_of : (a : ℕ) → negsuc 0 -ℤ negsuc a ≡ pos a
back_of a = omega (arith, ints)

shifted_is : (n k : ℕ) → k < 64 → shifted_down (pos n) (pos k) ≡ Some (pos (n / 2 ^ k))
shifted_is n k h = ap (λ b. cond b (Some (pos (n / 2 ^ k))) None) (lt_true k 64 h)

-- the call of p3l_shr moves the bits down, and the sign stays
pub shr_is : (x : ℤ) (k : ℕ) → FitsSigned w64 x → k < 64 → shr_call x (pos k) ≡ Some (int_shr x k)
unfolding shr_call
shr_is (pos a) k f h =
    ap (λ b. cond b (by a k) (shifted_down (pos a) (pos k))) (lt_false a 0 (omega arith)) ∙ shifted_is a k h
  where
    by : ℕ → ℕ → Option ℤ
    by a k = some_then (some_then (ranged (negsuc 0 -ℤ pos a)) (λ v. shifted_down v (pos k))) (λ w. ranged (negsuc 0 -ℤ w))
shr_is (negsuc a) k f h =
    let s : a < 2 ^ 63 = f.sfits in
    let small : a / 2 ^ k < 2 ^ 63 = omega (arith, div-le_self a (2 ^ k)) in
    let after = λ (o : Option ℤ). some_then (some_then o (λ v. shifted_down v (pos k))) (λ w. ranged (negsuc 0 -ℤ w)) in
    ap after (ap ranged (back_of a) ∙ ranged_natural a s)
    ∙ ap (λ o. some_then o (λ w. ranged (negsuc 0 -ℤ w))) (shifted_is a k h)
    ∙ minus_one_less (a / 2 ^ k) small
