-- The C expression of an operator gives what the operator means.
use Rattle.std.proofs.Common.{◌≡◌, ℕ, ℤ, zero, suc, pos, negsuc, ◌+◌, ◌-◌, ◌*◌, ◌/◌, ◌%◌, ◌^◌, ◌≤◌, ◌<◌, Bool, true, false, cond, Option, Some, None, refl, sym, ap, ◌∙◌, subst, arith}
use Rattle.std.specs.Prelude.{nat_lt, int_lt, int_le, int_div, int_rem, ◌+ℤ◌, ◌-ℤ◌, ◌*ℤ◌, neg_ℤ, ◌&&◌, not, FitsSigned, bit_and, bit_or, bit_xor}
use Rattle.std.specs.Ordering.{int_eq}
use Rattle.std.specs.Int.{w64, cast_signed, cast_unsigned, bit_not, int_wrap, int_shl, int_shr, int_bit_and, int_bit_or, int_bit_xor, int_bit_not}
use Rattle.std.proofs.lemmas.Int.{ints, wrapping_add_is, wrapping_sub_is, wrapping_mul_is, wrapping_neg_is, SFits-int_wrap}
use Rattle.std.proofs.lemmas.Nat.{or_lt, xor_lt, and_le_l}
use Rattle.std.proofs.lemmas.Bool.Decides.{nat_tests}
use native.Mathlib.Nat.{div-le_self, mod-lt, div-add-mod', mul-le-mul_left}
use lib.Signed.{mag_rem}
use Rattle.p3l_ast.specs.declared.expression.UnOp.{UnOp}
use Rattle.p3l_ast.specs.declared.expression.UnOp.TheVariants.{Neg, Not, Flip}
use Rattle.p3l_ast.specs.Meaning.Operator.{holds, unary_of, least}
use Rattle.p3l_c.specs.Helper.{some_then, in_range, ranged, signed_call, shr_call}
use Rattle.p3l_c.specs.Syntax.{Signed, number, temp, element, quotient, remainder, truth, converted, moved_down, Unsigned, nought, of, plus, minus, times, bits_and, bits_or, bits_xor, flipped, moved_up, Test, equal, differ, less, at_most, greater, at_least, negated}
use Rattle.p3l_c.specs.Machine.{Store, both_of, as_number, divided_by, shifted_up, signed, unsigned, test}
use Rattle.p3l_c.specs.Translate.{test_of, unary_value}
use Rattle.p3l_c.proofs.Helpers.{lt_true, range_fits, cast_fits, unsigned_small, signed_is, shr_is}

-- a truth is one of int64_t's numbers, and holds where it is true
pub truth_fits : (t : Bool) → FitsSigned w64 (as_number t)
truth_fits true = omega (arith, ints)
truth_fits false = omega (arith, ints)

truth_holds : (t : Bool) → holds (as_number t) ≡ t
truth_holds true = refl
truth_holds false = refl

-- the value of an operand, and of two
module _ (st : Store) where
  -- an expression as a condition
  differ_is : (a : Signed) (v : ℤ) → signed st a ≡ Some v → test st (differ a (number (pos 0))) ≡ Some (holds v)
  unfolding signed unsigned test
  differ_is a v h = ap (λ o. both_of o (ranged (pos 0)) (λ x y. Some (not (int_eq x y)))) h

  truth_is : (c : Test) (v : ℤ) → signed st (truth c) ≡ Some v → test st c ≡ Some (holds v)
  unfolding signed unsigned test
  truth_is c v h = by (test st c) h
    where
      by : (o : Option Bool) → some_then o (λ t. Some (as_number t)) ≡ Some v → o ≡ Some (holds v)
      by (Some t) e = let q : as_number t ≡ v = cc in ap Some (sym (truth_holds t) ∙ ap holds q)
      by None e = absurd cc

  pub test_is : (a : Signed) (v : ℤ) → signed st a ≡ Some v → test st (test_of a) ≡ Some (holds v)
  test_is (truth c) v h = truth_is c v h
  test_is (number x) v h = differ_is (number x) v h
  test_is (temp k) v h = differ_is (temp k) v h
  test_is (element x ks) v h = differ_is (element x ks) v h
  test_is (quotient a b) v h = differ_is (quotient a b) v h
  test_is (remainder a b) v h = differ_is (remainder a b) v h
  test_is (converted u) v h = differ_is (converted u) v h
  test_is (moved_down a b) v h = differ_is (moved_down a b) v h

  pub truth_value : (c : Test) (t : Bool) → test st c ≡ Some t → signed st (truth c) ≡ Some (as_number t)
  unfolding signed unsigned test
  truth_value c t h = ap (λ o. some_then o (λ t. Some (as_number t))) h

  -- `p3l_signed(u)`
  called_is : (u : Unsigned) (n : ℕ) (v : ℤ) → unsigned st u ≡ Some n → n < 2 ^ 64 → cast_signed w64 n ≡ v → signed st (converted u) ≡ Some v
  unfolding signed unsigned test
  called_is u n v h small e = ap (λ o. some_then o signed_call) h ∙ signed_is n small ∙ ap Some e

  of_is : (a : Signed) (v : ℤ) → signed st a ≡ Some v → unsigned st (of a) ≡ Some (cast_unsigned w64 v)
  unfolding signed unsigned test
  of_is a v h = ap (λ o. some_then o (λ v. Some (cast_unsigned w64 v))) h

  pub unary_is : (op : UnOp) (a : Signed) (v : ℤ) → FitsSigned w64 v → signed st a ≡ Some v → signed st (unary_value op a) ≡ Some (unary_of op v)
  unfolding signed unsigned test
  unary_is Neg a v f h =
      called_is (minus nought (of a)) ((0 + (2 ^ 64 - cast_unsigned w64 v)) % 2 ^ 64) (int_wrap w64 (neg_ℤ v))
      (ap (λ o. both_of (Some 0) o (λ m n. Some ((m + (2 ^ 64 - n)) % 2 ^ 64))) (of_is a v h))
      (mod-lt (0 + (2 ^ 64 - cast_unsigned w64 v)) (omega arith))
      (ap (λ n. cast_signed w64 (n % 2 ^ 64)) (let e : 0 + (2 ^ 64 - cast_unsigned w64 v) ≡ 2 ^ 64 - cast_unsigned w64 v = omega arith in e) ∙ wrapping_neg_is w64 v f)
  unary_is Not a v f h = truth_value (negated (test_of a)) (not (holds v)) (ap (λ o. some_then o (λ t. Some (not t))) (test_is a v h))
  unary_is Flip a v f h =
      called_is (flipped (of a)) (bit_not w64 (cast_unsigned w64 v)) (int_bit_not w64 v)
      (ap (λ o. some_then o (λ n. Some (bit_not w64 n))) (of_is a v h)) (omega arith) refl

  -- two operands
  module _ (a b : Signed) (x y : ℤ) (f : FitsSigned w64 x) (g : FitsSigned w64 y) (h : signed st a ≡ Some x) (k : signed st b ≡ Some y) where
    both_are : {C : Type 0} (go : ℕ → ℕ → Option C) → both_of (unsigned st (of a)) (unsigned st (of b)) go ≡ go (cast_unsigned w64 x) (cast_unsigned w64 y)
    both_are {C = C} go = (λ i. both_of {A = ℕ} {B = ℕ} {C = C} (of_is a x h i) (of_is b y k i) go)

    pub add_is : signed st (converted (plus (of a) (of b))) ≡ Some (int_wrap w64 (x +ℤ y))
    unfolding signed unsigned test
    add_is =
        called_is (plus (of a) (of b)) ((cast_unsigned w64 x + cast_unsigned w64 y) % 2 ^ 64) (int_wrap w64 (x +ℤ y))
        (both_are (λ m n. Some ((m + n) % 2 ^ 64))) (mod-lt (cast_unsigned w64 x + cast_unsigned w64 y) (omega arith)) (wrapping_add_is w64 x y f g)

    pub sub_is : signed st (converted (minus (of a) (of b))) ≡ Some (int_wrap w64 (x -ℤ y))
    unfolding signed unsigned test
    sub_is =
        called_is (minus (of a) (of b)) ((cast_unsigned w64 x + (2 ^ 64 - cast_unsigned w64 y)) % 2 ^ 64) (int_wrap w64 (x -ℤ y))
        (both_are (λ m n. Some ((m + (2 ^ 64 - n)) % 2 ^ 64))) (mod-lt (cast_unsigned w64 x + (2 ^ 64 - cast_unsigned w64 y)) (omega arith)) (wrapping_sub_is w64 x y f g)

    pub mul_is : signed st (converted (times (of a) (of b))) ≡ Some (int_wrap w64 (x *ℤ y))
    unfolding signed unsigned test
    mul_is =
        called_is (times (of a) (of b)) ((cast_unsigned w64 x * cast_unsigned w64 y) % 2 ^ 64) (int_wrap w64 (x *ℤ y))
        (both_are (λ m n. Some ((m * n) % 2 ^ 64))) (mod-lt (cast_unsigned w64 x * cast_unsigned w64 y) (omega arith)) (wrapping_mul_is w64 x y f g)

    pub and_is : signed st (converted (bits_and (of a) (of b))) ≡ Some (int_bit_and w64 x y)
    unfolding signed unsigned test
    and_is =
        called_is (bits_and (of a) (of b)) (bit_and (cast_unsigned w64 x) (cast_unsigned w64 y)) (int_bit_and w64 x y)
        (both_are (λ m n. Some (bit_and m n))) (omega (arith, and_le_l (cast_unsigned w64 x) (cast_unsigned w64 y), unsigned_small x f)) refl

    pub or_is : signed st (converted (bits_or (of a) (of b))) ≡ Some (int_bit_or w64 x y)
    unfolding signed unsigned test
    or_is =
        called_is (bits_or (of a) (of b)) (bit_or (cast_unsigned w64 x) (cast_unsigned w64 y)) (int_bit_or w64 x y)
        (both_are (λ m n. Some (bit_or m n))) (or_lt 64 (cast_unsigned w64 x) (cast_unsigned w64 y) (unsigned_small x f) (unsigned_small y g)) refl

    pub xor_is : signed st (converted (bits_xor (of a) (of b))) ≡ Some (int_bit_xor w64 x y)
    unfolding signed unsigned test
    xor_is =
        called_is (bits_xor (of a) (of b)) (bit_xor (cast_unsigned w64 x) (cast_unsigned w64 y)) (int_bit_xor w64 x y)
        (both_are (λ m n. Some (bit_xor m n))) (xor_lt 64 (cast_unsigned w64 x) (cast_unsigned w64 y) (unsigned_small x f) (unsigned_small y g)) refl

    signed_are : {C : Type 0} (go : ℤ → ℤ → Option C) → both_of (signed st a) (signed st b) go ≡ go x y
    signed_are {C = C} go = (λ i. both_of {A = ℤ} {B = ℤ} {C = C} (h i) (k i) go)

    pub equal_is : signed st (truth (equal a b)) ≡ Some (as_number (int_eq x y))
    unfolding signed unsigned test
    equal_is = truth_value (equal a b) (int_eq x y) (signed_are (λ x y. Some (int_eq x y)))

    pub differ_are : signed st (truth (differ a b)) ≡ Some (as_number (not (int_eq x y)))
    unfolding signed unsigned test
    differ_are = truth_value (differ a b) (not (int_eq x y)) (signed_are (λ x y. Some (not (int_eq x y))))

    pub less_is : signed st (truth (less a b)) ≡ Some (as_number (int_lt x y))
    unfolding signed unsigned test
    less_is = truth_value (less a b) (int_lt x y) (signed_are (λ x y. Some (int_lt x y)))

    pub at_most_is : signed st (truth (at_most a b)) ≡ Some (as_number (int_le x y))
    unfolding signed unsigned test
    at_most_is = truth_value (at_most a b) (int_le x y) (signed_are (λ x y. Some (int_le x y)))

    pub greater_is : signed st (truth (greater a b)) ≡ Some (as_number (int_lt y x))
    unfolding signed unsigned test
    greater_is = truth_value (greater a b) (int_lt y x) (signed_are (λ x y. Some (int_lt y x)))

    pub at_least_is : signed st (truth (at_least a b)) ≡ Some (as_number (int_le y x))
    unfolding signed unsigned test
    at_least_is = truth_value (at_least a b) (int_le y x) (signed_are (λ x y. Some (int_le y x)))

-- int64_t has the result of an operator before its operand
pub unary_fits : (op : UnOp) (v : ℤ) → FitsSigned w64 (unary_of op v)
unary_fits Neg v = SFits-int_wrap w64 (neg_ℤ v)
unary_fits Not v = truth_fits (not (holds v))
unary_fits Flip v = cast_fits (bit_not w64 (cast_unsigned w64 v))

-- the quotient of a division that is guarded is one of them, and so is the remainder
neg_fits : (n : ℕ) → n ≤ 2 ^ 63 → FitsSigned w64 (neg_ℤ (pos n))
neg_fits zero h = omega (arith, ints)
neg_fits (suc n) h = record { sfits = h }

pub quotient_fits : (x y : ℤ) → FitsSigned w64 x → (int_eq x least && int_eq y (negsuc 0)) ≡ false → FitsSigned w64 (int_div x y)
quotient_fits (pos a) (pos b) f g = let h : a < 2 ^ 63 = f.sfits in record { sfits = let k : a / b < 2 ^ 63 = omega (arith, div-le_self a b) in k }
quotient_fits (pos a) (negsuc b) f g = let h : a < 2 ^ 63 = f.sfits in neg_fits (a / suc b) (omega (arith, div-le_self a (suc b)))
quotient_fits (negsuc a) (pos b) f g = let h : a < 2 ^ 63 = f.sfits in neg_fits (suc a / b) (omega (arith, div-le_self (suc a) b))
quotient_fits (negsuc a) (negsuc zero) f g = by (nat_lt a 9223372036854775807) refl
  where
    by : (b : Bool) → nat_lt a 9223372036854775807 ≡ b → FitsSigned w64 (pos (suc a / suc zero))
    by true e = let h : a < 9223372036854775807 = grind (arith, nat_tests) in record { sfits = let k : suc a / suc zero < 2 ^ 63 = omega (arith, div-le_self (suc a) (suc zero)) in k }
    by false e =
        let le : 9223372036854775807 ≤ a = grind (arith, nat_tests) in
        let h : a < 2 ^ 63 = f.sfits in
        let is : a ≡ 9223372036854775807 = omega arith in
        let no : true ≡ false = subst (λ n. (int_eq (negsuc n) least && true) ≡ false) is g in
        absurd cc
quotient_fits (negsuc a) (negsuc (suc b)) f g =
    let h : a < 2 ^ 63 = f.sfits in
    let q = suc a / suc (suc b) in
    let two : 2 ≤ suc (suc b) = omega arith in
    let more : q * 2 ≤ q * suc (suc b) = mul-le-mul_left q two in
    record { sfits = let k : q < 2 ^ 63 = omega (arith, more, div-add-mod' (suc a) (suc (suc b))) in k }

pub remainder_fits : (x y : ℤ) → FitsSigned w64 x → FitsSigned w64 (int_rem x y)
remainder_fits x y f = record { sfits = omega (arith, mag_rem x y, f.sfits) }

-- a shift down keeps within them
pub shr_fits : (x : ℤ) (k : ℕ) → FitsSigned w64 x → FitsSigned w64 (int_shr x k)
shr_fits (pos a) k f = let h : a < 2 ^ 63 = f.sfits in record { sfits = let g : a / 2 ^ k < 2 ^ 63 = omega (arith, div-le_self a (2 ^ k)) in g }
shr_fits (negsuc a) k f = let h : a < 2 ^ 63 = f.sfits in record { sfits = let g : a / 2 ^ k < 2 ^ 63 = omega (arith, div-le_self a (2 ^ k)) in g }

-- operators whose operands are in temps
module _ (st : Store) (a b : Signed) (x y : ℤ) (f : FitsSigned w64 x) (h : signed st a ≡ Some x) (k : signed st b ≡ Some y) where
  two_are : {C : Type 0} (go : ℤ → ℤ → Option C) → both_of (signed st a) (signed st b) go ≡ go x y
  two_are {C = C} go = (λ i. both_of {A = ℤ} {B = ℤ} {C = C} (h i) (k i) go)

  divided_is : (give : ℤ → ℤ → ℤ) → int_eq y (pos 0) ≡ false → (int_eq x least && int_eq y (negsuc 0)) ≡ false → divided_by give x y ≡ Some (give x y)
  divided_is give z o =
      ap (λ t. cond t None (cond (in_range (int_div x y)) (Some (give x y)) None)) z
      ∙ ap (λ t. cond t (Some (give x y)) None) (range_fits (int_div x y) (quotient_fits x y f o))

  pub quotient_is : int_eq y (pos 0) ≡ false → (int_eq x least && int_eq y (negsuc 0)) ≡ false → signed st (quotient a b) ≡ Some (int_div x y)
  unfolding signed unsigned test
  quotient_is z o = two_are (divided_by int_div) ∙ divided_is int_div z o

  pub remainder_is : int_eq y (pos 0) ≡ false → (int_eq x least && int_eq y (negsuc 0)) ≡ false → signed st (remainder a b) ≡ Some (int_rem x y)
  unfolding signed unsigned test
  remainder_is z o = two_are (divided_by int_rem) ∙ divided_is int_rem z o

pub shl_is : (st : Store) (a b : Signed) (x : ℤ) (k : ℕ) → FitsSigned w64 x → k < 64 → signed st a ≡ Some x → signed st b ≡ Some (pos k) → signed st (converted (moved_up (of a) b)) ≡ Some (int_shl w64 x k)
unfolding signed unsigned test
shl_is st a b x k f small h g =
    let u = cast_unsigned w64 x in
    let two : both_of (unsigned st (of a)) (signed st b) shifted_up ≡ shifted_up u (pos k) = (λ i. both_of {A = ℕ} {B = ℤ} {C = ℕ} (of_is st a x h i) (g i) shifted_up) in
    called_is st (moved_up (of a) b) ((u * 2 ^ k) % 2 ^ 64) (int_shl w64 x k)
    (two ∙ ap (λ t. cond t (Some ((u * 2 ^ k) % 2 ^ 64)) None) (lt_true k 64 small))
    (mod-lt (u * 2 ^ k) (omega arith)) refl

pub moved_is : (st : Store) (a b : Signed) (x : ℤ) (k : ℕ) → FitsSigned w64 x → k < 64 → signed st a ≡ Some x → signed st b ≡ Some (pos k) → signed st (moved_down a b) ≡ Some (int_shr x k)
unfolding signed unsigned test
moved_is st a b x k f small h g =
    (λ i. both_of {A = ℤ} {B = ℤ} {C = ℤ} (h i) (g i) shr_call) ∙ shr_is x k f small
