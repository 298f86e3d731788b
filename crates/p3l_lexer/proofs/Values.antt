-- The numbers of decimal digits.
use Rattle.std.proofs.Common.{◌≡◌, ℕ, zero, suc, ◌+◌, ◌-◌, ◌*◌, ◌<◌, ◌≤◌, Bool, true, List, [], ◌∷◌, ◌++◌, length, take, drop, get_or, fold, ap, arith}
use Rattle.std.specs.List.{list_all}
use Rattle.std.proofs.lemmas.Bool.Decides.{nat_tests}
use Rattle.std.proofs.lemmas.List.{take-append-drop}
use Rattle.std.proofs.lemmas.List.Sums.{fold-append, fold_more}
use Rattle.p3l_lexer.specs.Piece.{is_digit, value_of}
use Rattle.p3l_lexer.proofs.Truths.{and_left, and_right}

-- each byte passes a test that all bytes pass
pub all_at : (test : ℕ → Bool) (bytes : List ℕ) (i : ℕ) → list_all test bytes ≡ true → i < length bytes → test (get_or bytes i 0) ≡ true
all_at test [] i h k = absurd (omega arith)
all_at test (b ∷ bytes) zero h k = and_left (test b) _ h
all_at test (b ∷ bytes) (suc i) h k = all_at test bytes i (and_right (test b) _ h) (omega arith)

pub digit_bounds : (b : ℕ) → is_digit b ≡ true → (48 ≤ b) × (b ≤ 57)
digit_bounds b h = (grind (arith, nat_tests), grind (arith, nat_tests))

-- one digit more
pub value_of-more : (digits : List ℕ) (i : ℕ) → i < length digits → value_of (take (i + 1) digits) ≡ value_of (take i digits) * 10 + (get_or digits i 0 - 48)
value_of-more digits i h = fold_more (λ value digit. value * 10 + (digit - 48)) 0 digits i 0 h

-- more digits make no number smaller
grows : (digits : List ℕ) (value : ℕ) → value ≤ fold (λ v digit. v * 10 + (digit - 48)) value digits
grows [] value = omega arith
grows (d ∷ digits) value = let h = grows digits (value * 10 + (d - 48)) in omega arith

pub value_of-front : (digits : List ℕ) (i : ℕ) → value_of (take i digits) ≤ value_of digits
value_of-front digits i =
    let e = fold-append (λ v digit. v * 10 + (digit - 48)) 0 (take i digits) (drop i digits) in
    let w : value_of (take i digits ++ drop i digits) ≡ value_of digits = ap value_of (take-append-drop i digits) in
    let g = grows (drop i digits) (value_of (take i digits)) in
    omega arith
