-- The first number of a range, and of the numbers in turn, that passes a test.
use Rattle.std.proofs.Common.{◌≡◌, ℕ, zero, suc, ◌+◌, ◌-◌, ◌<◌, ◌≤◌, Bool, true, false, cond, ◌∷◌, ◌++◌, Some, None, sym, ap, ◌∙◌, inl, inr, arith}
use Rattle.std.specs.List.{find, range_with_len}
use Rattle.std.specs.Option.{option_or}
use Rattle.std.proofs.lemmas.Bool.{cond-true, cond-false, cases_Bool, cases_eq}
use Rattle.std.proofs.lemmas.List.Folds.{find-append}

pub range-split : (a n k : ℕ) → range_with_len a (n + k) ≡ range_with_len a n ++ range_with_len (a + n) k
range-split a zero k =
    let e : zero + k ≡ k = omega arith in
    let f : a ≡ a + zero = omega arith in
    ap (range_with_len a) e ∙ ap (λ x. range_with_len x k) f
range-split a (suc n) k =
    let e : suc n + k ≡ suc (n + k) = omega arith in
    let f : a + 1 + n ≡ a + suc n = omega arith in
    ap (range_with_len a) e ∙ ap (λ xs. a ∷ xs) (range-split (a + 1) n k ∙ ap (λ x. range_with_len (a + 1) n ++ range_with_len x k) f)

module _ (test : ℕ → Bool) where
  -- a range that goes on is searched from p if nothing passes before p
  search_from : (a n k p : ℕ) → a + n ≡ p → find test (range_with_len a n) ≡ None → find test (range_with_len a (n + suc k)) ≡ cond (test p) (Some p) (find test (range_with_len (p + 1) k))
  search_from a n k p e none =
      ap (find test) (range-split a n (suc k))
      ∙ find-append test (range_with_len a n) (range_with_len (a + n) (suc k))
      ∙ ap (λ o. option_or o (find test (range_with_len (a + n) (suc k)))) none
      ∙ ap (λ x. find test (range_with_len x (suc k))) e

  pub found_at : (from to p : ℕ) → from ≤ p → p < to → find test (range_with_len from (p - from)) ≡ None → test p ≡ true → Some p ≡ find test (range_with_len from (to - from))
  found_at from to p low high none pass =
      let e : to - from ≡ (p - from) + suc (to - p - 1) = omega arith in
      let f : from + (p - from) ≡ p = omega arith in
      sym (ap (λ n. find test (range_with_len from n)) e ∙ search_from from (p - from) (to - p - 1) p f none ∙ cond-true (test p) _ _ pass)

  pub none_more : (from p : ℕ) → from ≤ p → find test (range_with_len from (p - from)) ≡ None → test p ≡ false → find test (range_with_len from (p + 1 - from)) ≡ None
  none_more from p low none fail =
      let e : p + 1 - from ≡ (p - from) + suc zero = omega arith in
      let f : from + (p - from) ≡ p = omega arith in
      ap (λ n. find test (range_with_len from n)) e ∙ search_from from (p - from) zero p f none ∙ cond-false (test p) _ _ fail

  -- a found number passes, and is in the range
  pub found_passes : (a n p : ℕ) → find test (range_with_len a n) ≡ Some p → (p < a + n) × (test p ≡ true)
  found_passes a zero p h = cc
  found_passes a (suc n) p h =
      elim (cases_Bool (test a)) [
        | inl e ↦
            let same : Some a ≡ Some p = sym (cond-true (test a) _ _ e) ∙ h in
            let here : a ≡ p = cc in
            (omega arith, ap test (sym here) ∙ e)
        | inr e ↦
            let later = found_passes (a + 1) n p (sym (cond-false (test a) _ _ e) ∙ h) in
            (omega (arith, later.0), later.1)
      ]

  -- nothing in the range passes if nothing is found
  pub none_passes : (a n p : ℕ) → find test (range_with_len a n) ≡ None → a ≤ p → p < a + n → test p ≡ false
  none_passes a zero p h low high = absurd (omega arith)
  none_passes a (suc n) p h low high =
      elim (cases_Bool (test a)) [
        | inl e ↦ let same : Some a ≡ None = sym (cond-true (test a) _ _ e) ∙ h in cc
        | inr e ↦
            elim (cases_eq p a) [
              | inl here ↦ ap test here ∙ e
              | inr there ↦ none_passes (a + 1) n p (sym (cond-false (test a) _ _ e) ∙ h) (omega (arith, there)) (omega arith)
            ]
      ]
