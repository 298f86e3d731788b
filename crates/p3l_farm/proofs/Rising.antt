-- Numbers that rise from each token to the next rise throughout.
use Rattle.std.proofs.Common.{◌≡◌, ℕ, zero, suc, ◌+◌, ◌-◌, ◌<◌, ◌≤◌, ◌&&◌, Bool, true, false, List, [], ◌∷◌, drop, length, get_or, refl, sym, ap, ap₂, ◌∙◌, arith, inl, inr, lt-ltb, le-ltb, ltb-true}
use Rattle.std.proofs.lemmas.Bool.{cases_Bool, and_parts, and_from}
use Rattle.std.proofs.Math.Seq.{drop-cons}
use Rattle.p3l_firing.specs.Token.{newest_tag}
use Rattle.p3l_firing.specs.declared.token.Token.{Token}
use Rattle.p3l_farm.specs.Farm.{all_above, rising}

-- numbers above a number are above any lower one
above_lower : (j k : ℕ) (xs : List Token) → j < k → all_above k xs ≡ true → all_above j xs ≡ true
unfolding all_above
above_lower j k [] l h = refl
above_lower j k (x ∷ xs) l h =
    let p = and_parts _ _ h in
    and_from _ _ (lt-ltb j (newest_tag x) (omega (arith, l, ltb-true k (newest_tag x) p.0))) (above_lower j k xs l p.1)

-- of two that rise the rest decides
pub rise : (x y : Token) (ys : List Token) → newest_tag x < newest_tag y → rising (x ∷ (y ∷ ys)) ≡ rising (y ∷ ys)
unfolding rising all_above
rise x y ys l =
    elim (cases_Bool (rising (y ∷ ys))) [
      | inl t ↦
          let above = above_lower (newest_tag x) (newest_tag y) ys l (and_parts _ _ t).0 in
          and_from _ _ (and_from _ _ (lt-ltb _ _ l) above) t ∙ sym t
      | inr f ↦ none_rise (all_above (newest_tag x) (y ∷ ys)) (rising (y ∷ ys)) f
    ]
  where
    none_rise : (a b : Bool) → b ≡ false → (a && b) ≡ b
    none_rise true b h = refl
    none_rise false b h = sym h

pub fall : (x y : Token) (ys : List Token) → newest_tag y ≤ newest_tag x → rising (x ∷ (y ∷ ys)) ≡ false
unfolding rising all_above
fall x y ys l = ap (λ b. (b && all_above (newest_tag x) ys) && rising (y ∷ ys)) (le-ltb _ _ l)

-- the first two of those that are left
pub two_left : (xs : List Token) (k : ℕ) (x y : Token) → 0 < k → k < length xs → x ≡ get_or xs (k - 1) x → y ≡ get_or xs k y →
    drop (k - 1) xs ≡ x ∷ (y ∷ drop (k + 1) xs)
two_left xs k x y f l here there =
    let one : suc (k - 1) ≡ k = omega (arith, f) in
    let two : suc k ≡ k + 1 = omega arith in
    drop-cons xs (k - 1) x (omega (arith, l))
    ∙ ap₂ (λ z n. z ∷ drop n xs) (sym here) one
    ∙ ap (λ z. x ∷ z) (drop-cons xs k y l ∙ ap₂ (λ z n. z ∷ drop n xs) (sym there) two)

pub one_left : (xs : List Token) (k : ℕ) (y : Token) → k < length xs → y ≡ get_or xs k y → drop ((k + 1) - 1) xs ≡ y ∷ drop (k + 1) xs
one_left xs k y l there =
    let zero_more : (k + 1) - 1 ≡ k = omega arith in
    let two : suc k ≡ k + 1 = omega arith in
    ap (λ n. drop n xs) zero_more ∙ drop-cons xs k y l ∙ ap₂ (λ z n. z ∷ drop n xs) (sym there) two

abbrev no_tokens : List Token
no_tokens = []

drop_empty : (n : ℕ) → drop n no_tokens ≡ no_tokens
drop_empty zero = refl
drop_empty (suc n) = refl

pub none_left : (xs : List Token) (k : ℕ) → 0 < k → length xs ≤ k → rising (drop (k - 1) xs) ≡ true
unfolding rising all_above
none_left [] zero f l = refl
none_left [] (suc k) f l = ap rising (drop_empty (suc k - 1))
none_left (x ∷ xs) zero f l = absurd (omega (arith, f))
none_left (x ∷ []) (suc zero) f l = refl
none_left (x ∷ (y ∷ ys)) (suc zero) f l = absurd (omega (arith, l))
none_left (x ∷ xs) (suc (suc k)) f l =
    let e : suc (suc k) - 1 ≡ suc (suc k - 1) = omega arith in
    ap (λ n. rising (drop n (x ∷ xs))) e ∙ none_left xs (suc k) (omega arith) (omega (arith, l))
