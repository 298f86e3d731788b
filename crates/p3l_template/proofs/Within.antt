-- Steps of the loop that looks whether all numbers lie within bounds.
use Rattle.std.proofs.Common.{◌≡◌, ℕ, zero, suc, ◌+◌, ◌<◌, ◌≤◌, ◌&&◌, nat_le, nat_lt, Bool, true, false, List, [], ◌∷◌, drop, length, get_or, refl, sym, ap, ap₂, ◌∙◌, arith, ◌⊎◌, inl, inr, lt-ltb, le-ltb, le-leb}
use Rattle.std.proofs.lemmas.Bool.{cases_Bool, lt-leb}
use Rattle.std.proofs.Math.Seq.{drop-cons}
use Rattle.p3l_firing.specs.Token.{newest_tag}
use Rattle.p3l_firing.specs.declared.token.Token.{Token}
use Rattle.p3l_template.specs.Bag.{all_within}

pub drop-next : (xs : List Token) (i : ℕ) (x : Token) → i < length xs → x ≡ get_or xs i x → drop i xs ≡ x ∷ drop (i + 1) xs
drop-next xs i x l h =
    let e : suc i ≡ i + 1 = omega arith in
    drop-cons xs i x l ∙ ap₂ (λ y n. y ∷ drop n xs) (sym h) e

pub within-next : (c d : ℕ) (xs : List Token) (i : ℕ) (x : Token) → i < length xs → x ≡ get_or xs i x →
    all_within c d (drop i xs) ≡ ((nat_le c (newest_tag x) && nat_lt (newest_tag x) d) && all_within c d (drop (i + 1) xs))
unfolding all_within
within-next c d xs i x l h = ap (all_within c d) (drop-next xs i x l h)

pub outside : (c d n : ℕ) (b : Bool) → (n < c) ⊎ (d ≤ n) → ((nat_le c n && nat_lt n d) && b) ≡ false
outside c d n b (inl l) = ap (λ z. (z && nat_lt n d) && b) (lt-leb c n l)
outside c d n b (inr l) =
    elim (cases_Bool (nat_le c n)) [
      | inl e ↦ ap₂ (λ y z. (y && z) && b) e (le-ltb n d l)
      | inr e ↦ ap (λ z. (z && nat_lt n d) && b) e
    ]

pub inside : (c d n : ℕ) (b : Bool) → c ≤ n → n < d → ((nat_le c n && nat_lt n d) && b) ≡ b
inside c d n b l m = ap₂ (λ y z. (y && z) && b) (le-leb c n l) (lt-ltb n d m)

pub drop-all : (xs : List Token) (i : ℕ) → length xs ≤ i → drop i xs ≡ []
drop-all [] zero l = refl
drop-all [] (suc i) l = refl
drop-all (x ∷ xs) zero l = absurd (omega arith)
drop-all (x ∷ xs) (suc i) l = drop-all xs i (omega arith)

pub within-end : (c d : ℕ) (xs : List Token) (i : ℕ) → length xs ≤ i → all_within c d (drop i xs) ≡ true
unfolding all_within
within-end c d xs i l = ap (all_within c d) (drop-all xs i l)
