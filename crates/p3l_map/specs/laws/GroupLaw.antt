-- Pieces cut into groups of n, by one walk with the group so far, and no division. The groups of two lists are those of
-- the first and those of the second after what the first leaves (`groups_append`, `left_append`).
-- Pieces that fill the group so far are one group, and leave none (`one_group`).
use Rattle.std.proofs.Common.{◌≡◌, ℕ, suc, ◌+◌, ◌<◌, inl, inr, cond, nat_eq, true, false, List, [], ◌∷◌, ◌++◌, length, refl, sym, ap, ◌∙◌, subst, arith, append_assoc, length-append, eq-eqb, ne_eqb}
use Rattle.std.proofs.lemmas.Bool.{cases_Bool, cond-true, cond-false}
use Rattle.p3l_firing.specs.declared.token.Token.{Token}
use Rattle.p3l_map.specs.Places.{groups, left}

pub groups_append : (n : ℕ) (acc xs ys : List Token) →
    groups n acc (xs ++ ys) ≡ groups n acc xs ++ groups n (left n acc xs) ys
unfolding groups left
groups_append n acc [] ys = refl
groups_append n acc (x ∷ xs) ys =
    elim (cases_Bool (nat_eq (suc (length acc)) n)) [
      | inl e ↦
          subst (λ b. cond b ((acc ++ x ∷ []) ∷ groups n [] (xs ++ ys)) (groups n (acc ++ x ∷ []) (xs ++ ys))
          ≡ cond b ((acc ++ x ∷ []) ∷ groups n [] xs) (groups n (acc ++ x ∷ []) xs)
          ++ groups n (cond b (left n [] xs) (left n (acc ++ x ∷ []) xs)) ys) (sym e)
          (ap (λ z. (acc ++ x ∷ []) ∷ z) (groups_append n [] xs ys))
      | inr e ↦
          subst (λ b. cond b ((acc ++ x ∷ []) ∷ groups n [] (xs ++ ys)) (groups n (acc ++ x ∷ []) (xs ++ ys))
          ≡ cond b ((acc ++ x ∷ []) ∷ groups n [] xs) (groups n (acc ++ x ∷ []) xs)
          ++ groups n (cond b (left n [] xs) (left n (acc ++ x ∷ []) xs)) ys) (sym e)
          (groups_append n (acc ++ x ∷ []) xs ys)
    ]

-- n pieces are one group, and leave none
pub one_group : (n : ℕ) (acc xs : List Token) → 0 < length xs → length acc + length xs ≡ n →
    (groups n acc xs ≡ (acc ++ xs) ∷ []) × (left n acc xs ≡ [])
unfolding groups left
one_group n acc [] p h = absurd (omega arith)
one_group n acc (x ∷ []) p h =
    let e : nat_eq (suc (length acc)) n ≡ true = eq-eqb _ _ (omega (arith, h)) in
    (cond-true _ ((acc ++ x ∷ []) ∷ []) [] e, cond-true _ [] (acc ++ x ∷ []) e)
one_group n acc (x ∷ (y ∷ ys)) p h =
    let e : nat_eq (suc (length acc)) n ≡ false = ne_eqb _ _ (λ d. omega (arith, h, d)) in
    let r = one_group n (acc ++ x ∷ []) (y ∷ ys) (omega arith)
    (ap (λ z. z + length (y ∷ ys)) (length-append acc (x ∷ [])) ∙ omega (arith, h)) in
    (cond-false _ _ _ e ∙ r.0 ∙ ap (λ z. z ∷ []) (append_assoc acc (x ∷ []) (y ∷ ys)), cond-false _ _ _ e ∙ r.1)

pub left_append : (n : ℕ) (acc xs ys : List Token) → left n acc (xs ++ ys) ≡ left n (left n acc xs) ys
unfolding left
left_append n acc [] ys = refl
left_append n acc (x ∷ xs) ys =
    elim (cases_Bool (nat_eq (suc (length acc)) n)) [
      | inl e ↦
          subst (λ b. cond b (left n [] (xs ++ ys)) (left n (acc ++ x ∷ []) (xs ++ ys))
          ≡ left n (cond b (left n [] xs) (left n (acc ++ x ∷ []) xs)) ys) (sym e)
          (left_append n [] xs ys)
      | inr e ↦
          subst (λ b. cond b (left n [] (xs ++ ys)) (left n (acc ++ x ∷ []) (xs ++ ys))
          ≡ left n (cond b (left n [] xs) (left n (acc ++ x ∷ []) xs)) ys) (sym e)
          (left_append n (acc ++ x ∷ []) xs ys)
    ]
