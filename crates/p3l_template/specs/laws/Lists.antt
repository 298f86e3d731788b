-- Lists that are empty, and the front of a list that another follows.
use Rattle.std.proofs.Common.{◌≡◌, true, List, [], ◌∷◌, ◌++◌, map, length, refl, arith}
use Rattle.p3l_firing.specs.Lists.{first_or, rest_of, has_first}

module _ {A : Type 0} where
  pub none_left : (xs : List A) → length xs ≡ 0 → xs ≡ []
  none_left [] h = refl
  none_left (x ∷ xs) h = absurd (omega (arith, h))

  pub append_none : (xs ys : List A) → xs ++ ys ≡ [] → (xs ≡ []) × (ys ≡ [])
  append_none [] ys h = (refl, h)
  append_none (x ∷ xs) ys h = cc

  pub map_none : {B : Type 0} (f : A → B) (xs : List A) → map f xs ≡ [] → xs ≡ []
  map_none f [] h = refl
  map_none f (x ∷ xs) h = cc

  pub has_append : (xs ys : List A) → has_first xs ≡ true → has_first (xs ++ ys) ≡ true
  has_append [] ys h = cc
  has_append (x ∷ xs) ys h = refl

  pub first_append : (none : A) (xs ys : List A) → has_first xs ≡ true → first_or none (xs ++ ys) ≡ first_or none xs
  first_append none [] ys h = cc
  first_append none (x ∷ xs) ys h = refl

  pub rest_append : (xs ys : List A) → has_first xs ≡ true → rest_of (xs ++ ys) ≡ rest_of xs ++ ys
  rest_append [] ys h = cc
  rest_append (x ∷ xs) ys h = refl
