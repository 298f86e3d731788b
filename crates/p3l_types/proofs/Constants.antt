-- Constants are distinct, so each name is new to the ones before it; and what the front of a map holds.
use Rattle.std.proofs.Common.{◌≡◌, ℕ, ℤ, zero, suc, ◌+◌, ◌<◌, ◌≤◌, Bool, true, false, not, List, [], ◌∷◌, ◌++◌, take, Some, None, refl, sym, ap, ◌∙◌, subst, add-one, arith}
use Rattle.std.specs.Prelude.{bytes_eq, slice_get, cond}
use Rattle.std.specs.List.{IsDistinct, AllByRecursion, position_or_len, position}
use Rattle.std.specs.Map.{lookup, keys_of}
use Rattle.std.specs.Cmp.Lexicographic.{nat_list_eq_equiv}
use Rattle.std.proofs.lemmas.Map.Keys.{IsDistinct-head, IsDistinct-tail}
use Rattle.indexmap.proofs.MapLemmas.{Found-position}
use Rattle.p3l_types.specs.Constants.{Constants}

-- a property of all names holds of the name at a place
at_place : (P : List ℕ → Type 0) (constants : Constants) (k : ℕ) (name : List ℕ) (value : ℤ) →
    AllByRecursion P (keys_of constants) → slice_get constants k ≡ Some (name, value) → P name
at_place P [] k name value all e = absurd cc
at_place P (c ∷ cs) zero name value all e = let same : c.0 ≡ name = cc in subst P same all.0
at_place P (c ∷ cs) (suc k) name value all e = at_place P cs k name value all.1 e

pub absent_before : (constants : Constants) (k : ℕ) (name : List ℕ) (value : ℤ) → IsDistinct bytes_eq (keys_of constants) →
    slice_get constants k ≡ Some (name, value) → lookup (bytes_eq name) (take k constants) ≡ None
absent_before [] k name value distinct e = absurd cc
absent_before (c ∷ cs) zero name value distinct e = refl
absent_before (c ∷ cs) (suc k) name value distinct e =
    let apart : bytes_eq c.0 name ≡ false =
    at_place (λ y. bytes_eq c.0 y ≡ false) cs k name value (IsDistinct-head bytes_eq c.0 (keys_of cs) distinct) e in
    let other : bytes_eq name c.0 ≡ false = nat_list_eq_equiv.symm name c.0 ∙ apart in
    ap (λ b. cond b (Some c.1) (lookup (bytes_eq name) (take k cs))) other
    ∙ absent_before cs k name value (IsDistinct-tail bytes_eq c.0 (keys_of cs) distinct) e

pub taken : (constants : Constants) (k : ℕ) (name : List ℕ) (value : ℤ) →
    slice_get constants k ≡ Some (name, value) → take (k + 1) constants ≡ take k constants ++ (name, value) ∷ []
taken constants k name value e = rw add-one (by constants k e)
  where
    by : (cs : Constants) (i : ℕ) → slice_get cs i ≡ Some (name, value) → take (suc i) cs ≡ take i cs ++ (name, value) ∷ []
    by [] i e = absurd cc
    by (c ∷ cs) zero e = let same : c ≡ (name, value) = cc in ap (λ d. d ∷ []) same
    by (c ∷ cs) (suc i) e = ap (λ ds. c ∷ ds) (by cs i e)

module _ (test : List ℕ → Bool) where
  -- a name that is not among constants is not among the first of them
  pub absent_in_front : (constants : Constants) (n : ℕ) → lookup test constants ≡ None → lookup test (take n constants) ≡ None
  absent_in_front constants zero e = refl
  absent_in_front [] (suc n) e = refl
  absent_in_front (c ∷ cs) (suc n) e = by (test c.0) refl (absent_in_front cs n)
    where
      by : (b : Bool) → test c.0 ≡ b → (lookup test cs ≡ None → lookup test (take n cs) ≡ None) → lookup test (take (suc n) (c ∷ cs)) ≡ None
      by true t rest = let some : Some c.1 ≡ None = subst (λ b. cond b (Some c.1) (lookup test cs) ≡ None) t e in absurd cc
      by false t rest =
          ap (λ b. cond b (Some c.1) (lookup test (take n cs))) t
          ∙ rest (subst (λ b. cond b (Some c.1) (lookup test cs) ≡ None) t e)

  first_in_front : (constants : Constants) (n : ℕ) → position_or_len test (keys_of constants) < n → lookup test (take n constants) ≡ lookup test constants
  first_in_front constants zero within = absurd (omega arith)
  first_in_front [] (suc n) within = refl
  first_in_front (c ∷ cs) (suc n) within = by (test c.0) refl (first_in_front cs n)
    where
      by : (b : Bool) → test c.0 ≡ b → (position_or_len test (keys_of cs) < n → lookup test (take n cs) ≡ lookup test cs) →
          lookup test (take (suc n) (c ∷ cs)) ≡ lookup test (c ∷ cs)
      by true t rest = ap (λ b. cond b (Some c.1) (lookup test (take n cs))) t ∙ sym (ap (λ b. cond b (Some c.1) (lookup test cs)) t)
      by false t rest =
          let next : 1 + position_or_len test (keys_of cs) < suc n = subst (λ b. cond (not b) (1 + position_or_len test (keys_of cs)) 0 < suc n) t within in
          ap (λ b. cond b (Some c.1) (lookup test (take n cs))) t ∙ rest (omega arith) ∙ sym (ap (λ b. cond b (Some c.1) (lookup test cs)) t)

  none_in_front : (constants : Constants) (n : ℕ) → n ≤ position_or_len test (keys_of constants) → lookup test (take n constants) ≡ None
  none_in_front constants zero after = refl
  none_in_front [] (suc n) after = refl
  none_in_front (c ∷ cs) (suc n) after = by (test c.0) refl (none_in_front cs n)
    where
      by : (b : Bool) → test c.0 ≡ b → (n ≤ position_or_len test (keys_of cs) → lookup test (take n cs) ≡ None) → lookup test (take (suc n) (c ∷ cs)) ≡ None
      by true t rest =
          let none : suc n ≤ 0 = subst (λ b. suc n ≤ cond (not b) (1 + position_or_len test (keys_of cs)) 0) t after in
          absurd (omega arith)
      by false t rest =
          let next : suc n ≤ 1 + position_or_len test (keys_of cs) = subst (λ b. suc n ≤ cond (not b) (1 + position_or_len test (keys_of cs)) 0) t after in
          ap (λ b. cond b (Some c.1) (lookup test (take n cs))) t ∙ rest (omega arith)

  module _ (constants : Constants) (n i : ℕ) (at : position test (keys_of constants) ≡ Some i) where
    -- a constant within the front is found there
    pub found_in_front : i < n → lookup test (take n constants) ≡ lookup test constants
    found_in_front within =
        let first : position_or_len test (keys_of constants) ≡ i = (Found-position test constants i at).or_len in
        first_in_front constants n (omega arith)

    -- and one after it is not
    pub after_front : n ≤ i → lookup test (take n constants) ≡ None
    after_front after =
        let first : position_or_len test (keys_of constants) ≡ i = (Found-position test constants i at).or_len in
        none_in_front constants n (omega arith)
