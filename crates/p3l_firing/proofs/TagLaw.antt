-- Tags are kept from the oldest to the newest, and seen from the newest on.
use Rattle.std.proofs.Common.{◌≡◌, ℕ, ◌+◌, ◌-◌, ◌<◌, ◌≤◌, true, List, [], ◌∷◌, ◌++◌, length, reverse, get_or, Option, Some, None, slice_get, zero, suc, refl, sym, ap, ◌∙◌, arith, eq-eqb}
use Rattle.std.specs.Option.{option_to_list}
use Rattle.std.proofs.Math.Numerals.{add-one}
use Rattle.std.proofs.lemmas.Bool.{and_from}
use Rattle.std.proofs.lemmas.List.{get_or-reverse, reverse-append, append-nil}
use Rattle.p3l_firing.specs.Token.{first_tag, later_tags, next_tag, same_tags}

first_is : (tags : List ℕ) → first_tag tags ≡ get_or tags 0 0
unfolding first_tag
first_is [] = refl
first_is (tag ∷ tags) = refl

pub first-reverse : (xs : List ℕ) → 0 < length xs → get_or xs (length xs - 1) 0 ≡ first_tag (reverse xs)
first-reverse xs some =
    let e : length xs - 1 - 0 ≡ length xs - 1 = omega arith in
    sym (first_is (reverse xs) ∙ get_or-reverse xs 0 0 some ∙ ap (λ k. get_or xs k 0) e)

pub first-none : (xs : List ℕ) → length xs ≡ 0 → 0 ≡ first_tag (reverse xs)
unfolding first_tag
first-none [] h = refl
first-none (x ∷ xs) h = absurd (omega (arith, h))

-- the second newest tag
second_is : (tags : List ℕ) → first_tag (later_tags tags) ≡ get_or tags 1 0
unfolding first_tag later_tags
second_is [] = refl
second_is (tag ∷ []) = refl
second_is (tag ∷ (other ∷ tags)) = refl

pub second-reverse : (xs : List ℕ) → 1 < length xs → get_or xs (length xs - 2) 0 ≡ first_tag (later_tags (reverse xs))
second-reverse xs some =
    let e : length xs - 1 - 1 ≡ length xs - 2 = omega arith in
    sym (second_is (reverse xs) ∙ get_or-reverse xs 1 0 some ∙ ap (λ k. get_or xs k 0) e)

pub second-none : (xs : List ℕ) → length xs < 2 → 0 ≡ first_tag (later_tags (reverse xs))
unfolding first_tag later_tags
second-none [] h = refl
second-none (x ∷ []) h = refl
second-none (x ∷ (y ∷ xs)) h = absurd (omega (arith, h))

-- one more in the newest
next_is : (new : List ℕ) (tag : ℕ) → reverse (new ++ (first_tag (reverse (new ++ tag ∷ [])) + 1) ∷ []) ≡ next_tag (reverse (new ++ tag ∷ []))
unfolding first_tag next_tag
next_is new tag =
    let newest : first_tag (reverse (new ++ tag ∷ [])) ≡ tag = ap first_tag (reverse-append new (tag ∷ [])) in
    reverse-append new ((first_tag (reverse (new ++ tag ∷ [])) + 1) ∷ [])
    ∙ ap (λ n. n ∷ reverse new) (ap (λ n. n + 1) newest ∙ add-one tag)
    ∙ sym (ap next_tag (reverse-append new (tag ∷ [])))

pub next-popped : (old new : List ℕ) (popped : Option ℕ) → old ≡ new ++ option_to_list popped → length new < length old → reverse (new ++ (first_tag (reverse old) + 1) ∷ []) ≡ next_tag (reverse old)
next-popped old new (Some tag) e less = ap (λ xs. reverse (new ++ (first_tag (reverse xs) + 1) ∷ [])) e ∙ next_is new tag ∙ sym (ap (λ xs. next_tag (reverse xs)) e)
next-popped old new None e less = let same = ap length (e ∙ append-nil new) in absurd (omega (arith, same, less))

pub next-none : (xs : List ℕ) → length xs ≤ 0 → reverse xs ≡ next_tag (reverse xs)
unfolding next_tag
next-none [] h = refl
next-none (x ∷ xs) h = absurd (omega (arith, h))

-- without the newest
pub later-popped : (old new : List ℕ) (popped : Option ℕ) → old ≡ new ++ option_to_list popped → (popped ≡ None → new ≡ []) → reverse new ≡ later_tags (reverse old)
unfolding later_tags
later-popped old new (Some tag) e none = sym (ap (λ xs. later_tags (reverse xs)) e ∙ ap later_tags (reverse-append new (tag ∷ [])))
later-popped old new None e none = ap reverse (none refl) ∙ sym (ap (λ xs. later_tags (reverse xs)) (e ∙ append-nil new ∙ none refl))

slice_get_none : (xs : List ℕ) (k : ℕ) → slice_get xs k ≡ None → length xs ≤ k
slice_get_none [] k h = omega arith
slice_get_none (x ∷ xs) zero h = cc
slice_get_none (x ∷ xs) (suc k) h = let r = slice_get_none xs k h in omega (arith, r)

-- nothing is popped from no tags alone
pub popped_none : (old new : List ℕ) (popped : Option ℕ) → old ≡ new ++ option_to_list popped → popped ≡ slice_get old (length old - 1) → popped ≡ None → new ≡ []
popped_none old new popped e is none = sym (append-nil new) ∙ sym (e ∙ ap (λ o. new ++ option_to_list o) none) ∙ empty old (sym (is) ∙ none)
  where
    empty : (xs : List ℕ) → slice_get xs (length xs - 1) ≡ None → xs ≡ []
    empty [] h = refl
    empty (x ∷ xs) h = let there : length (x ∷ xs) ≤ length (x ∷ xs) - 1 = slice_get_none (x ∷ xs) (length (x ∷ xs) - 1) h in absurd (omega (arith, there))

-- tags are the same as themselves
pub same_tags-refl : (tags : List ℕ) → same_tags tags tags ≡ true
unfolding same_tags
same_tags-refl [] = refl
same_tags-refl (tag ∷ tags) = and_from _ _ (eq-eqb tag tag refl) (same_tags-refl tags)
