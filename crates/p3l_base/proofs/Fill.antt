use Rattle.std.proofs.Common.{◌≡◌, ℕ, ℤ, ◌+◌, ◌*◌, ◌/◌, ◌<◌, ◌≤◌, List, ◌∷◌, ◌++◌, suc, refl, sym, ap, subst, ◌∙◌, arith, append_assoc}
use Rattle.std.specs.List.{flat_map, range_with_len}
use Rattle.std.proofs.Math.Nat.{mul-div_cancel_left}
use Rattle.p3l_base.specs.declared.slice.Place.{Place}
use Rattle.p3l_base.specs.declared.slice.Place.TheVariants.{Rest, First, Second}
use Rattle.p3l_base.specs.declared.slice.Dim.{Dim}
use Rattle.p3l_base.specs.Slice.{cut_size, taken_size}
use Rattle.p3l_base.specs.Cut.{array_words, result_word, next_first, next_second, next_place, HasIndexSize}
use Rattle.p3l_base.proofs.Walk.{pieces_more, strided}

taken_some : (place : Place) (n : ℕ) → (n ≡ 0 → ⊥) → 0 < taken_size place n
taken_some Rest n h = omega arith
taken_some First n h = omega arith
taken_some Second n h = omega arith

-- the words of a cut of the inner array are the whole cut's divided by the indices taken
pub inner_cut : (len taken : ℕ) (dims inner : List Dim) (d : Dim) → dims ≡ d ∷ inner → len ≡ cut_size dims → taken ≡ taken_size d.place d.size → (d.size ≡ 0 → ⊥) → len / taken ≡ cut_size inner
inner_cut len taken dims inner d e h t ne =
    let whole : len ≡ taken * cut_size inner = h ∙ ap cut_size e ∙ ap (λ x. x * cut_size inner) (sym t) in
    let some : 0 < taken = subst (λ (x : ℕ). 0 < x) (sym t) (taken_some d.place d.size ne) in
    ap (λ x. x / taken) whole ∙ mul-div_cancel_left (cut_size inner) some

-- the inner cut ends within the whole one
pub place_within : (place : Place) (k n s at : ℕ) → k < n → next_place place k s at + s ≤ at + taken_size place n * s
place_within Rest k n s at h = omega (arith, strided k n s h)
place_within First k n s at h = omega arith
place_within Second k n s at h = omega arith

pub inner_cut_within : (len at width k s : ℕ) (dims inner : List Dim) (d : Dim) → dims ≡ d ∷ inner → len ≡ cut_size dims → s ≡ cut_size inner → at + len ≤ width → k < d.size → next_place d.place k s at + s ≤ width
inner_cut_within len at width k s dims inner d e h r w below =
    let whole : len ≡ taken_size d.place d.size * s = h ∙ ap cut_size e ∙ ap (λ x. taken_size d.place d.size * x) (sym r) in
    omega (arith, place_within d.place k d.size s at below)

pub first_below : (place : Place) (first second k n i : ℕ) → HasIndexSize first second place n → k < n → i < first → next_first place k i < first
first_below Rest first second k n i e h below = below
first_below First first second k n i e h below = omega arith
first_below Second first second k n i e h below = below

pub second_below : (place : Place) (first second k n j : ℕ) → HasIndexSize first second place n → k < n → j < second → next_second place k j < second
second_below Rest first second k n j e h below = below
second_below First first second k n j e h below = below
second_below Second first second k n j e h below = omega arith

-- the words of the inner arrays of the first `count` indices
abbrev pub filled : List (List ℤ) → ℕ → Place → List Dim → ℕ → ℕ → ℕ → ℕ → List ℤ
filled results second place inner i j at count =
    flat_map (λ k. array_words (result_word results second) inner (next_first place k i) (next_second place k j) (next_place place k (cut_size inner) at)) (range_with_len 0 count)

pub filled_more : (results : List (List ℤ)) (second : ℕ) (place : Place) (inner : List Dim) (i j at k s i' j' at' : ℕ) (old now next : List ℤ) → s ≡ cut_size inner → i' ≡ next_first place k i → j' ≡ next_second place k j → at' ≡ next_place place k s at → now ≡ old ++ filled results second place inner i j at k → next ≡ now ++ array_words (result_word results second) inner i' j' at' → next ≡ old ++ filled results second place inner i j at (k + 1)
filled_more results second place inner i j at k s i' j' at' old now next r e₁ e₂ e₃ before step =
    let word = result_word results second in
    let piece : ℕ → List ℤ = λ x. array_words word inner (next_first place x i) (next_second place x j) (next_place place x (cut_size inner) at) in
    let count : k + 1 ≡ suc k = omega arith in
    let more : filled results second place inner i j at (suc k) ≡ filled results second place inner i j at k ++ piece k = pieces_more piece 0 k k (omega arith) in
    let here : array_words word inner i' j' at' ≡ piece k = rw (e₁, e₂, e₃, r) refl in
    rw (count, more) (step ∙ ap (λ xs. xs ++ array_words word inner i' j' at') before ∙ append_assoc old _ _ ∙ ap (λ xs. old ++ (filled results second place inner i j at k ++ xs)) here)
