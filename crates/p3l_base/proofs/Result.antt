use Rattle.std.proofs.Common.{◌≡◌, ℕ, ℤ, pos, ◌+◌, ◌/◌, ◌%◌, ◌<◌, ◌≤◌, List, [], ◌∷◌, ◌++◌, length, map, get_or, drop, refl, sym, ap, ◌∙◌, arith, ⊎_elim}
use Rattle.std.specs.List.{All, range_with_len}
use Rattle.std.proofs.lemmas.List.{length-append, append-nil, drop_all}
use Rattle.std.proofs.lemmas.List.Elements.{All-get_or, All-weaker}
use Rattle.std.proofs.lemmas.List.FromFn.{fill_by_all}
use Rattle.std.proofs.lemmas.Nat.{div-add-mod', div_below, mod_below}
use Rattle.p3l_base.specs.declared.slice.Place.{Place}
use Rattle.p3l_base.specs.declared.slice.Place.TheVariants.{Rest, First, Second}
use Rattle.p3l_base.specs.declared.slice.Dim.{Dim}
use Rattle.p3l_base.specs.declared.slice.Slice.{Slice}
use Rattle.p3l_base.specs.declared.cut.Cut.{Cut}
use Rattle.p3l_base.specs.Slice.{cut_size, IsBelowSize, AreFreeIndices}
use Rattle.p3l_base.specs.Cut.{array_words, arrays_words, result_word, joined_words, element_size, element_count, token_size, first_count, second_count, one_at_first, one_at_second, next_first, next_second, HasIndexSize, HasFreeSizes, HasLawfulOuts, IsJoined}
use Rattle.p3l_base.proofs.Joined.{last_first, last_second, length-array_words, cuts_of_arrays}

next_first_same : (place : Place) (i : ℕ) → next_first place i i ≡ i
next_first_same Rest i = refl
next_first_same First i = refl
next_first_same Second i = refl

last_first_same : (dims : List Dim) (i : ℕ) → last_first dims i i ≡ i
last_first_same [] i = refl
last_first_same (d ∷ ds) i = ap (last_first ds i) (next_first_same d.place i) ∙ last_first_same ds i

next_second_same : (place : Place) (j : ℕ) → next_second place j j ≡ j
next_second_same Rest j = refl
next_second_same First j = refl
next_second_same Second j = refl

last_second_same : (dims : List Dim) (j : ℕ) → last_second dims j j ≡ j
last_second_same [] j = refl
last_second_same (d ∷ ds) j = ap (last_second ds j) (next_second_same d.place j) ∙ last_second_same ds j

first_or_later : (place : Place) (ds : List Dim) (i before : ℕ) → one_at_first place + first_count ds ≡ 1 → ((b : ℕ) → first_count ds ≡ 1 → last_first ds i b ≡ i) → last_first ds i (next_first place i before) ≡ i
first_or_later Rest ds i before once later = later before (omega arith)
first_or_later First ds i before once later = last_first_same ds i
first_or_later Second ds i before once later = later before (omega arith)

-- First sets the first free index if it occurs once
last_first_once : (dims : List Dim) (i before : ℕ) → first_count dims ≡ 1 → last_first dims i before ≡ i
last_first_once [] i before once = absurd (omega arith)
last_first_once (d ∷ ds) i before once = first_or_later d.place ds i before once (λ b h. last_first_once ds i b h)

second_or_later : (place : Place) (ds : List Dim) (j before : ℕ) → one_at_second place + second_count ds ≡ 1 → ((b : ℕ) → second_count ds ≡ 1 → last_second ds j b ≡ j) → last_second ds j (next_second place j before) ≡ j
second_or_later Rest ds j before once later = later before (omega arith)
second_or_later First ds j before once later = later before (omega arith)
second_or_later Second ds j before once later = last_second_same ds j

-- Second sets the second free index if it occurs once
last_second_once : (dims : List Dim) (j before : ℕ) → second_count dims ≡ 1 → last_second dims j before ≡ j
last_second_once [] j before once = absurd (omega arith)
last_second_once (d ∷ ds) j before once = second_or_later d.place ds j before once (λ b h. last_second_once ds j b h)

seconds_set : (cut : Cut) (j : ℕ) → HasLawfulOuts cut → j < cut.second → All (λ (s : Slice). last_second s.dims j 0 ≡ j) cut.outs
seconds_set cut j lawful below =
    ⊎_elim
    (λ once. All-weaker (λ (s : Slice). second_count s.dims ≡ 1) (λ (s : Slice). last_second s.dims j 0 ≡ j) (λ s h. last_second_once s.dims j 0 h) cut.outs once)
    (λ never.
    let zero' : j ≡ 0 = omega (arith, never.0) in
    All-weaker (λ (s : Slice). second_count s.dims ≡ 0) (λ (s : Slice). last_second s.dims j 0 ≡ j) (λ s _. rw zero' (last_second_same s.dims 0)) cut.outs never.1)
    lawful.out_second

below_size : (first second i j : ℕ) (place : Place) (n : ℕ) → i < first → j < second → HasIndexSize first second place n → IsBelowSize i j place n
below_size first second i j Rest n h k fits = fits
below_size first second i j First n h k fits = omega arith
below_size first second i j Second n h k fits = omega arith

-- indices below the cut's sizes are free indices of its slices
pub free_indices : (first second i j : ℕ) (slice : Slice) → i < first → j < second → HasFreeSizes first second slice → AreFreeIndices slice.dims i j
free_indices first second i j slice h k fits =
    All-weaker (λ (d : Dim). HasIndexSize first second d.place d.size) (λ (d : Dim). IsBelowSize i j d.place d.size) (λ d f. below_size first second i j d.place d.size h k f) slice.dims fits

length-arrays_words : (results : List (List ℤ)) (second : ℕ) (slices : List Slice) (at : ℕ) → length (arrays_words results second slices at) ≡ token_size slices
length-arrays_words results second [] at = refl
length-arrays_words results second (s ∷ ss) at =
    let word = result_word results second in
    let array = array_words word s.dims 0 0 at in
    let rest = arrays_words results second ss (at + cut_size s.dims) in
    omega (arith, length-append array rest, length-array_words word s.dims 0 0 at, length-arrays_words results second ss (at + cut_size s.dims))

-- the joined words are a token whose cuts are the results
pub joined_words_is : (cut : Cut) (results : List (List ℤ)) → HasLawfulOuts cut → length results ≡ element_count cut → All (λ words. length words ≡ element_size cut.outs) results → IsJoined cut results (joined_words cut results)
joined_words_is cut results lawful count sizes = record {
  whole = length-arrays_words results cut.second cut.outs 0;
  cuts = λ e below.
      let i = e / cut.second in
      let j = e % cut.second in
      let some : 0 < cut.second = lawful.some_second in
      let row : i < cut.first = div_below e cut.second cut.first some below in
      let column : j < cut.second = mod_below e cut.second some in
      let token = joined_words cut results in
      let result = get_or results e [] in
      let size : length result ≡ element_size cut.outs = All-get_or (λ words. length words ≡ element_size cut.outs) results e [] (omega arith) sizes in
      let word = λ (r : List ℤ) (k : ℕ). get_or r k (pos 0) in
      cuts_of_arrays results cut.second cut.outs i j 0 0 token []
      (All-weaker (HasFreeSizes cut.first cut.second) (λ (s : Slice). AreFreeIndices s.dims i j) (λ s f. free_indices cut.first cut.second i j s row column f) cut.outs lawful.out_sizes)
      (All-weaker (λ (s : Slice). first_count s.dims ≡ 1) (λ (s : Slice). last_first s.dims i 0 ≡ i) (λ s h. last_first_once s.dims i 0 h) cut.outs lawful.out_first)
      (seconds_set cut j lawful column)
      lawful.out_tiles refl refl
      ∙ ap (λ n. map (word (get_or results n [])) (range_with_len 0 (element_size cut.outs))) (div-add-mod' e cut.second)
      ∙ sym (fill_by_all (word result) result (element_size cut.outs) (pos 0) size (λ k h. refl));
}

-- after the last slice the token is whole
pub filled_all : (results : List (List ℤ)) (second : ℕ) (slices : List Slice) (n at : ℕ) (token whole : List ℤ) → length slices ≤ n → token ++ arrays_words results second (drop n slices) at ≡ whole → token ≡ whole
filled_all results second slices n at token whole h e =
    sym (append-nil token) ∙ ap (λ ss. token ++ arrays_words results second ss at) (sym (drop_all n slices h)) ∙ e
