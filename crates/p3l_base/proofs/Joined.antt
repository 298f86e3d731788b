use Rattle.std.proofs.Common.{◌≡◌, ℕ, ℤ, pos, ◌+◌, ◌*◌, ◌<◌, List, [], ◌∷◌, ◌++◌, suc, length, map, refl, sym, ap, ◌∙◌, arith, append_assoc, get_or, ◌-◌}
use Rattle.std.specs.List.{All, flat_map, range_with_len}
use Rattle.std.proofs.lemmas.List.{length-append, append-nil, map-append, get_or_at}
use Rattle.std.proofs.lemmas.List.Elements.{All-head, All-tail}
use Rattle.std.proofs.lemmas.List.FromFn.{length-range_with_len}
use Rattle.p3l_base.specs.declared.slice.Place.{Place}
use Rattle.p3l_base.specs.declared.slice.Place.TheVariants.{Rest, First, Second}
use Rattle.p3l_base.specs.declared.slice.Dim.{Dim}
use Rattle.p3l_base.specs.declared.slice.Slice.{Slice}
use Rattle.p3l_base.specs.Slice.{array_size, cut_size, taken_size, taken_indices, cut_places, words_at, cut_words, IsBelowSize, AreFreeIndices}
use Rattle.p3l_base.specs.Cut.{array_words, arrays_words, result_word, element_size, FollowOneAnother, next_first, next_second, next_place}
use Rattle.p3l_base.specs.laws.Slice.{length-flat_map_same}
use Rattle.p3l_base.proofs.Pieces.{map-flat_map, pieces_at, range_append, blocks_joined}

-- the first free index after all dimensions, where a First place sets it to i
abbrev pub last_first : List Dim → ℕ → ℕ → ℕ
last_first [] i before = before
last_first (d ∷ ds) i before = last_first ds i (next_first d.place i before)

-- the second free index after all dimensions, where a Second place sets it to j
abbrev pub last_second : List Dim → ℕ → ℕ → ℕ
last_second [] j before = before
last_second (d ∷ ds) j before = last_second ds j (next_second d.place j before)

pub length-array_words : (word : ℕ → ℕ → ℕ → ℤ) (dims : List Dim) (i j at : ℕ) → length (array_words word dims i j at) ≡ array_size dims
length-array_words word [] i j at = refl
length-array_words word (d ∷ ds) i j at =
    length-flat_map_same (λ k. array_words word ds (next_first d.place k i) (next_second d.place k j) (next_place d.place k (cut_size ds) at)) (array_size ds) (λ k. length-array_words word ds _ _ _) (range_with_len 0 d.size)
    ∙ ap (λ n. n * array_size ds) (length-range_with_len 0 d.size)

-- the cut of an array is made of the cuts of its inner arrays
step_cut : (word : ℕ → ℕ → ℕ → ℤ) (place : Place) (n : ℕ) (ds : List Dim) (i j i₀ j₀ at start : ℕ) (token : List ℤ) → IsBelowSize i j place n → ((k : ℕ) → k < n → words_at token (cut_places (start + k * array_size ds) ds i j) ≡ map (word (last_first ds i (next_first place k i₀)) (last_second ds j (next_second place k j₀))) (range_with_len (next_place place k (cut_size ds) at) (cut_size ds))) → words_at token (flat_map (λ k. cut_places (start + k * array_size ds) ds i j) (taken_indices place n i j)) ≡ map (word (last_first ds i (next_first place i i₀)) (last_second ds j (next_second place j j₀))) (range_with_len at (taken_size place n * cut_size ds))
step_cut word Rest n ds i j i₀ j₀ at start token below inner =
    map-flat_map _ (λ k. cut_places (start + k * array_size ds) ds i j) (range_with_len 0 n)
    ∙ blocks_joined (λ k. words_at token (cut_places (start + k * array_size ds) ds i j)) (word (last_first ds i i₀) (last_second ds j j₀)) at (cut_size ds) n inner
step_cut word First n ds i j i₀ j₀ at start token below inner =
    let one : 1 * cut_size ds ≡ cut_size ds = omega arith in
    rw (append-nil (cut_places (start + i * array_size ds) ds i j), one) (inner i below)
step_cut word Second n ds i j i₀ j₀ at start token below inner =
    let one : 1 * cut_size ds ≡ cut_size ds = omega arith in
    rw (append-nil (cut_places (start + j * array_size ds) ds i j), one) (inner j below)

-- the cut of an array in a token gives the words it was made of, in order
pub cut_of_array : (word : ℕ → ℕ → ℕ → ℤ) (dims : List Dim) (i j i₀ j₀ at start : ℕ) (token front back : List ℤ) → AreFreeIndices dims i j → length front ≡ start → token ≡ front ++ (array_words word dims i₀ j₀ at ++ back) → words_at token (cut_places start dims i j) ≡ map (word (last_first dims i i₀) (last_second dims j j₀)) (range_with_len at (cut_size dims))
cut_of_array word [] i j i₀ j₀ at start token front back free here parts =
    ap (λ w. w ∷ []) (ap (λ xs. get_or xs start (pos 0)) parts ∙ get_or_at front (word i₀ j₀ at) back (pos 0) start here)
cut_of_array word (d ∷ ds) i j i₀ j₀ at start token front back free here parts =
    let below = λ (x : Dim). IsBelowSize i j x.place x.size in
    let piece : ℕ → List ℤ = λ k. array_words word ds (next_first d.place k i₀) (next_second d.place k j₀) (next_place d.place k (cut_size ds) at) in
    step_cut word d.place d.size ds i j i₀ j₀ at start token (All-head below d ds free) (λ k h.
    let split = pieces_at piece 0 k d.size k (d.size - suc k) (omega arith) (omega arith) in
    let before = flat_map piece (range_with_len 0 k) in
    let after = flat_map piece (range_with_len (k + 1) (d.size - suc k)) in
    let size : length before ≡ k * array_size ds =
    length-flat_map_same piece (array_size ds) (λ x. length-array_words word ds _ _ _) (range_with_len 0 k) ∙ ap (λ n. n * array_size ds) (length-range_with_len 0 k) in
    let whole : token ≡ (front ++ before) ++ (piece k ++ (after ++ back)) =
    parts ∙ ap (λ xs. front ++ (xs ++ back)) split ∙ simp append_assoc in
    cut_of_array word ds i j (next_first d.place k i₀) (next_second d.place k j₀) (next_place d.place k (cut_size ds) at) (start + k * array_size ds) token (front ++ before) (after ++ back) (All-tail below d ds free) (omega (arith, length-append front before)) whole)

-- so do the cuts of the arrays of slices that follow one another
pub cuts_of_arrays : (results : List (List ℤ)) (second : ℕ) (slices : List Slice) (i j at start : ℕ) (token front : List ℤ) → All (λ (s : Slice). AreFreeIndices s.dims i j) slices → All (λ (s : Slice). last_first s.dims i 0 ≡ i) slices → All (λ (s : Slice). last_second s.dims j 0 ≡ j) slices → FollowOneAnother start slices → length front ≡ start → token ≡ front ++ arrays_words results second slices at → flat_map (λ s. cut_words s token i j) slices ≡ map (result_word results second i j) (range_with_len at (element_size slices))
cuts_of_arrays results second [] i j at start token front free firsts seconds follow here parts = refl
cuts_of_arrays results second (s ∷ ss) i j at start token front free firsts seconds follow here parts =
    let word = result_word results second in
    let array = array_words word s.dims 0 0 at in
    let rest = arrays_words results second ss (at + cut_size s.dims) in
    let first = All-head (λ (x : Slice). last_first x.dims i 0 ≡ i) s ss firsts in
    let second' = All-head (λ (x : Slice). last_second x.dims j 0 ≡ j) s ss seconds in
    let head = cut_of_array word s.dims i j 0 0 at start token front rest (All-head (λ (x : Slice). AreFreeIndices x.dims i j) s ss free) here parts in
    let cut : cut_words s token i j ≡ map (word i j) (range_with_len at (cut_size s.dims)) =
    ap (λ n. words_at token (cut_places n s.dims i j)) follow.0 ∙ head ∙ rw (first, second') refl in
    let tail = cuts_of_arrays results second ss i j (at + cut_size s.dims) (start + array_size s.dims) token (front ++ array) (All-tail (λ (x : Slice). AreFreeIndices x.dims i j) s ss free) (All-tail (λ (x : Slice). last_first x.dims i 0 ≡ i) s ss firsts) (All-tail (λ (x : Slice). last_second x.dims j 0 ≡ j) s ss seconds) follow.1 (omega (arith, length-append front array, length-array_words word s.dims 0 0 at)) (parts ∙ sym (append_assoc front array rest)) in
    ap (λ xs. xs ++ flat_map (λ x. cut_words x token i j) ss) cut ∙ ap (λ xs. map (word i j) (range_with_len at (cut_size s.dims)) ++ xs) tail
    ∙ sym (ap (map (word i j)) (range_append at (cut_size s.dims) (element_size ss)) ∙ map-append (word i j) (range_with_len at (cut_size s.dims)) (range_with_len (at + cut_size s.dims) (element_size ss)))
