use Rattle.std.proofs.Common.{◌≡◌, ℕ, ℤ, pos, ◌+◌, ◌-◌, ◌*◌, ◌/◌, ◌%◌, ◌<◌, ◌≤◌, List, [], ◌∷◌, ◌++◌, get_or, refl, sym, ap, ◌∙◌, arith, ⊎_elim}
use Rattle.std.specs.List.{All, flat_map, range_with_len}
use Rattle.std.proofs.lemmas.Bool.{cases_lt}
use Rattle.std.proofs.lemmas.List.{append-nil, length-map, ext_get_or}
use Rattle.std.proofs.lemmas.List.Elements.{All-head, All-tail, All-weaker}
use Rattle.std.proofs.lemmas.List.FromFn.{get_or-range_with_len, length-range_with_len}
use Rattle.std.proofs.lemmas.Nat.{div-add-mod', div_below, mod_below, div-mul-add, mod-mul-add, mul-add-lt}
use Rattle.p3l_base.specs.declared.slice.Place.{Place}
use Rattle.p3l_base.specs.declared.slice.Place.TheVariants.{Rest, First, Second}
use Rattle.p3l_base.specs.declared.slice.Dim.{Dim}
use Rattle.p3l_base.specs.declared.slice.Slice.{Slice}
use Rattle.p3l_base.specs.declared.cut.Cut.{Cut}
use Rattle.p3l_base.specs.Slice.{array_size, cut_places, words_at, cut_words, taken_indices}
use Rattle.p3l_base.specs.Cut.{element_words, token_size, first_count, second_count, one_at_first, one_at_second, HasIndexSize, HasFreeSizes, FollowOneAnother, HasLawfulOuts, IsJoined}
use Rattle.p3l_base.specs.laws.Slice.{length-cut_words}
use Rattle.p3l_base.proofs.Pieces.{map-flat_map, parts_of_same, pieces_of_same}

same_indices_first : (place : Place) (n i i' j : ℕ) → one_at_first place ≡ 0 → taken_indices place n i j ≡ taken_indices place n i' j
same_indices_first Rest n i i' j none = refl
same_indices_first First n i i' j none = absurd (omega arith)
same_indices_first Second n i i' j none = refl

same_indices_second : (place : Place) (n i j j' : ℕ) → one_at_second place ≡ 0 → taken_indices place n i j ≡ taken_indices place n i j'
same_indices_second Rest n i j j' none = refl
same_indices_second First n i j j' none = refl
same_indices_second Second n i j j' none = absurd (omega arith)

flat_map_same : {X A : Type 0} (f g : X → List A) → ((x : X) → f x ≡ g x) → (xs : List X) → flat_map f xs ≡ flat_map g xs
flat_map_same f g same [] = refl
flat_map_same f g same (x ∷ xs) = ap (λ ys. ys ++ flat_map f xs) (same x) ∙ ap (λ ys. g x ++ ys) (flat_map_same f g same xs)

-- without a First place the first free index says nothing
places_without_first : (dims : List Dim) (start i i' j : ℕ) → first_count dims ≡ 0 → cut_places start dims i j ≡ cut_places start dims i' j
places_without_first [] start i i' j none = refl
places_without_first (d ∷ ds) start i i' j none =
    ap (flat_map (λ k. cut_places (start + k * array_size ds) ds i j)) (same_indices_first d.place d.size i i' j (omega arith))
    ∙ flat_map_same (λ k. cut_places (start + k * array_size ds) ds i j) (λ k. cut_places (start + k * array_size ds) ds i' j) (λ k. places_without_first ds (start + k * array_size ds) i i' j (omega arith)) (taken_indices d.place d.size i' j)

-- without a Second place the second free index says nothing
places_without_second : (dims : List Dim) (start i j j' : ℕ) → second_count dims ≡ 0 → cut_places start dims i j ≡ cut_places start dims i j'
places_without_second [] start i j j' none = refl
places_without_second (d ∷ ds) start i j j' none =
    ap (flat_map (λ k. cut_places (start + k * array_size ds) ds i j)) (same_indices_second d.place d.size i j j' (omega arith))
    ∙ flat_map_same (λ k. cut_places (start + k * array_size ds) ds i j) (λ k. cut_places (start + k * array_size ds) ds i j') (λ k. places_without_second ds (start + k * array_size ds) i j j' (omega arith)) (taken_indices d.place d.size i j')

-- two tokens have the same cuts of an array at all free indices
abbrev SameCuts : ℕ → ℕ → List ℤ → List ℤ → List Dim → ℕ → Type 0
SameCuts first second a b dims start = (i j : ℕ) → i < first → j < second → words_at a (cut_places start dims i j) ≡ words_at b (cut_places start dims i j)

-- then they have the same cuts of each inner array
inner_same : (first second : ℕ) (a b : List ℤ) (place : Place) (n : ℕ) (ds : List Dim) (start : ℕ) → HasIndexSize first second place n → one_at_first place + first_count ds ≤ 1 → one_at_second place + second_count ds ≤ 1 → ((i j : ℕ) → i < first → j < second → words_at a (flat_map (λ k. cut_places (start + k * array_size ds) ds i j) (taken_indices place n i j)) ≡ words_at b (flat_map (λ k. cut_places (start + k * array_size ds) ds i j) (taken_indices place n i j))) → (k : ℕ) → k < n → SameCuts first second a b ds (start + k * array_size ds)
inner_same first second a b Rest n ds start fits once_first once_second same k h i j hi hj =
    let piece = λ (x : ℕ). cut_places (start + x * array_size ds) ds i j in
    let apart = pieces_of_same (λ x. words_at a (piece x)) (λ x. words_at b (piece x)) (λ x. length-map (piece x) _ ∙ sym (length-map (piece x) _)) (range_with_len 0 n)
    (sym (map-flat_map _ piece (range_with_len 0 n)) ∙ same i j hi hj ∙ map-flat_map _ piece (range_with_len 0 n)) k 0 (rw length-range_with_len h) in
    let index : get_or (range_with_len 0 n) k 0 ≡ k = get_or-range_with_len 0 n k 0 h ∙ omega arith in
    rw index at apart
inner_same first second a b First n ds start fits once_first once_second same k h i j hi hj =
    let at_k = rw append-nil at (same k j (omega arith) hj) in
    rw (places_without_first ds (start + k * array_size ds) i k j (omega arith)) at_k
inner_same first second a b Second n ds start fits once_first once_second same k h i j hi hj =
    let at_k = rw append-nil at (same i k hi (omega arith)) in
    rw (places_without_second ds (start + k * array_size ds) i j k (omega arith)) at_k

-- an array with a place has inner arrays with places
some_inner : (p n size : ℕ) → p < n * size → 0 < size
some_inner p n size h =
    ⊎_elim (λ some. some)
    (λ none.
    let e : size ≡ 0 = omega arith in
    let h' : p < n * 0 = rw e at h in
    absurd (omega arith))
    (cases_lt 0 size)

-- and so the same words in the whole array
same_array : (first second : ℕ) (a b : List ℤ) (dims : List Dim) (start : ℕ) → 1 ≤ first → 1 ≤ second → All (λ (d : Dim). HasIndexSize first second d.place d.size) dims → first_count dims ≤ 1 → second_count dims ≤ 1 → SameCuts first second a b dims start → (p : ℕ) → p < array_size dims → get_or a (start + p) (pos 0) ≡ get_or b (start + p) (pos 0)
same_array first second a b [] start some_first some_second fits once_first once_second same p h =
    let here : start + p ≡ start = omega arith in
    let words = same 0 0 some_first some_second in
    let word : get_or a start (pos 0) ≡ get_or b start (pos 0) = cc in
    rw here word
same_array first second a b (d ∷ ds) start some_first some_second fits once_first once_second same p h =
    let fit = λ (x : Dim). HasIndexSize first second x.place x.size in
    let size = array_size ds in
    let some = some_inner p d.size size h in
    let k = p / size in
    let below : k < d.size = div_below p size d.size some h in
    let inner = inner_same first second a b d.place d.size ds start (All-head fit d ds fits) once_first once_second same k below in
    let word = same_array first second a b ds (start + k * size) some_first some_second (All-tail fit d ds fits) (omega arith) (omega arith) inner (p % size) (mod_below p size some) in
    let place : start + k * size + p % size ≡ start + p = omega (arith, div-add-mod' p size) in
    rw place at word

-- two tokens with the same elements have the same words in the arrays of the slices
same_arrays : (first second : ℕ) (a b : List ℤ) (slices : List Slice) (start : ℕ) → 1 ≤ first → 1 ≤ second → All (HasFreeSizes first second) slices → All (λ (s : Slice). first_count s.dims ≤ 1) slices → All (λ (s : Slice). second_count s.dims ≤ 1) slices → FollowOneAnother start slices → ((i j : ℕ) → i < first → j < second → flat_map (λ s. cut_words s a i j) slices ≡ flat_map (λ s. cut_words s b i j) slices) → (p : ℕ) → p < token_size slices → get_or a (start + p) (pos 0) ≡ get_or b (start + p) (pos 0)
same_arrays first second a b [] start some_first some_second fits once_first once_second follow same p h = absurd (omega arith)
same_arrays first second a b (s ∷ ss) start some_first some_second fits once_first once_second follow same p h =
    let parts = λ (i j : ℕ) (hi : i < first) (hj : j < second). parts_of_same (cut_words s a i j) (flat_map (λ x. cut_words x a i j) ss) (cut_words s b i j) (flat_map (λ x. cut_words x b i j) ss) (length-cut_words s a i j ∙ sym (length-cut_words s b i j)) (same i j hi hj) in
    ⊎_elim
    (λ inside.
    let word = same_array first second a b s.dims s.start some_first some_second (All-head (HasFreeSizes first second) s ss fits) (All-head (λ (x : Slice). first_count x.dims ≤ 1) s ss once_first) (All-head (λ (x : Slice). second_count x.dims ≤ 1) s ss once_second) (λ i j hi hj. (parts i j hi hj).0) p inside in
    rw follow.0 at word)
    (λ after.
    let q = p - array_size s.dims in
    let word = same_arrays first second a b ss (start + array_size s.dims) some_first some_second (All-tail (HasFreeSizes first second) s ss fits) (All-tail (λ (x : Slice). first_count x.dims ≤ 1) s ss once_first) (All-tail (λ (x : Slice). second_count x.dims ≤ 1) s ss once_second) follow.1 (λ i j hi hj. (parts i j hi hj).1) q (omega arith) in
    let place : start + array_size s.dims + q ≡ start + p = omega arith in
    rw place at word)
    (cases_lt p (array_size s.dims))

seconds_at_most_once : (cut : Cut) → HasLawfulOuts cut → All (λ (s : Slice). second_count s.dims ≤ 1) cut.outs
seconds_at_most_once cut lawful =
    ⊎_elim
    (λ once. All-weaker (λ (s : Slice). second_count s.dims ≡ 1) (λ (s : Slice). second_count s.dims ≤ 1) (λ s h. omega arith) cut.outs once)
    (λ never. All-weaker (λ (s : Slice). second_count s.dims ≡ 0) (λ (s : Slice). second_count s.dims ≤ 1) (λ s h. omega arith) cut.outs never.1)
    lawful.out_second

-- the results fill one token at most
pub joined_once : (cut : Cut) (results : List (List ℤ)) (a b : List ℤ) → HasLawfulOuts cut → IsJoined cut results a → IsJoined cut results b → a ≡ b
joined_once cut results a b lawful of_a of_b =
    let elements = λ (i j : ℕ) (hi : i < cut.first) (hj : j < cut.second).
    let e = i * cut.second + j in
    let below = mul-add-lt i cut.second j cut.first hi hj in
    let count : e < cut.first * cut.second = omega arith in
    let same : element_words cut.outs cut.second a e ≡ element_words cut.outs cut.second b e = of_a.cuts e count ∙ sym (of_b.cuts e count) in
    rw (div-mul-add i cut.second j hj, mod-mul-add i cut.second j hj) at same in
    ext_get_or (pos 0) a b (of_a.whole ∙ sym of_b.whole) (λ p h.
    let here : 0 + p ≡ p = omega arith in
    rw here at (same_arrays cut.first cut.second a b cut.outs 0 lawful.some_first lawful.some_second lawful.out_sizes
    (All-weaker (λ (s : Slice). first_count s.dims ≡ 1) (λ (s : Slice). first_count s.dims ≤ 1) (λ s k. omega arith) cut.outs lawful.out_first)
    (seconds_at_most_once cut lawful) lawful.out_tiles elements p (omega (arith, of_a.whole))))
