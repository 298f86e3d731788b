use Rattle.std.specs.Prelude.{◌≡◌, ℕ, ℤ, pos, ◌+◌, ◌*◌, ◌/◌, ◌%◌, ◌<◌, ◌≤◌, ◌⊎◌, List, [], ◌∷◌, ◌++◌, length, slice_index_or, ⊤}
use Rattle.std.specs.List.{All, flat_map, range_with_len}
use Rattle.p3l_base.specs.declared.slice.Place.{Place}
use Rattle.p3l_base.specs.declared.slice.Place.TheVariants.{Rest, First, Second}
use Rattle.p3l_base.specs.declared.slice.Dim.{Dim}
use Rattle.p3l_base.specs.declared.slice.Slice.{Slice}
use Rattle.p3l_base.specs.declared.cut.Cut.{Cut}
use Rattle.p3l_base.specs.Slice.{array_size, cut_size, cut_words, LiesWithin}

-- the number of words of the arrays of the slices
abbrev pub token_size : List Slice → ℕ
token_size [] = 0
token_size (s ∷ ss) = array_size s.dims + token_size ss

-- the number of words of an element in the slices
abbrev pub element_size : List Slice → ℕ
element_size [] = 0
element_size (s ∷ ss) = cut_size s.dims + element_size ss

-- the number of elements of a cut
abbrev pub element_count : Cut → ℕ
element_count cut = cut.first * cut.second

-- the words that element e takes from the slices: one cut after the other, with the free indices
-- in row-major order
abbrev pub element_words : List Slice → ℕ → List ℤ → ℕ → List ℤ
element_words slices second words e = flat_map (λ s. cut_words s words (e / second) (e % second)) slices

-- 1 at a First place, else 0
abbrev pub one_at_first : Place → ℕ
one_at_first First = 1
one_at_first Rest = 0
one_at_first Second = 0

-- 1 at a Second place, else 0
abbrev pub one_at_second : Place → ℕ
one_at_second Second = 1
one_at_second Rest = 0
one_at_second First = 0

-- the count of First among the dimensions
abbrev pub first_count : List Dim → ℕ
first_count [] = 0
first_count (d ∷ ds) = one_at_first d.place + first_count ds

-- the count of Second among the dimensions
abbrev pub second_count : List Dim → ℕ
second_count [] = 0
second_count (d ∷ ds) = one_at_second d.place + second_count ds

-- a free place has the size of its index
abbrev pub HasIndexSize : ℕ → ℕ → Place → ℕ → Type 0
HasIndexSize first second Rest n = ⊤
HasIndexSize first second First n = n ≡ first
HasIndexSize first second Second n = n ≡ second

-- each free place of the slice has the size of its index
abbrev pub HasFreeSizes : ℕ → ℕ → Slice → Type 0
HasFreeSizes first second slice = All (λ (d : Dim). HasIndexSize first second d.place d.size) slice.dims

-- the arrays follow one another without gaps, the first from word `start` on
abbrev pub FollowOneAnother : ℕ → List Slice → Type 0
FollowOneAnother start [] = ⊤
FollowOneAnother start (s ∷ ss) = (s.start ≡ start) × FollowOneAnother (start + array_size s.dims) ss

-- the results of a cut's elements fill a whole token
pub record HasLawfulOuts (cut : Cut) : Type 0 where
  pub some_first : 1 ≤ cut.first
  pub some_second : 1 ≤ cut.second
  pub some_out : 1 ≤ length cut.outs
  pub out_sizes : All (HasFreeSizes cut.first cut.second) cut.outs
  -- First occurs once in each of them
  pub out_first : All (λ (s : Slice). first_count s.dims ≡ 1) cut.outs
  -- and so does Second; or it occurs in none, and there is one second index
  pub out_second : All (λ (s : Slice). second_count s.dims ≡ 1) cut.outs
      ⊎ ((cut.second ≡ 1) × All (λ (s : Slice). second_count s.dims ≡ 0) cut.outs)
  pub out_tiles : FollowOneAnother 0 cut.outs

-- the slices that a cut's elements take fit a token of `ins` words
pub record HasLawfulIns (cut : Cut) (ins : ℕ) : Type 0 where
  pub some_in : 1 ≤ length cut.ins
  pub in_sizes : All (HasFreeSizes cut.first cut.second) cut.ins
  pub in_first : All (λ (s : Slice). first_count s.dims ≤ 1) cut.ins
  pub in_second : All (λ (s : Slice). second_count s.dims ≤ 1) cut.ins
  -- Second occurs in an in slice only where it occurs in the out slices
  pub in_second_of_outs : All (λ (s : Slice). second_count s.dims ≡ 0) cut.outs → All (λ (s : Slice). second_count s.dims ≡ 0) cut.ins
  pub in_within : All (λ (s : Slice). LiesWithin s ins) cut.ins

-- a lawful cut of a map with `ins` words in and `outs` words out, for a part with its own
pub record IsLawfulCut (cut : Cut) (ins outs part_ins part_outs : ℕ) : Type 0 where
  pub lawful_outs : HasLawfulOuts cut
  pub lawful_ins : HasLawfulIns cut ins
  pub outs_end : token_size cut.outs ≡ outs
  pub part_ins_fit : element_size cut.ins ≡ part_ins
  pub part_outs_fit : element_size cut.outs ≡ part_outs

-- the token whose cuts at the out slices are the elements' results
pub record IsJoined (cut : Cut) (results : List (List ℤ)) (token : List ℤ) : Type 0 where
  pub whole : length token ≡ token_size cut.outs
  pub cuts : (e : ℕ) → e < element_count cut → element_words cut.outs cut.second token e ≡ slice_index_or results e []

-- the first free index after a dimension's index k
abbrev pub next_first : Place → ℕ → ℕ → ℕ
next_first First k i = k
next_first Rest k i = i
next_first Second k i = i

-- the second free index after a dimension's index k
abbrev pub next_second : Place → ℕ → ℕ → ℕ
next_second Second k j = k
next_second Rest k j = j
next_second First k j = j

-- the place in the cut after a dimension's index k, where one index more is `stride` words further
abbrev pub next_place : Place → ℕ → ℕ → ℕ → ℕ
next_place Rest k stride at = at + k * stride
next_place First k stride at = at
next_place Second k stride at = at

-- the words of an array in row-major order, each given by its free indices and its place in their
-- cut; i, j and `at` hold for the dimensions before
abbrev pub array_words : (ℕ → ℕ → ℕ → ℤ) → List Dim → ℕ → ℕ → ℕ → List ℤ
array_words word [] i j at = word i j at ∷ []
array_words word (d ∷ ds) i j at =
    flat_map (λ k. array_words word ds (next_first d.place k i) (next_second d.place k j) (next_place d.place k (cut_size ds) at)) (range_with_len 0 d.size)

-- the word at a place of the result of the element with the free indices i and j
abbrev pub result_word : List (List ℤ) → ℕ → ℕ → ℕ → ℕ → ℤ
result_word results second i j at = slice_index_or (slice_index_or results (i * second + j) []) at (pos 0)

-- the words of the slices' arrays, whose part of each result begins at place `at`
abbrev pub arrays_words : List (List ℤ) → ℕ → List Slice → ℕ → List ℤ
arrays_words results second [] at = []
arrays_words results second (s ∷ ss) at = array_words (result_word results second) s.dims 0 0 at ++ arrays_words results second ss (at + cut_size s.dims)

-- the whole token that the elements' results fill, in row-major order
abbrev pub joined_words : Cut → List (List ℤ) → List ℤ
joined_words cut results = arrays_words results cut.second cut.outs 0

-- the joined words are the one token whose cuts are the results
pub record AreOnlyJoined (cut : Cut) (results : List (List ℤ)) : Type 0 where
  pub joined : IsJoined cut results (joined_words cut results)
  pub only : (token : List ℤ) → IsJoined cut results token → token ≡ joined_words cut results
