use Rattle.std.specs.Prelude.{ℕ, ℤ, pos, ◌+◌, ◌*◌, ◌<◌, ◌≤◌, List, [], ◌∷◌, map, slice_index_or, ⊤}
use Rattle.std.specs.List.{All, flat_map, range_with_len}
use Rattle.p3l_base.specs.declared.slice.Place.{Place}
use Rattle.p3l_base.specs.declared.slice.Place.TheVariants.{Rest, First, Second}
use Rattle.p3l_base.specs.declared.slice.Dim.{Dim}
use Rattle.p3l_base.specs.declared.slice.Slice.{Slice}

-- the number of words of an array: the product of its sizes
abbrev pub array_size : List Dim → ℕ
array_size [] = 1
array_size (d ∷ ds) = d.size * array_size ds

-- the number of indices of a dimension in one cut
abbrev pub taken_size : Place → ℕ → ℕ
taken_size Rest n = n
taken_size First n = 1
taken_size Second n = 1

-- the number of words of one cut of an array: the product of the sizes that are not free
abbrev pub cut_size : List Dim → ℕ
cut_size [] = 1
cut_size (d ∷ ds) = taken_size d.place d.size * cut_size ds

-- the indices of a dimension that the cut at the free indices i and j takes
abbrev pub taken_indices : Place → ℕ → ℕ → ℕ → List ℕ
taken_indices Rest n i j = range_with_len 0 n
taken_indices First n i j = i ∷ []
taken_indices Second n i j = j ∷ []

-- the places of an array from word `start` on that the cut at i and j takes, in row-major order
abbrev pub cut_places : ℕ → List Dim → ℕ → ℕ → List ℕ
cut_places start [] i j = start ∷ []
cut_places start (d ∷ ds) i j =
    flat_map (λ k. cut_places (start + k * array_size ds) ds i j) (taken_indices d.place d.size i j)

-- the words of a token at these places
abbrev pub words_at : List ℤ → List ℕ → List ℤ
words_at words places = map (λ k. slice_index_or words k (pos 0)) places

-- the words of the slice at the free indices i and j
abbrev pub cut_words : Slice → List ℤ → ℕ → ℕ → List ℤ
cut_words slice words i j =
    words_at words (cut_places slice.start slice.dims i j)

-- the slice's whole array lies in a token of n words
abbrev pub LiesWithin : Slice → ℕ → Type 0
LiesWithin slice words = slice.start + array_size slice.dims ≤ words

-- the free index of a dimension, if it has one, is below its size
abbrev pub IsBelowSize : ℕ → ℕ → Place → ℕ → Type 0
IsBelowSize i j Rest n = ⊤
IsBelowSize i j First n = i < n
IsBelowSize i j Second n = j < n

-- i and j are below the sizes of the dimensions that they are indices of
abbrev pub AreFreeIndices : List Dim → ℕ → ℕ → Type 0
AreFreeIndices dims i j = All (λ (d : Dim). IsBelowSize i j d.place d.size) dims
