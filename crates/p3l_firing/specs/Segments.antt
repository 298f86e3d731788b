-- The segments that the token of a reduce is cut into.
use Rattle.std.specs.Prelude.{ℕ, ℤ, zero, suc, ◌-◌, ◌/◌, cond, nat_lt, List, [], ◌∷◌, slice_index, slice_index_or}
use Rattle.std.specs.List.{flat_map}
use Rattle.p3l_skel.specs.Item.{elements}
use Rattle.p3l_skel.specs.Fold.{segments}

-- the number of halvings until a number is 1, at most `most`
unfoldable pub level_up_to : ℕ → ℕ → ℕ
level_up_to zero n = 0
level_up_to (suc most) n = cond (nat_lt n 2) 0 (suc (level_up_to most (n / 2)))

-- the level at which there are n segments, where n is a power of two up to 512
abbrev pub level_of : ℕ → ℕ
level_of n = level_up_to 9 n

-- the lengths of the halves of segments: the first of two halves is rounded down
unfoldable pub halved : List ℕ → List ℕ
halved [] = []
halved (l ∷ ls) = (l / 2) ∷ ((l - l / 2) ∷ halved ls)

-- the lengths of the segments of `len` elements, in order: at level 0 all, and at each further level the halves
unfoldable pub segment_lengths : ℕ → ℕ → List ℕ
segment_lengths zero len = len ∷ []
segment_lengths (suc level) len = halved (segment_lengths level len)

-- the length of segment s of n
abbrev pub segment_length : ℕ → ℕ → ℕ → ℕ
segment_length len n s = slice_index (segment_lengths (level_of n) len) s

-- the words of segment s of n, where an element has `elem` words
unfoldable pub segment_words : ℕ → ℕ → ℕ → List ℤ → List ℤ
segment_words elem n s words = flat_map (λ element. element) (slice_index_or (segments (level_of n) (elements elem words)) s [])
