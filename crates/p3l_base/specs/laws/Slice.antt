use Rattle.std.proofs.Common.{◌≡◌, ℕ, ℤ, ◌+◌, ◌*◌, List, [], ◌∷◌, length, refl, ap, ◌∙◌, arith}
use Rattle.std.specs.List.{flat_map}
use Rattle.std.proofs.lemmas.List.{length-append, length-map}
use Rattle.std.proofs.lemmas.List.FromFn.{length-range_with_len}
use Rattle.p3l_base.specs.declared.slice.Place.{Place}
use Rattle.p3l_base.specs.declared.slice.Place.TheVariants.{Rest, First, Second}
use Rattle.p3l_base.specs.declared.slice.Dim.{Dim}
use Rattle.p3l_base.specs.declared.slice.Slice.{Slice}
use Rattle.p3l_base.specs.Slice.{array_size, cut_size, taken_size, taken_indices, cut_places, cut_words}

-- pieces of one length, joined
pub length-flat_map_same : {X A : Type 0} (f : X → List A) (n : ℕ) → ((x : X) → length (f x) ≡ n) → (xs : List X) → length (flat_map f xs) ≡ length xs * n
length-flat_map_same f n same [] = omega arith
length-flat_map_same f n same (x ∷ xs) =
    omega (arith, length-append (f x) (flat_map f xs), same x, length-flat_map_same f n same xs)

pub length-taken_indices : (place : Place) (n i j : ℕ) → length (taken_indices place n i j) ≡ taken_size place n
length-taken_indices Rest n i j = length-range_with_len 0 n
length-taken_indices First n i j = refl
length-taken_indices Second n i j = refl

pub length-cut_places : (dims : List Dim) (start i j : ℕ) → length (cut_places start dims i j) ≡ cut_size dims
length-cut_places [] start i j = refl
length-cut_places (d ∷ ds) start i j =
    length-flat_map_same (λ k. cut_places (start + k * array_size ds) ds i j) (cut_size ds) (λ k. length-cut_places ds (start + k * array_size ds) i j) (taken_indices d.place d.size i j)
    ∙ ap (λ n. n * cut_size ds) (length-taken_indices d.place d.size i j)

-- a cut has the product of the sizes that are not free
pub length-cut_words : (slice : Slice) (words : List ℤ) (i j : ℕ) → length (cut_words slice words i j) ≡ cut_size slice.dims
length-cut_words slice words i j = length-map _ _ ∙ length-cut_places slice.dims slice.start i j
