use Rattle.std.proofs.Common.{◌≡◌, ℕ, ℤ, ◌/◌, ◌%◌, List, [], ◌∷◌, length, refl, arith}
use Rattle.std.proofs.lemmas.List.{length-append}
use Rattle.p3l_base.specs.declared.slice.Slice.{Slice}
use Rattle.p3l_base.specs.Slice.{cut_words}
use Rattle.p3l_base.specs.Cut.{element_size, element_words}
use Rattle.p3l_base.specs.laws.Slice.{length-cut_words}

-- an element has the products of the sizes that are not free, summed over the slices
pub length-element_words : (slices : List Slice) (second : ℕ) (words : List ℤ) (e : ℕ) → length (element_words slices second words e) ≡ element_size slices
length-element_words [] second words e = refl
length-element_words (s ∷ ss) second words e =
    let rest = length-element_words ss second words e in
    omega (arith, length-append (cut_words s words (e / second) (e % second)) (element_words ss second words e), length-cut_words s words (e / second) (e % second), rest)
