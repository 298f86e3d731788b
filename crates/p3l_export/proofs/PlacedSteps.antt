-- Items made one by one, from a place on.
use Rattle.std.proofs.Common.{◌≡◌, ℕ, ◌+◌, ◌<◌, ◌≤◌, List, [], ◌∷◌, ◌++◌, drop, get_or, length, append_assoc}
use Rattle.std.proofs.Math.ListN.{drop_of_length-le}
use Rattle.std.proofs.lemmas.List.{append-nil, drop_more}
use Rattle.p3l_export.specs.Capacity.{placed}

-- an item, and then those after it
pub placed_step : {A B : Type 0} (make : ℕ → A → B) (items : List A) (i : ℕ) (d : A) (made : List B) → i < length items →
    (made ++ make i (get_or items i d) ∷ []) ++ placed make (i + 1) (drop (i + 1) items) ≡ made ++ placed make i (drop i items)
unfolding placed
placed_step make items i d made inside =
    rw (drop_more items i d inside) (append_assoc made (make i (get_or items i d) ∷ []) (placed make (i + 1) (drop (i + 1) items)))

-- nothing is left after the last item
pub placed_end : {A B : Type 0} (make : ℕ → A → B) (items : List A) (i : ℕ) (made : List B) → length items ≤ i →
    made ++ placed make i (drop i items) ≡ made
unfolding placed
placed_end make items i made past = rw (drop_of_length-le items past) (append-nil made)
