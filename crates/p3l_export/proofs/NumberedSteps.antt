-- Texts of the items of a list, from a place on.
use Rattle.std.proofs.Common.{◌≡◌, ℕ, ◌+◌, ◌<◌, ◌≤◌, List, ◌++◌, drop, get_or, length, append_assoc}
use Rattle.std.proofs.Math.ListN.{drop_of_length-le}
use Rattle.std.proofs.lemmas.List.{append-nil, drop_more}
use Rattle.p3l_export.specs.Numbered.{numbered}

-- the text of an item, and then those of the items after it
pub numbered_step : {A : Type 0} (line : ℕ → A → List ℕ) (items : List A) (i : ℕ) (d : A) (text : List ℕ) → i < length items →
    (text ++ line i (get_or items i d)) ++ numbered line (i + 1) (drop (i + 1) items) ≡ text ++ numbered line i (drop i items)
unfolding numbered
numbered_step line items i d text inside =
    rw (drop_more items i d inside) (append_assoc text (line i (get_or items i d)) (numbered line (i + 1) (drop (i + 1) items)))

-- no text is left after the last item
pub numbered_end : {A : Type 0} (line : ℕ → A → List ℕ) (items : List A) (i : ℕ) (text : List ℕ) → length items ≤ i →
    text ++ numbered line i (drop i items) ≡ text
unfolding numbered
numbered_end line items i text past = rw (drop_of_length-le items past) (append-nil text)
