-- Rows of numbers, from the first on.
use Rattle.std.proofs.Common.{◌≡◌, ℕ, ◌+◌, List, [], ◌∷◌, ◌++◌, ap, ◌∙◌, sym, append_assoc}
use Rattle.std.specs.List.{flat_map, range_with_len}
use Rattle.std.proofs.lemmas.List.{append-nil}
use Rattle.std.proofs.lemmas.List.Concat.{flat_map-append}
use Rattle.p3l_base.proofs.Pieces.{range_append}

-- a text with the texts of a row after it, and one number more
pub row_more : (f : ℕ → List ℕ) (low n : ℕ) (text : List ℕ) →
    (text ++ flat_map f (range_with_len low n)) ++ f (low + n) ≡ text ++ flat_map f (range_with_len low (n + 1))
row_more f low n text =
    rw range_append
    (append_assoc text (flat_map f (range_with_len low n)) (f (low + n))
    ∙ ap (λ (more : List ℕ). text ++ (flat_map f (range_with_len low n) ++ more)) (sym (append-nil (f (low + n))))
    ∙ ap (λ (all : List ℕ). text ++ all) (sym (flat_map-append f (range_with_len low n) ((low + n) ∷ []))))
