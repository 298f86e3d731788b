-- Texts of the items of a list, by their places.
use Rattle.std.specs.Prelude.{ℕ, ◌+◌, List, [], ◌∷◌, ◌++◌}

-- the texts of items, each by its place, where the first has this place
unfoldable pub numbered : {A : Type 0} → (ℕ → A → List ℕ) → ℕ → List A → List ℕ
numbered text place [] = []
numbered text place (item ∷ items) = text place item ++ numbered text (place + 1) items
