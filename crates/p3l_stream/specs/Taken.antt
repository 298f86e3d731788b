-- Bytes taken from a source.
use Rattle.std.specs.Prelude.{◌≡◌, ℕ, List, ◌++◌, Option, Some}
use Rattle.p3l_io.specs.Change.{Change, HasBecome}

-- the bytes are a prefix of what was left, and the rest is still there
abbrev pub IsTakenOf : (bytes rest : List ℕ) → Option (List ℕ) → Type 0
IsTakenOf bytes rest new = (left : List ℕ) × (new ≡ Some left) × (rest ≡ bytes ++ left)

abbrev pub IsTaken : (source : Change (List ℕ)) → (bytes : List ℕ) → Type 0
IsTaken source bytes = HasBecome source (IsTakenOf bytes)
