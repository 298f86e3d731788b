-- THE SCAN of a list of elements by halves: the folds of all its prefixes, each by a fixed tree.
use Rattle.std.specs.Prelude.{ℕ, ℤ, zero, suc, ◌-◌, ◌/◌, Result, Ok, Err, List, [], ◌∷◌, ◌++◌, length, take, drop, slice_index_or}
use Rattle.std.specs.List.{flat_map}
use Rattle.p3l_base.specs.declared.outcome.Outcome.{Outcome}
use Rattle.p3l_base.specs.declared.outcome.Outcome.TheVariants.{Value, Trapped}
use Rattle.p3l_base.specs.declared.outcome.Trap.{Trap}

-- the result of a scan: the folds in order, or a trap
abbrev pub Scanned : Type 0
Scanned = Result (List (List ℤ)) Trap

-- an outcome before what others come to: the first trap, or all values
abbrev pub before : Outcome → Scanned → Scanned
before (Trapped trap) rest = Err trap
before (Value words) (Ok folds) = Ok (words ∷ folds)
before (Value words) (Err trap) = Err trap

-- the combination of an element with each of these in order, or the first trap of them
unfoldable pub combined_each : (List ℤ → Outcome) → List ℤ → List (List ℤ) → Scanned
combined_each operator last [] = Ok []
combined_each operator last (element ∷ elements) = before (operator (last ++ element)) (combined_each operator last elements)

-- the last of these elements
abbrev pub last_of : List (List ℤ) → List ℤ
last_of elements = slice_index_or elements (length elements - 1) []

-- folds with others after them
abbrev pub with_front : List (List ℤ) → Scanned → Scanned
with_front folds (Ok more) = Ok (folds ++ more)
with_front folds (Err trap) = Err trap

-- the folds of a first half, and then its last one combined with each fold of the second half
unfoldable pub merged : (List ℤ → Outcome) → List (List ℤ) → List (List ℤ) → Scanned
merged operator front back = with_front front (combined_each operator (last_of front) back)

-- the same of what the halves come to: a trap of the first half is before one of the second
abbrev pub both : (List ℤ → Outcome) → Scanned → Scanned → Scanned
both operator (Err trap) back = Err trap
both operator (Ok front) (Err trap) = Err trap
both operator (Ok front) (Ok back) = merged operator front back

-- the scan of at most `n` elements
unfoldable pub scan_of_up_to : ℕ → (List ℤ → Outcome) → List (List ℤ) → Scanned
scan_of_up_to n operator [] = Ok []
scan_of_up_to n operator (one ∷ []) = Ok (one ∷ [])
scan_of_up_to zero operator (one ∷ (other ∷ more)) = Ok (one ∷ [])
scan_of_up_to (suc n) operator (one ∷ (other ∷ more)) =
    let all : List (List ℤ) = one ∷ (other ∷ more) in
    both operator (scan_of_up_to n operator (take (length all / 2) all)) (scan_of_up_to n operator (drop (length all / 2) all))

-- of one element the scan is that element; of several it is the scan of the first half, rounded down, and then its last
-- fold combined with each fold of the scan of the rest
abbrev pub scan : (List ℤ → Outcome) → List (List ℤ) → Scanned
scan operator elements = scan_of_up_to (length elements) operator elements

-- the words of all folds, one after the other; a trap is itself
abbrev pub in_words : Scanned → Outcome
in_words (Ok folds) = Value (flat_map (λ fold. fold) folds)
in_words (Err trap) = Trapped trap
