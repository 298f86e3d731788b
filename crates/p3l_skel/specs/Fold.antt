-- The fold of a list of outcomes by halves, and the segments that it can be cut into.
use Rattle.std.specs.Prelude.{ℕ, ℤ, zero, suc, ◌/◌, List, [], ◌∷◌, ◌++◌, length, take, drop}
use Rattle.std.specs.List.{flat_map}
use Rattle.p3l_base.specs.declared.outcome.Outcome.{Outcome}
use Rattle.p3l_base.specs.declared.outcome.Outcome.TheVariants.{Value, Trapped}

-- an operator on two outcomes: the left trap, else the right trap, else what it makes of the words
-- of the left followed by those of the right
abbrev pub combined : (List ℤ → Outcome) → Outcome → Outcome → Outcome
combined operator (Trapped trap) right = Trapped trap
combined operator (Value v) (Trapped trap) = Trapped trap
combined operator (Value v) (Value w) = operator (v ++ w)

-- the fold by halves of at most n outcomes
unfoldable pub fold_of_up_to : ℕ → (List ℤ → Outcome) → List Outcome → Outcome
fold_of_up_to n operator [] = Value []
fold_of_up_to n operator (one ∷ []) = one
fold_of_up_to zero operator (one ∷ (other ∷ more)) = one
fold_of_up_to (suc n) operator (one ∷ (other ∷ more)) =
    let all : List Outcome = one ∷ (other ∷ more) in
    combined operator (fold_of_up_to n operator (take (length all / 2) all)) (fold_of_up_to n operator (drop (length all / 2) all))

-- the tree fold: one outcome is itself; several are the fold of the first half, rounded down,
-- combined with the fold of the rest
abbrev pub tree_fold : (List ℤ → Outcome) → List Outcome → Outcome
tree_fold operator outcomes = fold_of_up_to (length outcomes) operator outcomes

-- a list cut into its first half, rounded down, and the rest
abbrev pub halves : {X : Type 0} → List X → List (List X)
halves xs = take (length xs / 2) xs ∷ (drop (length xs / 2) xs ∷ [])

-- the segments of a list: at level 0 the whole, and at each further level the halves of each
unfoldable pub segments : {X : Type 0} → ℕ → List X → List (List X)
segments zero xs = xs ∷ []
segments (suc level) xs = flat_map halves (segments level xs)
