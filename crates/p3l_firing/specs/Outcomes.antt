-- Lists of outcomes.
use Rattle.std.specs.Prelude.{◌≡◌, List, [], ◌∷◌, ◌++◌}
use Rattle.p3l_base.specs.declared.outcome.Outcome.{Outcome}
use Rattle.p3l_base.specs.declared.outcome.Outcome.TheVariants.{Value, Trapped}

-- the outcomes up to and with the first trap
unfoldable pub up_to_first_trap : List Outcome → List Outcome
up_to_first_trap [] = []
up_to_first_trap (Value words ∷ outcomes) = Value words ∷ up_to_first_trap outcomes
up_to_first_trap (Trapped trap ∷ outcomes) = Trapped trap ∷ []

-- the list begins the other
abbrev pub IsPrefixOf : List Outcome → List Outcome → Type 0
IsPrefixOf begin all = (rest : List Outcome) × (begin ++ rest ≡ all)
