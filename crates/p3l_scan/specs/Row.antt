-- Outcomes in a row.
use Rattle.std.specs.Prelude.{List, [], ◌∷◌, ◌++◌}
use Rattle.p3l_base.specs.declared.outcome.Outcome.{Outcome}
use Rattle.p3l_base.specs.declared.outcome.Outcome.TheVariants.{Value, Trapped}

-- an outcome with another after it: the first trap, or the words of both
abbrev pub with_next : Outcome → Outcome → Outcome
with_next (Trapped trap) more = Trapped trap
with_next (Value words) (Trapped trap) = Trapped trap
with_next (Value words) (Value more) = Value (words ++ more)

-- the first trap of these, or the words of all
unfoldable pub in_row : List Outcome → Outcome
in_row [] = Value []
in_row (outcome ∷ outcomes) = with_next outcome (in_row outcomes)
