-- The lines of inner parts, by the tags alone.
use Rattle.std.specs.Prelude.{List, [], ◌∷◌}
use Rattle.p3l_firing.specs.State.{State}
use Rattle.p3l_firing.specs.declared.token.Token.{Token}
use Rattle.p3l_template.specs.Finding.{line_of}
use Rattle.p3l_template.specs.Shape.{Slot}

-- the lines of the inner parts at these slots, in which these tokens are pending
unfoldable pub lines_by : State → List Slot → List (List Token) → List (List Token)
lines_by s [] inner = []
lines_by s (x ∷ xs) [] = []
lines_by s (x ∷ xs) (p ∷ ps) = line_of s x.input x.output p ∷ lines_by s xs ps
