-- The one outcome that a call gives, unless a request for memory was refused.
use Rattle.std.proofs.Common.{◌≡◌, Result, Ok, Err, ◌∙◌}
use Rattle.p3l_base.specs.declared.NoMemory.{NoMemory}
use Rattle.p3l_base.specs.declared.outcome.Outcome.{Outcome}
use Rattle.p3l_base.specs.Memory.{IfGiven}

-- an outcome that is given is any that equals it
pub given-same : (r : Result Outcome NoMemory) (x y : Outcome) → x ≡ y → IfGiven r (λ o. o ≡ x) → IfGiven r (λ o. o ≡ y)
given-same (Ok o) x y same is = is ∙ same
given-same (Err e) x y same refused = refused
