-- The one outcome that a call gives, unless a request for memory was refused or the leaves may want.
use Rattle.std.proofs.Common.{◌≡◌, true, false, Result, Ok, Err, inl, ⊎_elim, IfOk, ◌∙◌, sym, subst}
use Rattle.p3l_base.specs.declared.NoMemory.{NoMemory}
use Rattle.p3l_base.specs.declared.outcome.Outcome.{Outcome}
use Rattle.p3l_base.specs.Memory.{IfGiven, IfGivenOr}

-- an outcome that is given is any that equals it
pub given-same : (want : Type 0) (r : Result Outcome NoMemory) (x y : Outcome) → x ≡ y → IfGivenOr r (λ o. o ≡ x) want → IfGivenOr r (λ o. o ≡ y) want
given-same want (Ok o) x y same is = is ∙ same
given-same want (Err e) x y same wants = wants

-- the same, of a call that runs no leaves
pub given-alone : (want : Type 0) (r : Result Outcome NoMemory) (x y : Outcome) → x ≡ y → IfGiven r (λ o. o ≡ x) → IfGivenOr r (λ o. o ≡ y) want
given-alone want (Ok o) x y same is = is ∙ same
given-alone want (Err e) x y same refused = inl refused

-- the same, of leaves that run out of memory only where a request was refused
pub given-surely : (r : Result Outcome NoMemory) (x : Outcome) → IfGivenOr r (λ o. o ≡ x) (false ≡ true) → IfGiven r (λ o. o ≡ x)
given-surely (Ok o) x is = is
given-surely (Err e) x wants = ⊎_elim (λ refused. refused) (λ want. absurd cc) wants

-- a property of the one outcome that a call may give holds of its result
pub given-along : (want : Type 0) (P : Outcome → Type 0) (r : Result Outcome NoMemory) (x : Outcome) → P x → IfGivenOr r (λ o. o ≡ x) want → IfOk r P
given-along want P (Ok o) x holds is = subst P (sym is) holds
given-along want P (Err e) x holds wants = tt
