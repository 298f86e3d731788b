-- Results of calls that may run out of memory.
use Rattle.std.specs.Prelude.{Result, MatchResult, ◌⊎◌}
pub use Rattle.p3l_refusal.specs.Memory.{Refused}

-- `P` of the value, or a request for memory was refused.
abbrev pub IfGiven : {T E : Type 0} → Result T E → (T → Type 0) → Type 0
IfGiven r P = MatchResult r P (λ _. Refused)

-- `P`, or a request for memory was refused.
abbrev pub OnGiven : {T E : Type 0} → Result T E → Type 0 → Type 0
OnGiven r P = IfGiven r (λ _. P)

-- `P` of the value; or a request for memory was refused, or `other` allows the error.
abbrev pub IfGivenOr : {T E : Type 0} → Result T E → (T → Type 0) → Type 0 → Type 0
IfGivenOr r P other = MatchResult r P (λ _. Refused ⊎ other)

-- `P`; or a request for memory was refused, or `other` allows the error.
abbrev pub OnGivenOr : {T E : Type 0} → Result T E → Type 0 → Type 0 → Type 0
OnGivenOr r P other = IfGivenOr r (λ _. P) other
