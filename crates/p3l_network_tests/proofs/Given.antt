-- Consequences where a call gives something, or a request for memory was refused.
use Rattle.std.proofs.Common.{◌≡◌, Result, Ok, Err, IfOk, inl, inr, refl, true}
use Rattle.p3l_base.specs.Memory.{IfGiven, IfGivenOr}

-- more follows where the call gave something
pub given_so : {A E : Type 0} {P Q : A → Type 0} (r : Result A E) → IfGiven r P → ((x : A) → P x → Q x) → IfGiven r Q
given_so (Ok x) p f = f x p
given_so (Err e) refused f = refused

-- so too where nothing is said of a refusal
pub ok_so : {A E : Type 0} {P Q : A → Type 0} (r : Result A E) → IfGiven r P → ((x : A) → P x → Q x) → IfOk r Q
ok_so (Ok x) p f = f x p
ok_so (Err e) refused f = tt

-- so too where a refusal may have another reason
pub given_or : {A E : Type 0} (P : A → Type 0) (other : Type 0) (r : Result A E) → IfGiven r P → IfGivenOr r P other
given_or P other (Ok x) p = p
given_or P other (Err e) refused = inl refused

-- so too where units may refuse of their own
pub own_or : {A E : Type 0} (P : A → Type 0) (r : Result A E) → IfOk r P → IfGivenOr r P (true ≡ true)
own_or P (Ok x) p = p
own_or P (Err e) none = inr refl
