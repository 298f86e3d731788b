-- Clauses of calls that may run out of memory: what follows where the call gave something, and why it was refused else.
use Rattle.std.proofs.Common.{Result, Ok, Err, inl}
use Rattle.std.specs.Prelude.{MatchResult}
use Rattle.std.specs.Result.{IfOk}
use Rattle.p3l_base.specs.Memory.{IfGiven, IfGivenOr, OnGiven}

-- more follows of the value that a call gave
pub match_so : {A E : Type 0} {P Q : A → Type 0} (N : E → Type 0) (r : Result A E) → MatchResult r P N → ((x : A) → P x → Q x) → MatchResult r Q N
match_so N (Ok x) p f = f x p
match_so N (Err e) n f = n

-- so too where nothing is said of a refusal
pub ok_so : {A E : Type 0} {P Q : A → Type 0} (N : E → Type 0) (r : Result A E) → MatchResult r P N → ((x : A) → P x → Q x) → IfOk r Q
ok_so N (Ok x) p f = f x p
ok_so N (Err e) n f = tt

-- so too where a refusal may have another reason
pub or_so : {A E : Type 0} {P Q : A → Type 0} (other : Type 0) (r : Result A E) → IfGiven r P → ((x : A) → P x → Q x) → IfGivenOr r Q other
or_so other (Ok x) p f = f x p
or_so other (Err e) n f = inl n

-- two clauses together
pub match_both : {A E : Type 0} {P : Type 0} {Q R : A → Type 0} (N : E → Type 0) (r : Result A E) → MatchResult r (λ _. P) N → IfOk r Q → ((x : A) → P → Q x → R x) → MatchResult r R N
match_both N (Ok x) p q f = f x p q
match_both N (Err e) n q f = n

-- so too where a refusal may have another reason
pub or_both : {A E : Type 0} {P : Type 0} {Q R : A → Type 0} (other : Type 0) (r : Result A E) → OnGiven r P → IfOk r Q → ((x : A) → P → Q x → R x) → IfGivenOr r R other
or_both other (Ok x) p q f = f x p q
or_both other (Err e) n q f = inl n
