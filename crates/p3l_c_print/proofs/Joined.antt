-- Texts that are put one after the other.
use Rattle.std.proofs.Common.{◌≡◌, List, ℕ, ◌++◌, Result, Ok, Err, ap, ◌∙◌, append_assoc}
use Rattle.p3l_base.specs.Memory.{IfGiven, OnGiven}

pub then : (old middle new first second : List ℕ) → middle ≡ old ++ first → new ≡ middle ++ second → new ≡ old ++ (first ++ second)
then old middle new first second p q = q ∙ ap (λ t. t ++ second) p ∙ append_assoc old first second

pub given_weaker : {T E P Q : Type 0} (r : Result T E) → (P → Q) → OnGiven r P → OnGiven r Q
given_weaker (Ok x) go h = go h
given_weaker (Err e) go h = h

pub given_as : {T E : Type 0} (r : Result T E) (one two : T) → one ≡ two → IfGiven r (λ it. it ≡ one) → IfGiven r (λ it. it ≡ two)
given_as (Ok x) one two same h = h ∙ same
given_as (Err e) one two same h = h

pub given_so : {A E : Type 0} (r : Result A E) (P Q : A → Type 0) → ((x : A) → P x → Q x) → IfGiven r P → IfGiven r Q
given_so (Ok x) P Q go h = go x h
given_so (Err e) P Q go h = h

-- a fact beside a value that is given
pub given_both : {A E : Type 0} (r : Result A E) (P : Type 0) (Q R : A → Type 0) → ((x : A) → P → Q x → R x) → OnGiven r P → IfGiven r Q → IfGiven r R
given_both (Ok x) P Q R go h k = go x h k
given_both (Err e) P Q R go h k = h
