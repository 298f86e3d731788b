-- Consequences of what a call gives, unless a request for memory was refused.
use Rattle.std.proofs.Common.{Result, Ok, Err, IfOk}
use Rattle.p3l_base.specs.Memory.{IfGiven, OnGiven}

pub given_weaker : {A E P Q : Type 0} (r : Result A E) → (P → Q) → OnGiven r P → OnGiven r Q
given_weaker (Ok x) go h = go h
given_weaker (Err e) go h = h

pub given_ok : {A E : Type 0} (r : Result A E) (P Q : A → Type 0) → ((x : A) → P x → Q x) → IfGiven r P → IfOk r Q
given_ok (Ok x) P Q go h = go x h
given_ok (Err e) P Q go h = tt
