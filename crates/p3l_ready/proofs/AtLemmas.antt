-- Functions on numbers, changed at one number.
use Rattle.std.proofs.Common.{◌≡◌, ◌≢◌, ℕ, nat_eq, refl, eq-eqb, ne_eqb}
use Rattle.std.proofs.lemmas.Bool.{cond-true, cond-false}
use Rattle.p3l_ready.specs.At.{at}

pub at-same : {A : Type 0} (f : ℕ → A) (k : ℕ) (x : A) → at f k x k ≡ x
unfolding at
at-same f k x = cond-true (nat_eq k k) x (f k) (eq-eqb k k refl)

pub at-other : {A : Type 0} (f : ℕ → A) (k : ℕ) (x : A) (j : ℕ) → j ≢ k → at f k x j ≡ f j
unfolding at
at-other f k x j h = cond-false (nat_eq j k) x (f j) (ne_eqb j k h)

-- functions that agree everywhere are equal
pub same_function : {A B : Type 0} {f g : A → B} → ((x : A) → f x ≡ g x) → f ≡ g
same_function h = λ i x. h x i
