-- Functions on numbers, changed at one number.
use Rattle.std.specs.Prelude.{ℕ, cond, nat_eq}

-- f, but x at k
unfoldable pub at : {A : Type 0} → (ℕ → A) → ℕ → A → ℕ → A
at f k x j = cond (nat_eq j k) x (f j)
