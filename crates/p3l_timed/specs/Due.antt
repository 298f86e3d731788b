-- The moments at which processes are due, and which of them is the next to fire.
use Rattle.std.specs.Prelude.{◌≢◌, ℕ, ◌+◌, ◌<◌, ◌==◌, Bool, if◌then◌else◌, Option, Some, None, unwrap_or}
use Rattle.p3l_timed.specs.Moments.{IsNoLater, IsSooner}

-- a process that can fire keeps its due moment, or gets this one; one that can't has none
abbrev pub due_next : Bool → ℕ → Option ℕ → Option ℕ
due_next can fresh due = if can then Some (unwrap_or due fresh) else None

-- at a moment: of the processes that can fire each keeps its due moment, and one that became able to gets the moment plus its price
abbrev pub renewed : (ℕ → Bool) → (ℕ → ℕ) → ℕ → (ℕ → Option ℕ) → ℕ → Option ℕ
renewed can price moment due r = due_next (can r) (moment + price r) (due r)

-- the due moment of process p is over
abbrev pub without : ℕ → (ℕ → Option ℕ) → ℕ → Option ℕ
without p due r = if r == p then None else due r

-- none is due
abbrev pub nothing_due : ℕ → Option ℕ
nothing_due r = None

-- process p is due, none is due before it, and of those due with it it has the lowest number
pub record IsNext (due : ℕ → Option ℕ) (p : ℕ) : Type 0 where
  pub due_is : due p ≢ None
  pub least : (q : ℕ) → IsNoLater (due p) (due q)
  pub first : (q : ℕ) → q < p → IsSooner (due p) (due q)
