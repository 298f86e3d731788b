-- Counts of calls on objects in memory, and the calls that fail.
use Rattle.std.specs.Prelude.{ℕ, ◌+◌, ◌-◌, ◌^◌, min, List, Bool, ◌&&◌, ◌==◌, nat_lt}
use Rattle.std.specs.List.{list_any}

-- one more than a count, which stays at the last value of a `u64`
abbrev pub next_count : ℕ → ℕ
next_count n = min (n + 1) (2 ^ 64 - 1)

-- the numbers name this call; none is named by the number at which the count stays
abbrev pub names_call : List ℕ → ℕ → Bool
names_call fails call = nat_lt call (2 ^ 64 - 1) && list_any (λ number. number == call) fails
