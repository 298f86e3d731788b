-- The choice of the process that is picked next.
use Rattle.std.specs.Prelude.{◌≡◌, ℕ, ◌+◌, ◌%◌, ◌<◌, Bool, true, List, ◌∷◌, drop, filter, find, length, Option, None, Some}
use Rattle.std.specs.List.{AllByRecursion, range_with_len, slice_get}
use Rattle.rand_core.specs.Pcg32Seed.{pcg32_seed}
use Rattle.rand_pcg.specs.Pcg.{pcg32, pcg32_of_seed}
use Rattle.p3l_ready.specs.Flags.{in_turn}
use Rattle.p3l_sched.specs.declared.picker.Way.{Way}
use Rattle.p3l_sched.specs.declared.picker.Way.TheVariants as way
use Rattle.p3l_sched.specs.declared.schedule.Schedule.{Schedule}
use Rattle.p3l_sched.specs.declared.schedule.Schedule.TheVariants as schedule

-- the processes that can fire, of the first `size`, in ascending order
abbrev pub ready_of : (ℕ → Bool) → ℕ → List ℕ
ready_of can size = filter can (range_with_len 0 size)

-- the way to a schedule's first pick
abbrev pub begun : Schedule → Way
begun schedule.RoundRobin = way.Turns 0
begun (schedule.Seeded seed) = way.Draws (pcg32_of_seed (pcg32_seed 16 seed))
begun (schedule.Recorded picks) = way.Reads picks

-- the next pick among `size` processes, of which these can fire: in turn the first of them at or
-- after the cursor, cyclically; of a generator the one whose place is its next word modulo their
-- number; of recorded picks the first that is left
abbrev pub pick_of : (ℕ → Bool) → ℕ → Way → Option ℕ
pick_of can size (way.Turns cursor) = find can (in_turn size cursor)
pick_of can size (way.Draws generator) = slice_get (ready_of can size) ((pcg32 generator).0 % length (ready_of can size))
pick_of can size (way.Reads picks) = slice_get picks 0

-- the way to the pick after a pick: the cursor moves past the process, cyclically; a word was drawn; a pick was read
abbrev pub after_pick : ℕ → Way → ℕ → Way
after_pick size (way.Turns cursor) p = way.Turns ((p + 1) % size)
after_pick size (way.Draws generator) p = way.Draws (pcg32 generator).1
after_pick size (way.Reads picks) p = way.Reads (drop 1 picks)

abbrev pub next_after : ℕ → Way → Option ℕ → Way
next_after size w None = w
next_after size w (Some p) = after_pick size w p

-- the cursor is one of `size` processes
abbrev pub HasPlace : ℕ → Way → Type 0
HasPlace size (way.Turns cursor) = cursor < size
HasPlace size w = Unit {0}

-- a pick is the first of those that are left; or else its process can fire
abbrev pub IsPickedFrom : (ℕ → Bool) → ℕ → Way → ℕ → Type 0
IsPickedFrom can size (way.Reads picks) p = picks ≡ p ∷ drop 1 picks
IsPickedFrom can size w p = can p ≡ true

-- each recorded pick is the number of one of `size` processes
abbrev pub NamesProcesses : ℕ → Schedule → Type 0
NamesProcesses size (schedule.Recorded picks) = AllByRecursion (λ p. p < size) picks
NamesProcesses size s = Unit {0}

-- the same of picks that are left
abbrev pub HasProcesses : ℕ → Way → Type 0
HasProcesses size (way.Reads picks) = AllByRecursion (λ p. p < size) picks
HasProcesses size w = Unit {0}

-- the number of recorded picks
abbrev pub recorded : Schedule → ℕ
recorded (schedule.Recorded picks) = length picks
recorded s = 0

-- picks are made by turns, from one of `size` processes on, or by a generator
abbrev pub IsMade : ℕ → Way → Type 0
IsMade size (way.Turns cursor) = cursor < size
IsMade size (way.Draws generator) = Unit {0}
IsMade size (way.Reads picks) = ⊥
