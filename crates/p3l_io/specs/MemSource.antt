-- A source in memory.
use Rattle.std.specs.Prelude.{ℕ, min, Bool, List, length, drop, Some, Result, Ok, Err}
use Rattle.p3l_io.specs.declared.fault.Failed.{Failed}
use Rattle.p3l_io.specs.Calls.{next_count, names_call}
use Rattle.p3l_io.specs.Change.{Observation, stream}

-- the bytes that are left, the most that a call gives, the calls that fail, and how many calls and faults there were
pub record SourceState : Type 0 where
  pub rest : List ℕ
  pub piece : ℕ
  pub fails : List ℕ
  pub calls : ℕ
  pub faults : ℕ

-- the source as it is observed
abbrev pub observation : SourceState → Observation (List ℕ)
observation s = stream (Some s.rest) s.faults

-- the next call fails
abbrev pub fails_next : SourceState → Bool
fails_next s = names_call s.fails (next_count s.calls)

-- the count of bytes that a call gives into so much room
abbrev pub given : SourceState → ℕ → ℕ
given s room = min (min (length s.rest) room) s.piece

-- the source after a call with this answer
abbrev pub after_take : SourceState → Result ℕ Failed → SourceState
after_take s (Ok n) = record s { rest = drop n s.rest; calls = next_count s.calls }
after_take s (Err e) = record s { calls = next_count s.calls; faults = next_count s.faults }
