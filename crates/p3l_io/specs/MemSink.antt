-- A sink in memory.
use Rattle.std.specs.Prelude.{ℕ, ◌-◌, ◌^◌, min, Bool, ◌&&◌, ◌||◌, ◌==◌, nat_lt, List, ◌++◌, length, take, Option, Some, None, is_some, find, if◌then◌else◌}
use Rattle.p3l_io.specs.declared.mem_sink.PutFail.{PutFail}
use Rattle.p3l_io.specs.Calls.{next_count}
use Rattle.p3l_io.specs.Change.{Observation, stream}

-- the bytes that were put, the room for more, the calls that fail, and how many calls and faults there were
pub record SinkState : Type 0 where
  pub taken : List ℕ
  pub left : ℕ
  pub fails : List PutFail
  pub calls : ℕ
  pub faults : ℕ

-- the sink as it is observed
abbrev pub observation : SinkState → Observation (List ℕ)
observation s = stream (Some s.taken) s.faults

-- the first entry of a call; none is named by the number at which the count stays
abbrev pub entry_of : List PutFail → ℕ → Option PutFail
entry_of fails call = find (λ entry. entry.call == call && nat_lt call (2 ^ 64 - 1)) fails

-- the entry of the next call
abbrev pub next_entry : SinkState → Option PutFail
next_entry s = entry_of s.fails (next_count s.calls)

-- the next call fails: an entry names it, or the piece is longer than the room
abbrev pub fails_at : SinkState → List ℕ → Bool
fails_at s piece = is_some (next_entry s) || nat_lt s.left (length piece)

-- the count of bytes put of a piece of this length, by this entry of the call and the room left
abbrev pub put_count : Option PutFail → ℕ → ℕ → ℕ
put_count None size left = min size left
put_count (Some entry) size left = min entry.prefix (min size left)

-- the sink after a call with this piece, which failed or not
abbrev pub after_put : SinkState → List ℕ → Bool → SinkState
after_put s piece failed =
    let n = put_count (next_entry s) (length piece) s.left in
    record s {
      taken = s.taken ++ take n piece;
      left = s.left - n;
      calls = next_count s.calls;
      faults = if failed then next_count s.faults else s.faults;
    }
