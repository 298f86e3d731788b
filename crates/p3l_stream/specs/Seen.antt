-- The stream item by item, as contracts see it.
use Rattle.std.specs.Prelude.{ℕ, ℤ, ◌+◌, ◌-◌, ◌/◌, Bool, true, false, List, [], length, Option, Some, None, Result, Ok, Err}
use Rattle.p3l_base.specs.declared.NoMemory.{NoMemory}
use Rattle.p3l_stream.specs.declared.items.Ending.{Ending}

-- the count of words of an item, and of the bytes that are taken at most; the bytes taken and not yet answered; the count of all bytes
-- taken, and of lines passed; true if the source was at its end; and the ending, if the stream ended
pub record Seen : Type 0 where
  pub words : ℕ
  pub limit : ℕ
  pub held : List ℕ
  pub taken : ℕ
  pub passed : ℕ
  pub at_end : Bool
  pub closed : Option (Result Ending NoMemory)

-- a stream from which nothing was read
abbrev pub started : ℕ → ℕ → Seen
started words limit = record { words = words; limit = limit; held = []; taken = 0; passed = 0; at_end = false; closed = None }

-- an item, or how the stream ends
abbrev pub Answer : Type 0
Answer = Result (List ℤ) Ending

-- the ending by an answer, if it ends the stream
abbrev pub closed_by : Result Answer NoMemory → Option (Result Ending NoMemory)
closed_by (Ok (Ok words)) = None
closed_by (Ok (Err ending)) = Some (Ok ending)
closed_by (Err e) = Some (Err e)

-- the answer of an ended stream
abbrev pub answer_of : Result Ending NoMemory → Result Answer NoMemory
answer_of (Ok ending) = Ok (Err ending)
answer_of (Err e) = Err e

-- the ending of a stream that ended, unless memory ran out
abbrev pub ending_in : Option (Result Ending NoMemory) → Option Ending
ending_in (Some (Ok ending)) = Some ending
ending_in (Some (Err e)) = None
ending_in None = None

-- the count of items that an answer is
abbrev pub item_count : Answer → ℕ
item_count (Ok words) = 1
item_count (Err ending) = 0

-- the most items that can still be answered: one has two bytes or more, and the last can have one
abbrev pub most_of : Option (Result Ending NoMemory) → Bool → ℕ → ℕ → ℕ
most_of (Some close) at_end bytes more = 0
most_of None true bytes more = (bytes + 1) / 2
most_of None false bytes more = (bytes + more) / 2 + 1

abbrev pub most_items : Seen → ℕ
most_items s = most_of s.closed s.at_end (length s.held) (s.limit - s.taken)
