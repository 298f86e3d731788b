-- The channels that an emit and a collect choose.
use Rattle.std.specs.Prelude.{◌≡◌, ℕ, ◌<◌, ◌≤◌, true, false, List, length, slice_index, Option, Some, None}
use Rattle.p3l_firing.specs.declared.net.Net.{Net}
use Rattle.p3l_firing.specs.State.{State, has_room}
use Rattle.p3l_firing.specs.kinds.Collect.{front_is}

-- the chosen one is the first of the channels with room that have the fewest tokens
pub record Emptiest (net : Net) (s : State) (cs : List ℕ) (o : Option ℕ) : Type 0 where
  pub at : ℕ
  pub below : at < length cs
  pub is : o ≡ Some (slice_index cs at)
  pub room : has_room net s (slice_index cs at) ≡ true
  pub fewest : (k : ℕ) → k < length cs → has_room net s (slice_index cs k) ≡ true →
      length (s.tokens (slice_index cs at)) ≤ length (s.tokens (slice_index cs k))
  pub first : (k : ℕ) → k < at → has_room net s (slice_index cs k) ≡ true →
      length (s.tokens (slice_index cs at)) < length (s.tokens (slice_index cs k))

-- none has room
pub record Full (net : Net) (s : State) (cs : List ℕ) (o : Option ℕ) : Type 0 where
  pub is : o ≡ None
  pub rooms : (k : ℕ) → k < length cs → has_room net s (slice_index cs k) ≡ false

-- the chosen one is the first of the channels whose first token has number n
pub record FirstDue (s : State) (n : ℕ) (cs : List ℕ) (o : Option ℕ) : Type 0 where
  pub at : ℕ
  pub below : at < length cs
  pub is : o ≡ Some (slice_index cs at)
  pub front : front_is n (s.tokens (slice_index cs at)) ≡ true
  pub first : (k : ℕ) → k < at → front_is n (s.tokens (slice_index cs k)) ≡ false

-- none has such a token
pub record NoneDue (s : State) (n : ℕ) (cs : List ℕ) (o : Option ℕ) : Type 0 where
  pub is : o ≡ None
  pub fronts : (k : ℕ) → k < length cs → front_is n (s.tokens (slice_index cs k)) ≡ false
