-- A part of a net, which is between two channels and has processes and channels of its own; and
-- what every lawful part keeps, whatever is outside it.
use Rattle.std.specs.Prelude.{◌≡◌, ◌≢◌, ℕ, zero, suc, ◌+◌, ◌-◌, ◌*◌, ◌≤◌, ◌<◌, Bool, true, false, List, [], ◌∷◌, ◌++◌, map, length, get_or, ◌&&◌}
use Rattle.p3l_base.specs.declared.outcome.Outcome.{Outcome}
use Rattle.p3l_firing.specs.declared.net.Net.{Net}
use Rattle.p3l_firing.specs.declared.token.Token.{Token}
use Rattle.p3l_firing.specs.Token.{over, has_trap}
use Rattle.p3l_firing.specs.State.{State, fresh, has_room, at_first}
use Rattle.p3l_firing.specs.Fire.{can_fire}
use Rattle.p3l_firing.specs.Ways.{MayFire}
use Rattle.p3l_template.specs.Units.{Units}

pub record Part : Type 0 where
  -- the channel that it reads, and the one that it writes
  pub input : ℕ
  pub output : ℕ
  -- its own processes and channels are those from `from` up to `to`
  pub proc_from : ℕ
  pub proc_to : ℕ
  pub chan_from : ℕ
  pub chan_to : ℕ
  -- the outcome of its node for an outcome
  pub meaning : Outcome → Outcome
  -- the tokens still to leave it, in the order of leaving
  pub pending : State → List Token
  -- true exactly if its invariant holds
  pub orderly : State → Bool
  -- the number of its firings for one token, and of those that the tokens inside it can still cause
  pub firings : ℕ
  pub owed : State → ℕ

-- the tokens that have left it, those still to leave, and the meanings of those that wait: the list that no firing inside
-- changes
unfoldable pub line : Part → State → List Token
line P s = s.tokens P.output ++ (P.pending s ++ map (over P.meaning) (s.tokens P.input))

-- process p is one of its own
pub record IsInside (P : Part) (p : ℕ) : Type 0 where
  pub from : P.proc_from ≤ p
  pub to : p < P.proc_to

-- two states agree in all that is inside
pub record IsSameInside (P : Part) (s t : State) : Type 0 where
  pub tokens : (c : ℕ) → P.chan_from ≤ c → c < P.chan_to → t.tokens c ≡ s.tokens c
  pub own : (p : ℕ) → P.proc_from ≤ p → p < P.proc_to → t.own p ≡ s.own p

-- the part can't distinguish two states
pub record IsAlike (P : Part) (s t : State) : Type 0 where
  pub pending : P.pending t ≡ P.pending s
  pub orderly : P.orderly t ≡ P.orderly s
  pub owed : P.owed t ≡ P.owed s

-- a step from s to t touched nothing outside the part and its two channels
pub record Moves (P : Part) (s t : State) : Type 0 where
  pub tokens : (c : ℕ) → c ≢ P.input → c ≢ P.output → (P.chan_from ≤ c → P.chan_to ≤ c) → t.tokens c ≡ s.tokens c
  pub own : (p : ℕ) → (P.proc_from ≤ p → P.proc_to ≤ p) → t.own p ≡ s.own p
  pub unsent : t.unsent ≡ s.unsent
  pub sent : t.sent ≡ s.sent
  pub emitted : t.emitted ≡ s.emitted

-- a step from s to t left the part orderly, and its line as it was
pub record Keeps (P : Part) (s t : State) : Type 0 where
  pub orderly : P.orderly t ≡ true
  pub line : line P t ≡ line P s

-- nothing has happened inside: the channels hold their credits, and no process keeps anything
pub record IsFresh (net : Net) (P : Part) (s : State) : Type 0 where
  pub tokens : (c : ℕ) → P.chan_from ≤ c → c < P.chan_to → s.tokens c ≡ at_first net c
  pub own : (p : ℕ) → P.proc_from ≤ p → p < P.proc_to → s.own p ≡ fresh

-- the part is orderly at first, with nothing pending and nothing owed
pub record Begins (P : Part) (s : State) : Type 0 where
  pub orderly : P.orderly s ≡ true
  pub pending : P.pending s ≡ []
  pub owed : P.owed s ≡ 0

-- nothing waits at the part, and nothing is pending in it
pub record IsDrained (P : Part) (s : State) : Type 0 where
  pub input : s.tokens P.input ≡ []
  pub pending : P.pending s ≡ []

-- the number of firings that the tokens that wait and those inside can still cause
unfoldable pub due : Part → State → ℕ
due P s = P.firings * length (s.tokens P.input) + P.owed s

-- the number of tokens in k channels from c on
unfoldable pub in_channels : State → ℕ → ℕ → ℕ
in_channels s c zero = 0
in_channels s c (suc k) = length (s.tokens c) + in_channels s (suc c) k

-- the number of tokens that k processes from p on hold
unfoldable pub in_hands : State → ℕ → ℕ → ℕ
in_hands s p zero = 0
in_hands s p (suc k) = length (s.own p).held + in_hands s (suc p) k

-- the number of tokens inside, credits too
unfoldable pub inside : Part → State → ℕ
inside P s = in_channels s P.chan_from (P.chan_to - P.chan_from) + in_hands s P.proc_from (P.proc_to - P.proc_from)

-- the tokens inside bound the firings that a part owes, and its pending tokens
pub record IsSized (P : Part) (s : State) : Type 0 where
  pub owed : P.owed s ≤ P.firings * inside P s
  pub pending : length (P.pending s) ≤ inside P s

-- A LAWFUL PART OF A NET
pub record IsLawfulPart (net : Net) (units : Units) (P : Part) : Type 0 where
  pub procs : P.proc_from ≤ P.proc_to
  pub chans : P.chan_from ≤ P.chan_to
  -- its view of a state depends only on its inside
  pub reads : (s t : State) → IsSameInside P s t → IsAlike P s t
  -- it begins orderly, with nothing pending and nothing owed
  pub begins : (s : State) → IsFresh net P s → Begins P s
  -- a firing inside, in whichever way, touches nothing outside
  pub moves : (s t : State) (p : ℕ) → IsInside P p → MayFire units.tree units.leaf net s p t → Moves P s t
  -- the step law: a firing inside keeps the order and the line
  pub step : (s t : State) (p : ℕ) → IsInside P p → MayFire units.tree units.leaf net s p t → P.orderly s ≡ true → Keeps P s t
  -- the work law: a firing inside takes from the work that is left
  pub work : (s t : State) (p : ℕ) → IsInside P p → MayFire units.tree units.leaf net s p t → P.orderly s ≡ true → due P t < due P s
  -- the size law
  pub size : (s : State) → P.orderly s ≡ true → IsSized P s
  -- the drain law: where nothing inside can fire, though the out channel has room, nothing is left
  pub drain : (s : State) → P.orderly s ≡ true → ((p : ℕ) → IsInside P p → can_fire units.tree net s p ≡ false) →
      has_trap s.emitted ≡ false → has_room net s P.output ≡ true → IsDrained P s

-- the default for a number without a part
unfoldable pub no_part : Part
no_part =
    record {
      input = 0;
      output = 0;
      proc_from = 0;
      proc_to = 0;
      chan_from = 0;
      chan_to = 0;
      meaning = λ o. o;
      pending = λ s. [];
      orderly = λ s. true;
      firings = 0;
      owed = λ s. 0;
    }

-- one of these parts fired, from s to t, and none of the others can distinguish s and t
pub record OneFired (parts : List Part) (s t : State) : Type 0 where
  pub which : ℕ
  pub below : which < length parts
  pub moves : Moves (get_or parts which no_part) s t
  pub keeps : (get_or parts which no_part).orderly s ≡ true → Keeps (get_or parts which no_part) s t
  pub works : (get_or parts which no_part).orderly s ≡ true →
      due (get_or parts which no_part) t < due (get_or parts which no_part) s
  pub others : (v : ℕ) → v < length parts → v ≢ which → IsAlike (get_or parts v no_part) s t

-- all of these parts are orderly
unfoldable pub all_orderly : List Part → State → Bool
all_orderly [] s = true
all_orderly (P ∷ Ps) s = P.orderly s && all_orderly Ps s
