-- The states of a net.
use Rattle.std.specs.Prelude.{◌≡◌, ℕ, ℤ, ◌+◌, ◌++◌, List, [], ◌∷◌, Bool, nat_lt, length, replicate, slice_index_or}
use Rattle.p3l_base.specs.declared.outcome.Outcome.{Outcome}
use Rattle.p3l_ready.specs.At.{at}
use Rattle.p3l_firing.specs.declared.net.Chan.{Chan}
use Rattle.p3l_firing.specs.declared.net.Net.{Net}
use Rattle.p3l_firing.specs.declared.token.Token.{Token}
use Rattle.p3l_firing.specs.Lists.{first_or, rest_of}
use Rattle.p3l_firing.specs.Token.{credit}

-- the local state of a process between its firings: a number, and the tokens that it holds
pub record LocalState : Type 0 where
  pub number : ℕ
  pub held : List Token

-- the local state of a process before its first firing
abbrev pub fresh : LocalState
fresh = record { number = 0; held = [] }

-- the tokens of each channel in the order of sending, what each process keeps, the items not yet sent, how many were
-- sent, and the outcomes emitted
pub record State : Type 0 where
  pub tokens : ℕ → List Token
  pub own : ℕ → LocalState
  pub unsent : List (List ℤ)
  pub sent : ℕ
  pub emitted : List Outcome

-- the first token of channel c
abbrev pub front : State → ℕ → Token
front s c = first_or credit (s.tokens c)

-- the state after the first token of channel c was taken
unfoldable pub pop : State → ℕ → State
pop s c = record s { tokens = at s.tokens c (rest_of (s.tokens c)) }

-- the state after a token was appended to channel c
unfoldable pub push : State → ℕ → Token → State
push s c token = record s { tokens = at s.tokens c (s.tokens c ++ token ∷ []) }

-- the state after process p keeps something else
unfoldable pub set_own : State → ℕ → LocalState → State
set_own s p o = record s { own = at s.own p o }

-- the local state of a process that has counted one more
abbrev pub counted : LocalState → LocalState
counted o = record o { number = o.number + 1 }

-- the local state of a process that takes a token to hand it out in pieces, from piece 0 on
abbrev pub holding : Token → LocalState
holding token = record { number = 0; held = token ∷ [] }

-- the local state of a process that has taken a token more to those that it holds
abbrev pub gathering : LocalState → Token → LocalState
gathering o token = record o { held = o.held ++ token ∷ [] }

-- the local state of a process that has released all that it held
abbrev pub released : LocalState → LocalState
released o = record o { held = [] }

-- the local state of process p, from a list
abbrev pub own_at : List LocalState → ℕ → LocalState
own_at owns p = slice_index_or owns p fresh

-- the channel for a number without a channel
abbrev pub no_chan : Chan
no_chan = record { cap = 0; credits = 0 }

abbrev pub chan_at : Net → ℕ → Chan
chan_at net c = slice_index_or net.chans c no_chan

-- channel c holds fewer tokens than its capacity
unfoldable pub has_room : Net → State → ℕ → Bool
has_room net s c = nat_lt (length (s.tokens c)) (chan_at net c).cap

-- the tokens of channel c before anything has fired: its credits
unfoldable pub at_first : Net → ℕ → List Token
at_first net c = replicate (chan_at net c).credits credit

-- the state in which nothing has fired, and these items are to be sent
unfoldable pub first_state : Net → List (List ℤ) → State
first_state net items =
    record { tokens = at_first net; own = λ _. fresh; unsent = items; sent = 0; emitted = [] }

-- the state with these items put after those not yet sent
unfoldable pub with_rest : State → List (List ℤ) → State
with_rest s rest = record s { unsent = s.unsent ++ rest }

-- the source has an item, as long as any are left
abbrev pub IsFilled : State → List (List ℤ) → Type 0
IsFilled s rest = s.unsent ≡ [] → rest ≡ []
