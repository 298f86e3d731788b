-- Nets whose processes run on several ranks that share no memory. A rank learns of the other ranks' firings late: the reader of
-- a channel sees the tokens that have arrived, and its writer counts on the room that it was told of, its credit.
use Rattle.std.specs.Prelude.{◌≡◌, ℕ, ℤ, suc, ◌+◌, ◌-◌, ◌≤◌, ◌<◌, nat_lt, ◌⊎◌, List, ◌++◌, length}
use Rattle.p3l_skel.specs.declared.tree.Tree.{Tree}
use Rattle.p3l_firing.specs.declared.net.Net.{Net}
use Rattle.p3l_firing.specs.declared.token.Token.{Token}
use Rattle.p3l_firing.specs.Nodes.{Leaf}
use Rattle.p3l_firing.specs.State.{State, chan_at, at_first, first_state}
use Rattle.p3l_firing.specs.Ways.{Eyes, Sees}

-- the state of the whole net, in which a token in flight is in its channel; for each channel the number of its tokens that have
-- arrived, and its writer's credit; and the number of firings
pub record Spread : Type 0 where
  pub state : State
  pub seen : ℕ → ℕ
  pub credit : ℕ → ℕ
  pub fired : ℕ

-- each view is true: a reader sees no more tokens than there are, and a writer counts on no more room than there is
pub record IsSound (net : Net) (d : Spread) : Type 0 where
  pub seen : (c : ℕ) → d.seen c ≤ length (d.state.tokens c)
  pub credit : (c : ℕ) → d.credit c + length (d.state.tokens c) ≤ (chan_at net c).cap

-- the ranks' view of the channels
abbrev pub view : Spread → Eyes
view d = record { fronts = λ c. nat_lt 0 (d.seen c); rooms = λ c. nat_lt 0 (d.credit c) }

-- a firing takes the first tokens of channel c, which were seen, and appends others, for which it spends credit
pub record Shifts (d e : Spread) (c : ℕ) : Type 0 where
  pub taken : List Token
  pub kept : List Token
  pub given : List Token
  pub before : d.state.tokens c ≡ taken ++ kept
  pub after : e.state.tokens c ≡ kept ++ given
  pub seen : e.seen c + length taken ≡ d.seen c
  pub credit : e.credit c + length given ≡ d.credit c

-- a process fires, in a way that is open to it by its rank's view
pub record Fires (tree : Tree) (leaf : Leaf) (net : Net) (d e : Spread) : Type 0 where
  pub by : ℕ
  pub way : Sees tree leaf net (view d) d.state by e.state
  pub shifts : (c : ℕ) → Shifts d e c
  pub count : e.fired ≡ d.fired + 1

-- messages arrive: tokens in their order, and credit for room; any number of each, of any channels
pub record Learns (net : Net) (d e : Spread) : Type 0 where
  pub state : e.state ≡ d.state
  pub fired : e.fired ≡ d.fired
  pub seen : (c : ℕ) → d.seen c ≤ e.seen c
  pub there : (c : ℕ) → e.seen c ≤ length (d.state.tokens c)
  pub credit : (c : ℕ) → d.credit c ≤ e.credit c
  pub room : (c : ℕ) → e.credit c + length (d.state.tokens c) ≤ (chan_at net c).cap

abbrev pub Step : Tree → Leaf → Net → Spread → Spread → Type 0
Step tree leaf net d e = Fires tree leaf net d e ⊎ Learns net d e

-- nothing has fired, and each view is true
pub record IsBegun (net : Net) (items : List (List ℤ)) (d : Spread) : Type 0 where
  pub state : d.state ≡ first_state net items
  pub fired : d.fired ≡ 0
  pub sound : IsSound net d

-- a beginning: each reader sees the tokens that its channel begins with, and each writer has credit for all other room
abbrev pub begun : Net → List (List ℤ) → Spread
begun net items =
    record {
      state = first_state net items;
      seen = λ c. length (at_first net c);
      credit = λ c. (chan_at net c).cap - length (at_first net c);
      fired = 0;
    }

-- n steps of a spread net from a beginning on, in which messages may come at any time
pub record IsRun (tree : Tree) (leaf : Leaf) (net : Net) (items : List (List ℤ)) (at : ℕ → Spread) (n : ℕ) : Type 0 where
  pub begun : IsBegun net items (at 0)
  pub steps : (i : ℕ) → i < n → Step tree leaf net (at i) (at (suc i))

-- quiescence: no process has a way to fire by its rank's view; a channel with tokens has one that has arrived, and the writer of a
-- channel with room has some credit. It follows where no message is in flight and no process has a way
pub record IsQuiet (tree : Tree) (leaf : Leaf) (net : Net) (d : Spread) : Type 0 where
  pub none : (p : ℕ) (t : State) → Sees tree leaf net (view d) d.state p t → ⊥
  pub arrived : (c : ℕ) → 0 < length (d.state.tokens c) → 0 < d.seen c
  pub told : (c : ℕ) → length (d.state.tokens c) < (chan_at net c).cap → 0 < d.credit c

-- no message is in flight
pub record IsDelivered (net : Net) (d : Spread) : Type 0 where
  pub tokens : (c : ℕ) → d.seen c ≡ length (d.state.tokens c)
  pub rooms : (c : ℕ) → d.credit c + length (d.state.tokens c) ≡ (chan_at net c).cap
