-- The same nets with their messages: for each channel the tokens that its reader's rank has received and not yet taken, the tokens in
-- flight, its writer's credit, and the credit in flight back to the writer.
use Rattle.std.specs.Prelude.{◌≡◌, ℕ, ℤ, suc, ◌+◌, ◌<◌, ◌⊎◌, List, [], ◌++◌, length}
use Rattle.p3l_base.specs.declared.outcome.Outcome.{Outcome}
use Rattle.p3l_skel.specs.declared.tree.Tree.{Tree}
use Rattle.p3l_firing.specs.declared.net.Net.{Net}
use Rattle.p3l_firing.specs.declared.token.Token.{Token}
use Rattle.p3l_firing.specs.Nodes.{Leaf}
use Rattle.p3l_firing.specs.State.{LocalState, State, chan_at, first_state}
use Rattle.p3l_firing.specs.Ways.{Sees}
use Rattle.p3l_spread_laws.specs.Spread.{Spread, view}

pub record Distributed : Type 0 where
  -- each process's local state, the items not yet sent, the number of items sent, the outcomes emitted, and the number of firings
  pub own : ℕ → LocalState
  pub unsent : List (List ℤ)
  pub sent : ℕ
  pub emitted : List Outcome
  pub fired : ℕ
  -- the tokens of each channel in its reader's buffer, and those in flight to it
  pub ring : ℕ → List Token
  pub flight : ℕ → List Token
  -- its writer's credit, and the credit in flight to the writer
  pub credit : ℕ → ℕ
  pub back : ℕ → ℕ

-- the spread net without its messages
abbrev pub spread_of : Distributed → Spread
spread_of w =
    record {
      state = record {
        tokens = λ c. w.ring c ++ w.flight c;
        own = w.own;
        unsent = w.unsent;
        sent = w.sent;
        emitted = w.emitted;
      };
      seen = λ c. length (w.ring c);
      credit = w.credit;
      fired = w.fired;
    }

-- each place of a channel is accounted for once: as credit, by a token, or as credit in flight
abbrev pub IsExact : Net → Distributed → Type 0
IsExact net w = (c : ℕ) → w.credit c + (length (w.ring c) + (length (w.flight c) + w.back c)) ≡ (chan_at net c).cap

-- a firing takes the first tokens from the ring of channel c, whose room goes back as credit, and sends others, which it spends credit for
pub record Passes (w x : Distributed) (c : ℕ) : Type 0 where
  pub taken : List Token
  pub given : List Token
  pub ring : w.ring c ≡ taken ++ x.ring c
  pub flight : x.flight c ≡ w.flight c ++ given
  pub credit : x.credit c + length given ≡ w.credit c
  pub back : x.back c ≡ w.back c + length taken

-- a process fires, in a way that is open by its rank's rings and credit
pub record Fires (tree : Tree) (leaf : Leaf) (net : Net) (w x : Distributed) : Type 0 where
  pub by : ℕ
  pub way : Sees tree leaf net (view (spread_of w)) (spread_of w).state by (spread_of x).state
  pub passes : (c : ℕ) → Passes w x c
  pub count : x.fired ≡ w.fired + 1

-- tokens of channel c arrive, in their order, and credit
pub record Comes (w x : Distributed) (c : ℕ) : Type 0 where
  pub came : List Token
  pub told : ℕ
  pub flight : w.flight c ≡ came ++ x.flight c
  pub ring : x.ring c ≡ w.ring c ++ came
  pub credit : x.credit c ≡ w.credit c + told
  pub back : x.back c + told ≡ w.back c

-- messages arrive, and nothing else changes
pub record Delivers (w x : Distributed) : Type 0 where
  pub own : x.own ≡ w.own
  pub unsent : x.unsent ≡ w.unsent
  pub sent : x.sent ≡ w.sent
  pub emitted : x.emitted ≡ w.emitted
  pub fired : x.fired ≡ w.fired
  pub comes : (c : ℕ) → Comes w x c

-- n steps from a beginning on: firings, and messages that arrive
pub record IsDistributedRun (tree : Tree) (leaf : Leaf) (net : Net) (items : List (List ℤ)) (at : ℕ → Distributed) (n : ℕ) : Type 0 where
  pub state : (spread_of (at 0)).state ≡ first_state net items
  pub fired : (at 0).fired ≡ 0
  pub exact : IsExact net (at 0)
  pub steps : (i : ℕ) → i < n → Fires tree leaf net (at i) (at (suc i)) ⊎ Delivers (at i) (at (suc i))

-- no rank can fire, and no message is in flight
pub record IsIdle (tree : Tree) (leaf : Leaf) (net : Net) (w : Distributed) : Type 0 where
  pub none : (p : ℕ) (t : State) → Sees tree leaf net (view (spread_of w)) (spread_of w).state p t → ⊥
  pub flight : (c : ℕ) → w.flight c ≡ []
  pub back : (c : ℕ) → w.back c ≡ 0
