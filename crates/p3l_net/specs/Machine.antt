-- Machines as contracts see them, and their states.
use Rattle.std.specs.Prelude.{◌≡◌, ℕ, ℤ, ◌+◌, ◌^◌, ◌<◌, List, [], ◌++◌, Bool, false, not, ◌&&◌, Option, None, Some, slice_get, length, map, replicate, filter}
use Rattle.std.specs.List.{range_with_len}
use Rattle.std.specs.Option.{option_to_list}
use Rattle.p3l_base.specs.declared.outcome.Outcome.{Outcome}
use Rattle.p3l_skel.specs.declared.tree.Tree.{Tree}
use Rattle.p3l_firing.specs.declared.net.Chan.{Chan}
use Rattle.p3l_firing.specs.declared.net.Net.{Net}
use Rattle.p3l_firing.specs.Token.{has_trap}
use Rattle.p3l_net.specs.Channel.{Queue, opened, tokens_at}
use Rattle.p3l_firing.specs.State.{LocalState, State, fresh, own_at}
use Rattle.p3l_firing.specs.Nodes.{Leaf}
use Rattle.p3l_firing.specs.Fire.{is_ready, fire, wants_memory}
use Rattle.p3l_firing.specs.Typed.{IsTyped, IsFitting}
use Rattle.p3l_firing.specs.declared.process.Proc.{Proc}

-- a machine as contracts see it: the tree and the net that it was started with, the queue of each channel, the local state of each
-- process, the item in the inbox, the numbers of firings, of items sent and of outcomes emitted, and whether one of these was a trap
pub record Seen : Type 0 where
  pub tree : Tree
  pub net : Net
  pub queues : List Queue
  pub owns : List LocalState
  pub inbox : Option (List ℤ)
  pub fired : ℕ
  pub sent : ℕ
  pub emitted : ℕ
  pub trapped : Bool

-- the state that a machine is in where these outcomes were emitted: of the items not yet sent it holds the one in the inbox
unfoldable pub state_of : Seen → List Outcome → State
state_of m emitted =
    record {
      tokens = tokens_at m.queues;
      own = own_at m.owns;
      unsent = option_to_list m.inbox;
      sent = m.sent;
      emitted = emitted;
    }

-- a machine may have emitted these outcomes: it knows their number, and whether one is a trap
pub record HasEmitted (m : Seen) (emitted : List Outcome) : Type 0 where
  pub count : m.emitted ≡ length emitted
  pub trap : m.trapped ≡ has_trap emitted

-- process p of a machine can fire
abbrev pub can_step : Seen → ℕ → Bool
can_step m p = not m.trapped && is_ready m.tree m.net (state_of m []) p

-- a firing of process p of a machine may want memory
abbrev pub may_want_memory : Seen → ℕ → Bool
may_want_memory m p = wants_memory m.net (state_of m []) p

-- the processes that can fire, in ascending order
abbrev pub ready_list : Seen → List ℕ
ready_list m = filter (can_step m) (range_with_len 0 (length m.net.procs))

-- a machine that was just started
abbrev pub started : Tree → Net → Seen
started tree net =
    record {
      tree = tree;
      net = net;
      queues = map opened net.chans;
      owns = replicate (length net.procs) fresh;
      inbox = None;
      fired = 0;
      sent = 0;
      emitted = 0;
      trapped = false;
    }

-- the parts of a machine are as large as its net says, and less was sent, emitted and counted by a process than 2^63 more than fired:
-- a machine that was restored had done less than that before
pub record IsShaped (m : Seen) : Type 0 where
  pub rooms : map (λ (q : Queue). q.room) m.queues ≡ map (λ (c : Chan). c.cap) m.net.chans
  pub keeps : length m.owns ≡ length m.net.procs
  pub numbers : (p : ℕ) → (own_at m.owns p).number < m.fired + 2 ^ 63
  pub sent : m.sent < m.fired + 2 ^ 63
  pub emitted : m.emitted < m.fired + 2 ^ 63

-- an invariant of machines: the net is typed, and the state fits the net
pub record IsSound (m : Seen) : Type 0 where
  pub typed : IsTyped m.tree m.net
  pub shaped : IsShaped m
  pub fitting : IsFitting m.tree m.net typed.widths (state_of m [])

-- process p of a sound machine is q
pub record Stands (m : Seen) (p : ℕ) (q : Proc) : Type 0 where
  pub sound : IsSound m
  pub stands : slice_get m.net.procs p ≡ Some q

-- a firing of process p led from the old machine to the new one, and handed out this outcome
pub record Fires (leaf : Leaf) (old new : Seen) (p : ℕ) (outcome : Option Outcome) : Type 0 where
  pub tree : new.tree ≡ old.tree
  pub net : new.net ≡ old.net
  pub fired : new.fired ≡ old.fired + 1
  pub state : (emitted : List Outcome) → state_of new (emitted ++ option_to_list outcome) ≡ fire old.tree leaf old.net (state_of old emitted) p
  pub emitted : (emitted : List Outcome) → HasEmitted old emitted → HasEmitted new (emitted ++ option_to_list outcome)
