-- Firings by what is known of the channels. A process that shares no memory with the others at its channels knows of a token only once
-- it has arrived, and of room only once it was told: so an Emit may send to any worker of whose room it knows, a Collect may take from any
-- worker whose token of the expected number has arrived, a Head may let a token in while one comes back, and a Tail may take a token
-- while there is room for one that it could let out. All other kinds have one way to fire.
use Rattle.std.specs.Prelude.{◌≡◌, ℕ, ◌<◌, nat_lt, cond, Bool, true, false, ◌&&◌, ◌⊎◌, Option, None, Some, length, slice_get, slice_index}
use Rattle.p3l_skel.specs.declared.tree.Tree.{Tree}
use Rattle.p3l_firing.specs.declared.process.Proc.{Proc}
use Rattle.p3l_firing.specs.declared.process.ProcKind.{ProcKind}
use Rattle.p3l_firing.specs.declared.process.ProcKind.TheVariants as kinds
use Rattle.p3l_firing.specs.declared.net.Net.{Net}
use Rattle.p3l_firing.specs.Lists.{has_first}
use Rattle.p3l_firing.specs.Token.{has_trap}
use Rattle.p3l_firing.specs.Nodes.{Leaf}
use Rattle.p3l_firing.specs.State.{LocalState, State, front, has_room}
use Rattle.p3l_firing.specs.Process.{in_of, out_of}
use Rattle.p3l_firing.specs.kinds.Source as source
use Rattle.p3l_firing.specs.kinds.Sink as sink
use Rattle.p3l_firing.specs.kinds.Run as run
use Rattle.p3l_firing.specs.kinds.Emit as emit
use Rattle.p3l_firing.specs.kinds.Collect as collect
use Rattle.p3l_firing.specs.kinds.Scatter as scatter
use Rattle.p3l_firing.specs.kinds.Gather as gather
use Rattle.p3l_firing.specs.kinds.Split as split
use Rattle.p3l_firing.specs.kinds.FoldGather as fold_gather
use Rattle.p3l_firing.specs.kinds.Join as join
use Rattle.p3l_firing.specs.kinds.Head as head
use Rattle.p3l_firing.specs.kinds.Tail as tail

-- the known facts: of each channel, whether its reader sees a token, and whether its writer knows of room
pub record Eyes : Type 0 where
  pub fronts : ℕ → Bool
  pub rooms : ℕ → Bool

-- all that is so is known
abbrev pub eyes_of : Net → State → Eyes
eyes_of net s = record { fronts = λ c. has_first (s.tokens c); rooms = λ c. has_room net s c }

-- whatever e knows, f knows
pub record Knows (e f : Eyes) : Type 0 where
  pub fronts : (c : ℕ) → e.fronts c ≡ true → f.fronts c ≡ true
  pub rooms : (c : ℕ) → e.rooms c ≡ true → f.rooms c ≡ true

-- an emit sends the first token to this worker
pub record Deals (e : Eyes) (s : State) (p : ℕ) (o : LocalState) (q : Proc) (t : State) : Type 0 where
  pub at : ℕ
  pub below : at < length q.outs
  pub full : e.fronts (in_of q 0) ≡ true
  pub room : e.rooms (slice_index q.outs at) ≡ true
  pub is : t ≡ emit.sent_to (Some (slice_index q.outs at)) s p o q

-- a collect takes the token that is expected from this worker
pub record Collects (e : Eyes) (s : State) (p : ℕ) (o : LocalState) (q : Proc) (t : State) : Type 0 where
  pub at : ℕ
  pub below : at < length q.ins
  pub full : e.fronts (slice_index q.ins at) ≡ true
  pub front : collect.front_is o.number (s.tokens (slice_index q.ins at)) ≡ true
  pub room : e.rooms (out_of q 0) ≡ true
  pub is : t ≡ collect.taken_from (Some (slice_index q.ins at)) s p o q

-- a head sends round what comes back
pub record SendsRound (e : Eyes) (s : State) (q : Proc) (t : State) : Type 0 where
  pub room : e.rooms (out_of q 0) ≡ true
  pub back : e.fronts (in_of q 1) ≡ true
  pub is : t ≡ head.sent_round s q

-- or lets one in
pub record LetsIn (e : Eyes) (s : State) (p : ℕ) (o : LocalState) (q : Proc) (t : State) : Type 0 where
  pub room : e.rooms (out_of q 0) ≡ true
  pub full : e.fronts (in_of q 0) ≡ true
  pub credit : e.fronts (in_of q 2) ≡ true
  pub is : t ≡ head.let_in s p o q

-- a tail lets out the token that is expected
pub record LetsOut (e : Eyes) (s : State) (p : ℕ) (o : LocalState) (q : Proc) (t : State) : Type 0 where
  pub holds : tail.has_number o.number o.held ≡ true
  pub room : e.rooms (out_of q 0) ≡ true
  pub credits : e.rooms (out_of q 2) ≡ true
  pub is : t ≡ tail.release s p o q

-- or takes one
pub record TakesTurn (tree : Tree) (leaf : Leaf) (e : Eyes) (s : State) (p : ℕ) (o : LocalState) (q : Proc) (t : State) : Type 0 where
  pub full : e.fronts (in_of q 0) ≡ true
  pub room : e.rooms (out_of q 1) ≡ true
  pub is : t ≡ tail.take_turn (tail.next_turn tree leaf s q) s p o q (front s (in_of q 0))

-- process q at p can take s to t, by what is known
unfoldable pub row_ways : ProcKind → Tree → Leaf → Eyes → State → ℕ → LocalState → Proc → State → Type 0
row_ways kinds.Source tree leaf e s p o q t =
    ((has_first s.unsent && e.rooms (out_of q 0)) ≡ true) × (t ≡ source.fire s q)
row_ways kinds.Sink tree leaf e s p o q t =
    (has_trap s.emitted ≡ false) × (e.fronts (in_of q 0) ≡ true) × (t ≡ sink.fire s q)
row_ways kinds.Run tree leaf e s p o q t =
    ((e.fronts (in_of q 0) && e.rooms (out_of q 0)) ≡ true) × (t ≡ run.fire tree leaf s q)
row_ways kinds.Emit tree leaf e s p o q t = Deals e s p o q t
row_ways kinds.Collect tree leaf e s p o q t = Collects e s p o q t
row_ways kinds.Scatter tree leaf e s p o q t =
    (cond (has_first o.held) (e.rooms (scatter.line_of o q)) (e.fronts (in_of q 0)) ≡ true) × (t ≡ scatter.fire tree s p o q)
row_ways kinds.Gather tree leaf e s p o q t =
    (cond (gather.is_full tree o q) (e.rooms (out_of q 0)) (e.fronts (gather.line_of o q)) ≡ true) × (t ≡ gather.fire tree s p o q)
row_ways kinds.Split tree leaf e s p o q t =
    (cond (has_first o.held) (nat_lt o.number (length q.outs) && e.rooms (out_of q o.number)) (e.fronts (in_of q 0)) ≡ true)
    × (t ≡ split.fire tree s p o q)
row_ways kinds.FoldGather tree leaf e s p o q t =
    (cond (fold_gather.is_full o q) (e.rooms (out_of q 0)) (e.fronts (fold_gather.line_of o q)) ≡ true)
    × (t ≡ fold_gather.fire tree leaf s p o q)
row_ways kinds.Join tree leaf e s p o q t =
    ((e.fronts (in_of q 0) && (e.fronts (in_of q 1) && e.rooms (out_of q 0))) ≡ true) × (t ≡ join.fire tree leaf s q)
row_ways kinds.Head tree leaf e s p o q t = SendsRound e s q t ⊎ LetsIn e s p o q t
row_ways kinds.Tail tree leaf e s p o q t = LetsOut e s p o q t ⊎ TakesTurn tree leaf e s p o q t

unfoldable pub ways_of : Option Proc → Tree → Leaf → Eyes → State → ℕ → LocalState → State → Type 0
ways_of None tree leaf e s p o t = ⊥
ways_of (Some q) tree leaf e s p o t = row_ways q.kind tree leaf e s p o q t

-- process p can take the net from s to t, by what is known. Once a trap was emitted the sink rests; the others need not know of it
unfoldable pub Sees : Tree → Leaf → Net → Eyes → State → ℕ → State → Type 0
Sees tree leaf net e s p t = ways_of (slice_get net.procs p) tree leaf e s p (s.own p) t

-- process p can take the net from s to t
abbrev pub MayFire : Tree → Leaf → Net → State → ℕ → State → Type 0
MayFire tree leaf net s p t = Sees tree leaf net (eyes_of net s) s p t

-- the kinds that have one way to fire
unfoldable pub IsStrict : ProcKind → Type 0
IsStrict kinds.Source = Unit {0}
IsStrict kinds.Sink = Unit {0}
IsStrict kinds.Run = Unit {0}
IsStrict kinds.Emit = ⊥
IsStrict kinds.Collect = ⊥
IsStrict kinds.Scatter = Unit {0}
IsStrict kinds.Gather = Unit {0}
IsStrict kinds.Split = Unit {0}
IsStrict kinds.FoldGather = Unit {0}
IsStrict kinds.Join = Unit {0}
IsStrict kinds.Head = ⊥
IsStrict kinds.Tail = ⊥
