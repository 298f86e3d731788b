-- The steps that a firing is made of, on what contracts see of a machine; and what a firing leaves alone.
use Rattle.std.specs.Prelude.{◌≡◌, ◌≢◌, ℕ, ℤ, ⊤, ◌+◌, ◌^◌, ◌<◌, ◌⊎◌, List, [], ◌∷◌, ◌++◌, Bool, true, cond, Option, None, Some, length, slice_get, slice_set, slice_index, nat_lt, fold, map}
use Rattle.std.specs.List.{AllByRecursion}
use Rattle.p3l_base.specs.declared.outcome.Outcome.{Outcome}
use Rattle.p3l_base.specs.declared.outcome.Outcome.TheVariants.{Value, Trapped}
use Rattle.p3l_firing.specs.declared.process.Proc.{Proc}
use Rattle.p3l_firing.specs.declared.process.ProcKind.{ProcKind}
use Rattle.p3l_firing.specs.declared.process.ProcKind.TheVariants.{Source}
use Rattle.p3l_firing.specs.declared.net.Net.{Net}
use Rattle.p3l_firing.specs.declared.token.Token.{Token}
use Rattle.p3l_firing.specs.Token.{is_trap}
use Rattle.p3l_net.specs.Channel.{queue_at, tokens_at, appended, taken}
use Rattle.p3l_firing.specs.Lists.{rest_of}
use Rattle.p3l_firing.specs.State.{LocalState, chan_at, own_at}
use Rattle.p3l_firing.specs.Fire.{is_ready}
use Rattle.p3l_ready.specs.Flags.{flag_at}
use Rattle.p3l_firing.specs.Nodes.{Leaf}
use Rattle.p3l_firing.specs.Process.{IsAt, Has, kind_at}
use Rattle.p3l_firing.specs.Typed.{IsTyped}
use Rattle.p3l_net.specs.declared.descriptor.Descriptor.{Descriptor}
use Rattle.p3l_net.specs.Descriptor.{descriptor_of}
use Rattle.p3l_net.specs.Machine.{Seen, Fires, IsShaped, IsSound, can_step, state_of}

-- one firing more is counted
abbrev pub ticked : Seen → Seen
ticked m = record m { fired = m.fired + 1 }

-- the first token of channel c is taken
abbrev pub without_first : Seen → ℕ → Seen
without_first m c = record m { queues = taken m.queues c }

-- a token is appended to channel c
abbrev pub with_last : Seen → ℕ → Token → Seen
with_last m c token = record m { queues = appended m.queues c token }

-- process p has another local state
abbrev pub with_own : Seen → ℕ → LocalState → Seen
with_own m p o = record m { owns = slice_set m.owns p o }

-- the item in the inbox is sent
abbrev pub item_sent : Seen → Seen
item_sent m = record m { inbox = None; sent = m.sent + 1 }

-- an outcome is emitted
abbrev pub one_emitted : Seen → Outcome → Seen
one_emitted m outcome = record m { emitted = m.emitted + 1; trapped = is_trap outcome }

-- channel c has room for one token more
abbrev pub room_at : Seen → ℕ → Bool
room_at m c = nat_lt (length (tokens_at m.queues c)) (queue_at m.queues c).room

-- channel c has a token to be taken
pub record CanTake (m : Seen) (c : ℕ) : Type 0 where
  pub there : c < length m.queues
  pub token : 0 < length (tokens_at m.queues c)

-- channel c has room for one token more
pub record CanPut (m : Seen) (c : ℕ) : Type 0 where
  pub there : c < length m.queues
  pub room : length (tokens_at m.queues c) < (queue_at m.queues c).room

-- processes p and r have no channel in common
abbrev pub ShareNone : Net → ℕ → ℕ → Type 0
ShareNone net p r = (c : ℕ) → IsAt (slice_get net.procs p) c → IsAt (slice_get net.procs r) c → ⊥

-- process r reads and writes none of these channels
abbrev pub IsApart : Net → ℕ → List ℕ → Type 0
IsApart net r = AllByRecursion (λ c. IsAt (slice_get net.procs r) c → ⊥)

-- process p does not read channel c, or does not write it
abbrev pub ReadsNot : Net → ℕ → ℕ → Type 0
ReadsNot net p c = (q : Proc) → slice_get net.procs p ≡ Some q → Has q.ins c → ⊥

abbrev pub WritesNot : Net → ℕ → ℕ → Type 0
WritesNot net p c = (q : Proc) → slice_get net.procs p ≡ Some q → Has q.outs c → ⊥

-- the tokens ys are xs, or xs with one more at the end
abbrev pub GrowsByOne : List Token → List Token → Type 0
GrowsByOne xs ys = (ys ≡ xs) ⊎ ((token : Token) × (ys ≡ xs ++ token ∷ []))

-- the tokens ys are xs, or xs without the first
abbrev pub ShrinksByOne : List Token → List Token → Type 0
ShrinksByOne xs ys = (ys ≡ xs) ⊎ (ys ≡ rest_of xs)

-- from m to n only these channels, which process p reads or writes, what p keeps, and the inbox, if p is a source, have changed:
-- a channel has one token more at most, if p does not read it, and one less at most, if p does not write it
pub record Moves (m n : Seen) (p : ℕ) (touched : List ℕ) : Type 0 where
  pub typed : IsTyped m.tree m.net
  pub tree : n.tree ≡ m.tree
  pub net : n.net ≡ m.net
  pub inside : AllByRecursion (λ c. c < length m.net.chans) touched
  pub own_channels : AllByRecursion (IsAt (slice_get m.net.procs p)) touched
  pub queues : (c : ℕ) → AllByRecursion (λ d. c ≢ d) touched → tokens_at n.queues c ≡ tokens_at m.queues c
  pub grows : (c : ℕ) → ReadsNot m.net p c → GrowsByOne (tokens_at m.queues c) (tokens_at n.queues c)
  pub shrinks : (c : ℕ) → WritesNot m.net p c → ShrinksByOne (tokens_at m.queues c) (tokens_at n.queues c)
  pub owns : (r : ℕ) → r ≢ p → own_at n.owns r ≡ own_at m.owns r
  pub inbox : (kind_at m.net p ≡ Some Source) ⊎ (n.inbox ≡ m.inbox)

-- a table with p entered at each of these numbers
abbrev pub marked : List ℕ → List ℕ → ℕ → List ℕ
marked table cs p = fold (λ t c. slice_set t c p) table cs

-- no other process writes channel c, or reads it
abbrev pub IsWriter : Net → ℕ → ℕ → Type 0
IsWriter net c p = (r : ℕ) (q : Proc) → slice_get net.procs r ≡ Some q → Has q.outs c → r ≡ p

abbrev pub IsReader : Net → ℕ → ℕ → Type 0
IsReader net c p = (r : ℕ) (q : Proc) → slice_get net.procs r ≡ Some q → Has q.ins c → r ≡ p

-- the process that writes each channel, the one that reads it, and the descriptor of each process
pub record Ends : Type 0 where
  pub writers : List ℕ
  pub readers : List ℕ
  pub descriptors : List Descriptor

-- these are the ends of the channels of a net, and the descriptors of its processes
pub record HasEnds (net : Net) (ends : Ends) : Type 0 where
  pub as_many_writers : length ends.writers ≡ length net.chans
  pub as_many_readers : length ends.readers ≡ length net.chans
  pub written : (r c : ℕ) (q : Proc) → slice_get net.procs r ≡ Some q → Has q.outs c → slice_index ends.writers c ≡ r
  pub read : (r c : ℕ) (q : Proc) → slice_get net.procs r ≡ Some q → Has q.ins c → slice_index ends.readers c ≡ r
  pub writers_inside : (c : ℕ) → c < length net.chans → slice_index ends.writers c < length net.procs
  pub readers_inside : (c : ℕ) → c < length net.chans → slice_index ends.readers c < length net.procs
  pub descriptors : ends.descriptors ≡ map descriptor_of net.procs

-- the channels and the local state of process r allow it to fire
abbrev pub ready_at : Seen → ℕ → Bool
ready_at m r = is_ready m.tree m.net (state_of m []) r

-- the processes other than p that have no channel in common with it are ready in n where they are in m
abbrev pub OthersStay : Seen → Seen → ℕ → Type 0
OthersStay m n p = (r : ℕ) → r ≢ p → ShareNone m.net p r → ready_at n r ≡ ready_at m r

-- channel c has slack for process r: room for two tokens more, if r writes it, and two tokens, if r reads it. So it had room for r,
-- and the same first token, before a token was taken from it or put into it, as it has after that
pub record HasSlack (m : Seen) (r c : ℕ) : Type 0 where
  pub room : (q : Proc) → slice_get m.net.procs r ≡ Some q → Has q.outs c → length (tokens_at m.queues c) + 1 < (chan_at m.net c).cap
  pub tokens : (q : Proc) → slice_get m.net.procs r ≡ Some q → Has q.ins c → 1 < length (tokens_at m.queues c)

abbrev pub AllHaveSlack : Seen → ℕ → List ℕ → Type 0
AllHaveSlack m r = AllByRecursion (HasSlack m r)

-- the flags tell which processes are ready, but maybe for those for which one of these channels has no slack
pub record AgreesBut (m : Seen) (flags : List Bool) (touched : List ℕ) : Type 0 where
  pub size : length flags ≡ length m.net.procs
  pub right : (r : ℕ) → r < length m.net.procs → AllHaveSlack m r touched → flag_at flags r ≡ ready_at m r

-- there is a flag for each process of a sound machine, and that of process p tells whether it is ready
pub record AgreesAt (m : Seen) (flags : List Bool) (p : ℕ) : Type 0 where
  pub sound : IsSound m
  pub size : length flags ≡ length m.net.procs
  pub known : flag_at flags p ≡ ready_at m p

-- the flags after it was looked again whether process r is ready, if `look` says so
abbrev pub looked : Bool → Seen → ℕ → List Bool → List Bool
looked look m r flags = cond look (slice_set flags r (ready_at m r)) flags

-- the flags of a sound machine tell which processes are ready, but maybe for process p, and for those for which one of these channels
-- has no slack: so it is enough to look at these again
pub record CanRefresh (m : Seen) (ends : Ends) (flags : List Bool) (p : ℕ) (touched : List ℕ) : Type 0 where
  pub sound : IsSound m
  pub sides : HasEnds m.net ends
  pub there : p < length m.net.procs
  pub inside : AllByRecursion (λ c. c < length m.net.chans) touched
  pub size : length flags ≡ length m.net.procs
  pub others : (r : ℕ) → r < length m.net.procs → r ≢ p → AllHaveSlack m r touched → flag_at flags r ≡ ready_at m r

-- an invariant of machines: they are sound, the flags tell which processes are ready, and the ends are those of the net
pub record IsKept (m : Seen) (flags : List Bool) (ends : Ends) : Type 0 where
  pub sound : IsSound m
  pub agrees : AgreesBut m flags []
  pub sides : HasEnds m.net ends

-- a firing of process p led from the old machine to the new one, and touched only these channels
pub record Done (leaf : Leaf) (old new : Seen) (p : ℕ) (touched : List ℕ) (outcome : Option Outcome) : Type 0 where
  pub fires : Fires leaf old new p outcome
  pub moves : Moves old new p touched
  pub shaped : IsShaped new

-- process p can fire now, and the firing can be counted
pub record CanFire (m : Seen) (p : ℕ) : Type 0 where
  pub there : p < length m.net.procs
  pub can : can_step m p ≡ true
  pub count : m.fired < 2 ^ 63

-- a firing of process p led from the old machine to the new one, and handed out this outcome; processes that have no channel in
-- common with p are as ready as they were, and only the source, process 0, takes what is in the inbox
pub record FiresLocally (leaf : Leaf) (old new : Seen) (p : ℕ) (outcome : Option Outcome) : Type 0 where
  pub fires : Fires leaf old new p outcome
  pub others : OthersStay old new p
  pub item : p ≢ 0 → new.inbox ≡ old.inbox

-- process p is of this kind, and may fire
pub record MayFire (m : Seen) (p : ℕ) (kind : ProcKind) : Type 0 where
  pub sound : IsSound m
  pub there : p < length m.net.procs
  pub is : kind_at m.net p ≡ Some kind
  pub ready : ready_at m p ≡ true
  pub count : m.fired < 2 ^ 63

-- a fact on the words of an outcome, if it is a value
abbrev pub IfValue : Outcome → (List ℤ → Type 0) → Type 0
IfValue (Value words) P = P words
IfValue (Trapped trap) P = ⊤

-- a fact on the words of two outcomes, if both are values
abbrev pub IfValues : Outcome → Outcome → (List ℤ → List ℤ → Type 0) → Type 0
IfValues (Value v) (Value w) P = P v w
IfValues (Value v) (Trapped trap) P = ⊤
IfValues (Trapped trap) right P = ⊤
