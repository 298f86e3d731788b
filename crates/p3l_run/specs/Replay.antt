-- A run under recorded picks that is to come to a checkpoint: where it is, and what each of its steps does.
use Rattle.std.specs.Prelude.{◌≡◌, ◌≢◌, ℕ, ℤ, ◌+◌, ◌<◌, ◌^◌, false, List, [], ◌∷◌, ◌++◌, length, take, drop, Option, Some, None, Result, Ok, Err}
use Rattle.std.specs.List.{AllByRecursion}
use Rattle.std.specs.Option.{option_to_list}
use Rattle.p3l_base.specs.declared.NoMemory.{NoMemory}
use Rattle.p3l_base.specs.declared.outcome.Outcome.{Outcome}
use Rattle.p3l_firing.specs.Nodes.{Leaf}
use Rattle.p3l_firing.specs.Token.{has_trap}
use Rattle.p3l_skel.specs.declared.tree.Tree.{Tree}
use Rattle.p3l_firing.specs.NetInvariants.{HaveInWords}
use Rattle.p3l_firing.specs.Shot.{IsCountable}
use Rattle.p3l_io.specs.Change.{Change, HasSameFaults, Observation, change}
use Rattle.p3l_net.specs.Machine.{IsShaped}
use Rattle.p3l_net.specs.Offered.{Follows}
use Rattle.p3l_net.specs.Shot.{shot_of}
use Rattle.p3l_stream.specs.declared.items.Ending.{Ending}
use Rattle.p3l_stream.specs.declared.items.Ending.TheVariants as ending
use Rattle.p3l_stream.specs.Text.{text_of}
use Rattle.p3l_run.specs.declared.checkpoint.Checkpoint.{Checkpoint}
use Rattle.p3l_run.specs.declared.checkpoint.CheckpointEnd.{CheckpointEnd}
use Rattle.p3l_run.specs.declared.execution.Execution.{Execution}
use Rattle.p3l_run.specs.declared.fault.RunFault.{RunFault}
use Rattle.p3l_run.specs.declared.fault.RunFault.TheVariants as fault
use Rattle.p3l_run.specs.Checkpoint.{IsCheckpointEnd}
use Rattle.p3l_run.specs.Feed.{Gives, closed_so, ending_of}
use Rattle.p3l_run.specs.Laws.{Laws, Runs}
use Rattle.p3l_run.specs.Network.{Network, course_under, size_of, width_of}
use Rattle.p3l_run.specs.Requested.{IsRequestedBy, requested_for}
use Rattle.p3l_run.specs.Start.{fresh}
use Rattle.p3l_run.specs.Streams.{Streams, streams}
use Rattle.p3l_run.specs.Trap.{trap_of}
use Rattle.p3l_run.specs.Write.{HasPut, WriteCause}

-- a network to be run under these picks, and the streams before that
pub record Replay : Type 0 where
  pub network : Network
  pub picks : List ℕ
  pub before : Streams

abbrev pub replay_of : Network → (picks : List ℕ) → (before : Streams) → Replay
replay_of network picks before = record { network = network; picks = picks; before = before }

-- a run to a checkpoint came to this end, with the streams as they are then
pub record Comes (r : Replay) (now : Streams) (result : Result CheckpointEnd RunFault) : Type 0 where
  pub ends : IsCheckpointEnd r.network r.picks (change r.before.input now.input) (change r.before.output now.output) result
  pub output : WriteCause (change r.before.output now.output) result

-- the run is under way: these of its picks were made, and those are left. The machine is where the run on the items that the stream
-- gave, and on whatever items come after them, is under the picks made; the text of what it emitted is written. Before the last of these
-- picks no trap was emitted, and an item that was given was not sent yet
pub record Replays (r : Replay) (used unused : List ℕ) (now : Streams) (e : Execution) : Type 0 where
  pub laws : Laws r.network
  pub begins : r.network.start ≡ fresh
  pub whole : used ++ unused ≡ r.picks
  pub few : length r.picks < 2 ^ 63
  pub named : AllByRecursion (λ p. p < size_of r.network) unused
  pub items : List (List ℤ)
  pub outcomes : List Outcome
  pub gives : Gives (width_of r.network) (change r.before.input now.input) e.stream items (closed_so (ending_of e.stream))
  pub runs : Runs r.network e.machine
  pub wide : HaveInWords r.network.tree items
  pub follows : (later : List (List ℤ)) → HaveInWords r.network.tree later → Follows e.machine outcomes later (course_under r.network (items ++ later) used)
  pub untrapped : (front : List ℕ) (p : ℕ) → used ≡ front ++ p ∷ [] → (later : List (List ℤ)) → HaveInWords r.network.tree later →
      has_trap (course_under r.network (items ++ later) front).state.emitted ≡ false
  pub filled : (front : List ℕ) (p : ℕ) → used ≡ front ++ p ∷ [] → (later : List (List ℤ)) → HaveInWords r.network.tree later →
      (course_under r.network (items ++ later) front).state.sent < length items
  pub counted : e.machine.fired + e.idle ≡ length used
  pub trap_is : e.emitted.trap ≡ trap_of outcomes
  pub put : HasPut (change r.before.output now.output) (text_of outcomes)
  pub same_faults : HasSameFaults (change r.before.output now.output)

-- items were requested before the picks made, and none after
abbrev pub AreAsked : {r : Replay} {used unused : List ℕ} {now : Streams} {e : Execution} → Replays r used unused now e → Type 0
AreAsked {r} {used} {unused} {now} {e} d = (later : List (List ℤ)) → HaveInWords r.network.tree later → IsRequestedBy r.network (d.items ++ later) used (length d.items) (ending_of e.stream)

-- the next pick can be made: the stream isn't ended, the inbox is filled, and no trap was emitted
pub record IsReady (e : Execution) : Type 0 where
  pub open_is : ending_of e.stream ≡ None
  pub filled : e.machine.inbox ≢ None
  pub untrapped : e.emitted.trap ≡ None

-- after an item of the stream was requested, where the inbox was empty: the inbox is filled, as long as the stream isn't ended
pub record IsFilled (old new : Execution) : Type 0 where
  pub filled : ending_of new.stream ≡ None → new.machine.inbox ≢ None
  pub empty : (x : Ending) → ending_of old.stream ≡ None → ending_of new.stream ≡ Some x → new.machine.inbox ≡ None
  pub same_emitted : new.emitted ≡ old.emitted

-- whatever run it is, an execution that was filled is on it still
abbrev pub FillsOn : (input : Change (List ℕ)) → (old new : Execution) → Result (Unit {0}) NoMemory → Type 0
FillsOn input old new (Ok done) =
    (r : Replay) (used unused : List ℕ) (output : Observation (List ℕ)) → Replays r used unused (streams input.old output) old → Replays r used unused (streams input.new output) new × IsFilled old new
FillsOn input old new (Err want) =
    (r : Replay) (used unused : List ℕ) (output : Observation (List ℕ)) → Replays r used unused (streams input.old output) old → Comes r (streams input.new output) (Err fault.NoMemory)

-- whatever run it is, with these bodies of modules, an execution that is ready makes the pick of this process
abbrev pub MakesOn : Leaf → (p : ℕ) → (output : Change (List ℕ)) → (old new : Execution) → Result (Unit {0}) RunFault → Type 0
MakesOn leaf p output old new (Ok done) =
    (r : Replay) (used unused : List ℕ) (input : Observation (List ℕ)) → r.network.leaf ≡ leaf → Replays r used (p ∷ unused) (streams input output.old) old → IsReady old →
    (d : Replays r (used ++ p ∷ []) unused (streams input output.new) new) × (ending_of new.stream ≡ None) × AreAsked d
MakesOn leaf p output old new (Err failed) =
    (r : Replay) (used unused : List ℕ) (input : Observation (List ℕ)) → r.network.leaf ≡ leaf → Replays r used (p ∷ unused) (streams input output.old) old → IsReady old →
    Comes r (streams input output.new) (Err failed)

-- a run on which none of these picks was made, and whose stream isn't ended
pub record Opens (r : Replay) (picks : List ℕ) (now : Streams) (e : Execution) : Type 0 where
  pub replays : Replays r [] picks now e
  pub open_is : ending_of e.stream ≡ None
  pub asked : AreAsked replays

-- a run that goes no further: a trap was emitted, or the stream ended in place of an item for the next pick, or no pick is left
pub record Halts (r : Replay) (now : Streams) (e : Execution) : Type 0 where
  pub used : List ℕ
  pub unused : List ℕ
  pub replays : Replays r used unused now e
  pub request : (x : Ending) → ending_of e.stream ≡ Some x → (unused ≢ []) × (e.machine.inbox ≡ None)
  pub over : e.emitted.trap ≡ None → ending_of e.stream ≡ None → unused ≡ []
  pub requested : (later : List (List ℤ)) → HaveInWords r.network.tree later → IsRequestedBy r.network (replays.items ++ later) (requested_for (ending_of e.stream) used unused) (length replays.items) (ending_of e.stream)

-- some run is to be made of these picks, with these bodies of modules
pub record IsToReplay (leaf : Leaf) (picks : List ℕ) (now : Streams) (e : Execution) : Type 0 where
  pub replay : Replay
  pub leaf_is : replay.network.leaf ≡ leaf
  pub opens : Opens replay picks now e

-- whatever run it is, with these bodies of modules, this number of its picks were made, and its stream isn't ended
abbrev pub LeadsTo : Leaf → (picks : List ℕ) → (made : ℕ) → (before now : Streams) → (old new : Execution) → Type 0
LeadsTo leaf picks made before now old new = (r : Replay) → r.network.leaf ≡ leaf → Opens r picks before old → (d : Replays r (take made picks) (drop made picks) now new) × (ending_of new.stream ≡ None) × AreAsked d

-- whatever run it is, with these bodies of modules, an execution makes its picks until it goes no further
abbrev pub HaltsOn : Leaf → (picks : List ℕ) → (before now : Streams) → (old new : Execution) → Result (Unit {0}) RunFault → Type 0
HaltsOn leaf picks before now old new (Ok done) = (r : Replay) → r.network.leaf ≡ leaf → Opens r picks before old → Halts r now new
HaltsOn leaf picks before now old new (Err failed) = (r : Replay) → r.network.leaf ≡ leaf → Opens r picks before old → Comes r now (Err failed)

-- some run goes no further
abbrev pub IsHalted : Execution → Type 0
IsHalted e = (r : Replay) × (now : Streams) × Halts r now e

-- the state of an execution was saved, with its numbers of items and picks
pub record Saves (e : Execution) (saved : Checkpoint) : Type 0 where
  pub shot_is : saved.shot ≡ shot_of e.machine
  pub shaped : IsShaped e.machine
  pub countable : IsCountable saved.shot
  pub items_are : saved.items ≡ e.machine.sent + length (option_to_list e.machine.inbox)
  pub picks_are : saved.picks ≡ e.machine.fired + e.idle

-- whatever run it was that goes no further, with this tree to name traps, it came to this end
abbrev pub ComesTo : Tree → Execution → CheckpointEnd → Type 0
ComesTo named e end = (r : Replay) (now : Streams) → r.network.named ≡ named → Halts r now e → Comes r now (Ok end)

-- the ending of a stream, if it ended before the input did
abbrev pub cut_of : Option Ending → Option Ending
cut_of None = None
cut_of (Some ending.End) = None
cut_of (Some e) = Some e
