-- Runs under recorded picks that end at a checkpoint, where what is in them is saved.
use Rattle.std.specs.Prelude.{◌≡◌, ◌≢◌, ℕ, ℤ, ◌<◌, List, [], ◌∷◌, ◌++◌, ◌⊎◌, true, false, length, Option, Some, None, Result, Ok, Err}
use Rattle.p3l_base.specs.declared.NoMemory.{NoMemory}
use Rattle.p3l_base.specs.declared.outcome.Outcome.{Outcome}
use Rattle.p3l_firing.specs.Token.{has_trap}
use Rattle.p3l_firing.specs.NetInvariants.{HaveInWords}
use Rattle.p3l_firing.specs.Shot.{IsCountable}
use Rattle.p3l_io.specs.Change.{Change}
use Rattle.p3l_net.specs.Machine as machine
use Rattle.p3l_net.specs.Machine.{IsShaped}
use Rattle.p3l_net.specs.Offered.{Follows}
use Rattle.p3l_net.specs.Shot.{shot_of}
use Rattle.p3l_run.specs.declared.checkpoint.Checkpoint.{Checkpoint}
use Rattle.p3l_run.specs.declared.checkpoint.CheckpointEnd.{CheckpointEnd}
use Rattle.p3l_run.specs.declared.checkpoint.CheckpointEnd.TheVariants as end
use Rattle.p3l_run.specs.declared.end.RunEnd.{RunEnd}
use Rattle.p3l_run.specs.declared.end.RunEnd.TheVariants as finish
use Rattle.p3l_run.specs.declared.fault.RunFault.{RunFault}
use Rattle.p3l_run.specs.Feed.{Gives, closed_so}
use Rattle.p3l_run.specs.Laws.{Runs}
use Rattle.p3l_run.specs.Network.{Network, course_under, width_of}
use Rattle.p3l_run.specs.Requested.{IsRequestedBy, requested_for}
use Rattle.p3l_run.specs.Run.{MayFollow, end_of}
use Rattle.p3l_run.specs.Start.{item_number}
use Rattle.p3l_run.specs.Trap.{trap_of}
use Rattle.p3l_run.specs.Write.{HasBegun, HasPut}
use Rattle.p3l_stream.specs.declared.items.Ending.{Ending}
use Rattle.p3l_stream.specs.declared.items.Ending.TheVariants as ending
use Rattle.p3l_stream.specs.Seen.{Seen}
use Rattle.p3l_stream.specs.Text.{text_of}

-- a run came to a checkpoint: the stream gave these items, and each of the picks was made with one of them in the inbox, so that
-- the machine is where the run on them and on whatever items come after them is under these picks; the text of what it emitted was
-- written. The picks that are left over were not used
pub record Reaches (n : Network) (picks : List ℕ) (input output : Change (List ℕ)) : Type 0 where
  pub stream : Seen
  pub items : List (List ℤ)
  pub close : Option Ending
  pub gives : Gives (width_of n) input stream items (closed_so close)
  pub used : List ℕ
  pub unused : List ℕ
  pub whole : used ++ unused ≡ picks
  pub outcomes : List Outcome
  pub put : HasPut output (text_of outcomes)
  pub m : machine.Seen
  pub runs : Runs n m
  pub wide : HaveInWords n.tree items
  pub follows : (later : List (List ℤ)) → HaveInWords n.tree later → Follows m outcomes later (course_under n (items ++ later) used)
  -- before the last of the picks that were made no trap was emitted, and an item that was given was not sent yet
  pub untrapped : (front : List ℕ) (p : ℕ) → used ≡ front ++ p ∷ [] → (later : List (List ℤ)) → HaveInWords n.tree later →
      has_trap (course_under n (items ++ later) front).state.emitted ≡ false
  pub filled : (front : List ℕ) (p : ℕ) → used ≡ front ++ p ∷ [] → (later : List (List ℤ)) → HaveInWords n.tree later →
      (course_under n (items ++ later) front).state.sent < length items
  -- a stream that ended did so in place of an item, for a pick that was not made then
  pub request : (e : Ending) → close ≡ Some e → (unused ≢ []) × (m.inbox ≡ None)
  -- an item was requested before each pick that was made, and before the one for which the stream ended, where the inbox was empty, and
  -- at no other time
  pub requested : (later : List (List ℤ)) → HaveInWords n.tree later → IsRequestedBy n (items ++ later) (requested_for close used unused) (length items) close

-- the state that it came to was saved: the picks are ended, or the stream answered its end in place of an item
pub record IsSaved (n : Network) (picks : List ℕ) (input output : Change (List ℕ)) (saved : Checkpoint) : Type 0 where
  pub reached : Reaches n picks input output
  pub shot_is : saved.shot ≡ shot_of reached.m
  pub shaped : IsShaped reached.m
  pub countable : IsCountable saved.shot
  pub items_are : saved.items ≡ length reached.items
  pub picks_are : saved.picks ≡ length reached.used
  pub untrapped : has_trap reached.outcomes ≡ false
  pub over : (reached.unused ≡ []) ⊎ (reached.close ≡ Some ending.End)

-- a run ended early: a prefix of the text of what it emits under some of the picks was written
pub record Breaks (n : Network) (picks : List ℕ) (input output : Change (List ℕ)) : Type 0 where
  pub stream : Seen
  pub items : List (List ℤ)
  pub closed : Option (Result Ending NoMemory)
  pub gives : Gives (width_of n) input stream items closed
  pub used : List ℕ
  pub unused : List ℕ
  pub whole : used ++ unused ≡ picks
  pub emits : (later : List (List ℤ)) → MayFollow n closed later → HasBegun output (text_of (course_under n (items ++ later) used).state.emitted)

-- or the stream ended otherwise, and nothing was saved
pub record IsCutOff (n : Network) (picks : List ℕ) (input output : Change (List ℕ)) (e : Ending) : Type 0 where
  pub reached : Reaches n picks input output
  pub close_is : reached.close ≡ Some e
  pub other : e ≢ ending.End
  pub untrapped : has_trap reached.outcomes ≡ false

-- or a trap was emitted, and nothing was saved
pub record IsTrapped (n : Network) (picks : List ℕ) (input output : Change (List ℕ)) (f : RunEnd) : Type 0 where
  pub reached : Reaches n picks input output
  pub trapped : has_trap reached.outcomes ≡ true
  pub ends : (e : Ending) → f ≡ end_of n.named (trap_of reached.outcomes) (item_number n.start (length reached.outcomes)) e

-- the end of a run to a checkpoint
abbrev pub IsCheckpointEnd : Network → (picks : List ℕ) → (input output : Change (List ℕ)) → Result CheckpointEnd RunFault → Type 0
IsCheckpointEnd n picks input output (Ok (end.Saved saved)) = IsSaved n picks input output saved
IsCheckpointEnd n picks input output (Ok (end.Ended (finish.Stream e))) = IsCutOff n picks input output e
IsCheckpointEnd n picks input output (Ok (end.Ended f)) = IsTrapped n picks input output f
IsCheckpointEnd n picks input output (Err fault) = Breaks n picks input output
