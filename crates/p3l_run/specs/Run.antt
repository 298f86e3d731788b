-- Ends of runs: the text that was written, and the numbers.
use Rattle.std.specs.Prelude.{◌≡◌, ◌≤◌, ℕ, ℤ, ◌+◌, List, [], ◌++◌, cond, length, Option, Some, None, Result, Ok, Err, slice_index_or}
use Rattle.p3l_base.specs.declared.NoMemory.{NoMemory}
use Rattle.p3l_base.specs.declared.outcome.Outcome.{Outcome}
use Rattle.p3l_base.specs.declared.outcome.Trap.{Trap}
use Rattle.p3l_skel.specs.declared.tree.Tree.{Tree}
use Rattle.p3l_skel.specs.Tree.{no_module}
use Rattle.p3l_firing.specs.NetInvariants.{HaveInWords}
use Rattle.p3l_firing.specs.Run.{Course}
use Rattle.p3l_io.specs.Change.{Change}
use Rattle.p3l_run.specs.declared.end.RunStats.{RunStats}
use Rattle.p3l_run.specs.declared.end.RunEnd.{RunEnd}
use Rattle.p3l_run.specs.declared.end.RunEnd.TheVariants as finish
use Rattle.p3l_sched.specs.declared.schedule.Schedule.{Schedule}
use Rattle.p3l_stream.specs.declared.items.Ending.{Ending}
use Rattle.p3l_stream.specs.Seen.{Seen}
use Rattle.p3l_stream.specs.Text.{text_of}
use Rattle.p3l_trace.specs.declared.trace.TraceLine.{TraceLine}
use Rattle.p3l_trace.specs.Agreement as trace
use Rattle.p3l_run.specs.declared.fault.RunFault.{RunFault}
use Rattle.p3l_run.specs.declared.keeping.Keeping.{Keeping}
use Rattle.p3l_run.specs.declared.run.Ran.{Ran}
use Rattle.p3l_run.specs.Feed.{Gives, closed_so}
use Rattle.p3l_run.specs.Network.{IsRunOn, Network, begun_with, course_of, goes_on, meaning_of, picks_of, width_of}
use Rattle.p3l_run.specs.Start.{item_number}
use Rattle.p3l_run.specs.Keeping.{kept_by}
use Rattle.p3l_run.specs.Sum.{sum_of}
use Rattle.p3l_run.specs.Trap.{trap_of}
use Rattle.p3l_run.specs.Write.{HasBegun, HasPut}

-- the name of the module of this number
abbrev pub module_name : Tree → ℕ → List ℕ
module_name tree k = (slice_index_or tree.modules k no_module).name

-- the end of a run in which no process can fire, and whose stream ended so: the trap that was emitted last, if there is one, for the
-- item of this number, which a module of this tree names
abbrev pub end_of : Tree → Option Trap → ℕ → Ending → RunEnd
end_of tree None emitted close = finish.Stream close
end_of tree (Some trap) emitted close = finish.Trapped emitted trap.kind (module_name tree trap.module)

-- the end of a run that stands so, and whose stream ended so: it was stopped if some process can fire
abbrev pub finish_of : Network → Course → Ending → RunEnd
finish_of n c close =
    cond (goes_on n c) (finish.Stopped c.fired c.idle)
    (end_of n.named (trap_of c.state.emitted) (item_number n.start (length c.state.emitted)) close)

-- these items may still come after those given, none where the stream ended
pub record MayCome (n : Network) (close : Option Ending) (later : List (List ℤ)) : Type 0 where
  pub wide : HaveInWords n.tree later
  pub none : (e : Ending) → close ≡ Some e → later ≡ []

-- the stream may end so
abbrev pub MayEnd : Option Ending → Ending → Type 0
MayEnd None e = Unit {0}
MayEnd (Some close) e = close ≡ e

-- these lines are the trace of the run of the network on the items under the schedule, which has these numbers: their picks are
-- that run's, and each says of its pick what happened
pub record IsTraceOf (n : Network) (schedule : Schedule) (items : List (List ℤ)) (stats : RunStats) (lines : List TraceLine) : Type 0 where
  pub picks : trace.picks_of lines ≡ picks_of n schedule items
  pub agrees : trace.Agrees n.tree n.leaf n.net (begun_with n items) (record { lines = lines; fired = stats.fired; idle = stats.idle })

-- a run came to its end: the text of what the network emits was written, on the items that the stream gave and whatever may
-- still come after them, and it ended as that run does; its lines are that run's trace, where they were to be kept, and its sum
-- is that of the words that were emitted
pub record Finishes (n : Network) (schedule : Schedule) (keeping : Keeping) (input output : Change (List ℕ)) (end : Ran) : Type 0 where
  pub stream : Seen
  pub items : List (List ℤ)
  pub close : Option Ending
  pub gives : Gives (width_of n) input stream items (closed_so close)
  -- of those that were given one at most was not sent: none was requested but where the inbox was empty
  pub requested : (begun_with n items).sent + length items ≤ end.stats.items + 1
  pub outcomes : List Outcome
  pub put : HasPut output (text_of outcomes)
  pub ran : (later : List (List ℤ)) → MayCome n close later → IsRunOn n schedule (items ++ later) outcomes end.stats
  pub ends : (later : List (List ℤ)) → MayCome n close later → (e : Ending) → MayEnd close e → end.finish ≡ finish_of n (course_of n schedule (items ++ later)) e
  pub closed : (e : Ending) → end.finish ≡ finish.Stream e → close ≡ Some e
  pub lines : List TraceLine
  pub traced : (later : List (List ℤ)) → MayCome n close later → IsTraceOf n schedule (items ++ later) end.stats lines
  pub kept : end.lines ≡ kept_by keeping lines
  pub summed : end.sum ≡ sum_of outcomes

-- the same of a stream that running out of memory may have ended, which hides what follows
pub record MayFollow (n : Network) (closed : Option (Result Ending NoMemory)) (later : List (List ℤ)) : Type 0 where
  pub wide : HaveInWords n.tree later
  pub none : (e : Ending) → closed ≡ Some (Ok e) → later ≡ []

-- a run ended early: a prefix of the text of the meaning of the items that the stream gave was written, and no more than the network
-- emits under the schedule on these items and whatever may still come after them
pub record Starts (n : Network) (schedule : Schedule) (input output : Change (List ℕ)) : Type 0 where
  pub stream : Seen
  pub items : List (List ℤ)
  pub closed : Option (Result Ending NoMemory)
  pub gives : Gives (width_of n) input stream items closed
  pub begun : HasBegun output (text_of (meaning_of n items))
  pub emits : (later : List (List ℤ)) → MayFollow n closed later → HasBegun output (text_of (course_of n schedule (items ++ later)).state.emitted)

-- the end of a run
abbrev pub IsRunEnd : Network → Schedule → Keeping → (input output : Change (List ℕ)) → Result Ran RunFault → Type 0
IsRunEnd n schedule keeping input output (Ok ran) = Finishes n schedule keeping input output ran
IsRunEnd n schedule keeping input output (Err fault) = Starts n schedule input output
