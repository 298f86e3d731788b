-- An execution: a run of a network that is under way, and what each of its steps does.
use Rattle.std.specs.Prelude.{◌≡◌, ◌≢◌, ℕ, ℤ, ◌+◌, ◌*◌, ◌<◌, ◌^◌, ◌⊎◌, pos, true, false, Bool, List, [], ◌∷◌, ◌++◌, length, option_map, Option, Some, None, Result, Ok, Err}
use Rattle.p3l_base.specs.declared.NoMemory.{NoMemory}
use Rattle.p3l_base.specs.declared.outcome.Outcome.{Outcome}
use Rattle.p3l_firing.specs.declared.net.Net.{Net}
use Rattle.p3l_firing.specs.declared.process.ProcKind.{ProcKind}
use Rattle.p3l_firing.specs.Nodes.{Leaf}
use Rattle.p3l_io.specs.Change.{Change, HasSameFaults, Observation, change}
use Rattle.p3l_skel.specs.declared.tree.Tree.{Tree}
use Rattle.p3l_net.specs.Machine as machine
use Rattle.p3l_net.specs.Machine.{Fires, can_step, ready_list}
use Rattle.p3l_firing.specs.Process.{kind_at}
use Rattle.p3l_run.specs.declared.end.RunStats.{RunStats}
use Rattle.p3l_run.specs.declared.end.RunEnd.{RunEnd}
use Rattle.p3l_run.specs.declared.end.RunEnd.TheVariants as finish
use Rattle.p3l_sched.specs.declared.schedule.Schedule.{Schedule}
use Rattle.p3l_sched.specs.Picker.{HasPlace, HasProcesses, after_pick, begun, pick_of, recorded}
use Rattle.p3l_stream.specs.declared.items.Ending.{Ending}
use Rattle.p3l_stream.specs.Seen as stream
use Rattle.p3l_stream.specs.Text.{text_of}
use Rattle.p3l_trace.specs.declared.trace.TraceLine.{TraceLine}
use Rattle.p3l_run.specs.declared.execution.Execution.{Execution}
use Rattle.p3l_run.specs.declared.fault.RunFault.{RunFault}
use Rattle.p3l_run.specs.declared.fault.RunFault.TheVariants as fault
use Rattle.p3l_run.specs.declared.keeping.Keeping.{Keeping}
use Rattle.p3l_run.specs.declared.run.Ran.{Ran}
use Rattle.p3l_run.specs.Feed.{Gives, closed_so, ending_of, input_limit, most_of_input}
use Rattle.p3l_run.specs.Keeping.{kept_by}
use Rattle.p3l_run.specs.Laws.{Laws}
use Rattle.p3l_run.specs.Network.{Network, width_of}
use Rattle.p3l_run.specs.Run.{IsRunEnd, MayEnd, end_of}
use Rattle.p3l_run.specs.Start.{item_number, most_from}
use Rattle.p3l_run.specs.Steps.{Stands, left_of}
use Rattle.p3l_run.specs.Streams.{Streams, streams}
use Rattle.p3l_run.specs.Sum.{sum_of}
use Rattle.p3l_run.specs.Trap.{trap_of}
use Rattle.p3l_run.specs.Write.{HasPut, WriteCause}

-- a network to be run under a schedule, what of the run is kept, and the streams before it
pub record Job : Type 0 where
  pub network : Network
  pub schedule : Schedule
  pub keeping : Keeping
  pub before : Streams

abbrev pub job_of : Network → Schedule → Keeping → Streams → Job
job_of network schedule keeping before = record { network = network; schedule = schedule; keeping = keeping; before = before }

-- the run of a job came to this end, with the streams as they are then
pub record Ends (job : Job) (now : Streams) (result : Result Ran RunFault) : Type 0 where
  pub ends : IsRunEnd job.network job.schedule job.keeping (change job.before.input now.input) (change job.before.output now.output) result
  pub output : WriteCause (change job.before.output now.output) result

-- the most picks that are left, if there are 2 ^ 63 firings at most
abbrev pub left_at : Execution → ℕ
left_at e = left_of (2 ^ 63) e.machine.fired e.picker

-- an execution on a machine that was just started, before which this number of outcomes was emitted
abbrev pub begun_on : machine.Seen → (earlier firings width : ℕ) → Schedule → Keeping → Execution
begun_on m earlier firings width schedule keeping =
    record {
      firings = firings;
      machine = m;
      earlier = earlier;
      stream = stream.started width input_limit;
      picker = begun schedule;
      emitted = record { trap = None; sum = pos 0 };
      idle = 0;
      kept = kept_by keeping [];
    }

-- one on a machine in which nothing has fired
abbrev pub started : Tree → Net → ℕ → ℕ → Schedule → Keeping → Execution
started tree net firings width schedule keeping = begun_on (machine.started tree net) 0 firings width schedule keeping

-- the run of a job is under way: the machine runs the network on the items that the stream gave, the text of what it emitted is
-- written, its trap and its sum are those of these outcomes, and the trace so far is kept
pub record Executes (job : Job) (now : Streams) (e : Execution) : Type 0 where
  pub laws : Laws job.network
  pub firings_is : e.firings ≡ job.network.firings
  pub fits : most_from job.network.start job.network.firings most_of_input < 2 ^ 63
  pub few : recorded job.schedule < 2 ^ 63
  pub numbered : (k : ℕ) → item_number job.network.start k ≡ e.earlier + k
  pub few_earlier : e.earlier < 2 ^ 63
  pub items : List (List ℤ)
  pub outcomes : List Outcome
  pub walked : List TraceLine
  pub gives : Gives (width_of job.network) (change job.before.input now.input) e.stream items (closed_so (ending_of e.stream))
  pub stands : Stands job.network job.schedule e.machine e.picker items (ending_of e.stream) outcomes e.idle walked
  pub trap_is : e.emitted.trap ≡ trap_of outcomes
  pub sum_is : e.emitted.sum ≡ sum_of outcomes
  pub put : HasPut (change job.before.output now.output) (text_of outcomes)
  pub kept_is : e.kept ≡ kept_by job.keeping walked
  pub same_faults : HasSameFaults (change job.before.output now.output)

-- the same where the inbox is filled, as long as the stream isn't ended, so that the machine can fire just where the network can
pub record AwaitsPick (job : Job) (now : Streams) (e : Execution) : Type 0 where
  pub executes : Executes job now e
  pub filled : ending_of e.stream ≡ None → e.machine.inbox ≢ None

-- the next pick, which is one where some process can fire
abbrev pub pick_at : Execution → Option ℕ
pick_at e = pick_of (can_step e.machine) (length e.machine.net.procs) e.picker

-- no pick is left: no process can fire, or the recorded picks are ended
abbrev pub IsOver : Execution → Type 0
IsOver e = (ready_list e.machine ≡ []) ⊎ (pick_at e ≡ None)

-- a pick was made of this process
pub record Picks (old new : Execution) (p : ℕ) : Type 0 where
  pub some : ready_list old.machine ≢ []
  pub pick : pick_at old ≡ Some p
  pub there : p < length old.machine.net.procs
  pub after : new ≡ record old { picker = after_pick (length old.machine.net.procs) old.picker p }

abbrev pub MayPick : Execution → Execution → Option ℕ → Type 0
MayPick old new None = (new ≡ old) × IsOver old
MayPick old new (Some p) = Picks old new p

-- the line of a pick, after those that are kept
abbrev pub kept_with : ℕ → Option ProcKind → Option (List TraceLine) → Option (List TraceLine)
kept_with p kind kept = option_map (λ lines. lines ++ record { pick = p; kind = kind } ∷ []) kept

-- after an idle pick
abbrev pub after_idle : ℕ → Execution → Execution
after_idle p e = record e { idle = e.idle + 1; kept = kept_with p None e.kept }

-- after a firing, which handed out this outcome
pub record HasFired (leaf : Leaf) (p : ℕ) (old new : Execution) (handed : Option Outcome) : Type 0 where
  pub kind : ProcKind
  pub kind_is : kind_at old.machine.net p ≡ Some kind
  pub fires : Fires leaf old.machine new.machine p handed
  pub rest : new ≡ record old { machine = new.machine; kept = kept_with p (Some kind) old.kept }

-- the end of an execution that has no pick left; the modules of this tree name its trap
pub record IsFinish (named : Tree) (e : Execution) (f : RunEnd) : Type 0 where
  pub stuck : ready_list e.machine ≡ [] → (close : Ending) → MayEnd (ending_of e.stream) close → f ≡ end_of named e.emitted.trap (e.earlier + e.machine.emitted) close
  pub stopped : ready_list e.machine ≢ [] → f ≡ finish.Stopped e.machine.fired e.idle

-- the numbers of an execution
abbrev pub stats_at : Execution → RunStats
stats_at e = record { items = e.machine.sent; fired = e.machine.fired; idle = e.idle; bound = e.machine.sent * e.firings }

-- the next pick is in range, and so are the counts with it
pub record IsInRange (e : Execution) : Type 0 where
  pub place : HasPlace (length e.machine.net.procs) e.picker
  pub named : HasProcesses (length e.machine.net.procs) e.picker
  pub fired : e.machine.fired < 2 ^ 63
  pub idle : e.idle < 2 ^ 63

-- whatever job it executes, an execution that was fed does still, and as many picks are left
abbrev pub FeedsOn : (input : Change (List ℕ)) → (old new : Execution) → Result (Unit {0}) NoMemory → Type 0
FeedsOn input old new (Ok done) = (job : Job) (output : Observation (List ℕ)) → Executes job (streams input.old output) old → AwaitsPick job (streams input.new output) new × (left_at new ≡ left_at old)
FeedsOn input old new (Err want) = (job : Job) (output : Observation (List ℕ)) → Executes job (streams input.old output) old → Ends job (streams input.new output) (Err fault.NoMemory)

-- a pick was made, and fewer are left; or none was left
abbrev pub GoesOn : Job → (now : Streams) → (old new : Execution) → Bool → Type 0
GoesOn job now old new true = Executes job now new × (left_at new < left_at old)
GoesOn job now old new false = AwaitsPick job now new × IsOver new

-- whatever job it executes, with these bodies of modules, an execution that was fed and picked a process that can fire goes on by its
-- firing
abbrev pub FiresOn : Leaf → (p : ℕ) → (output : Change (List ℕ)) → (picked new : Execution) → Result (Unit {0}) RunFault → Type 0
FiresOn leaf p output picked new (Ok done) =
    (job : Job) (input : Observation (List ℕ)) (old : Execution) → job.network.leaf ≡ leaf → AwaitsPick job (streams input output.old) old → Picks old picked p → can_step picked.machine p ≡ true → GoesOn job (streams input output.new) old new true
FiresOn leaf p output picked new (Err failed) =
    (job : Job) (input : Observation (List ℕ)) (old : Execution) → job.network.leaf ≡ leaf → AwaitsPick job (streams input output.old) old → Picks old picked p → can_step picked.machine p ≡ true → Ends job (streams input output.new) (Err failed)

-- whatever job it executes, with these bodies of modules, an execution that was fed makes the next pick of it, if one is left
abbrev pub StepsOn : Leaf → (output : Change (List ℕ)) → (old new : Execution) → Result Bool RunFault → Type 0
StepsOn leaf output old new (Ok going) =
    (job : Job) (input : Observation (List ℕ)) → job.network.leaf ≡ leaf → AwaitsPick job (streams input output.old) old → GoesOn job (streams input output.new) old new going
StepsOn leaf output old new (Err failed) =
    (job : Job) (input : Observation (List ℕ)) → job.network.leaf ≡ leaf → AwaitsPick job (streams input output.old) old → Ends job (streams input output.new) (Err failed)

-- some job is executed, with these bodies of modules
pub record IsUnderWay (leaf : Leaf) (now : Streams) (e : Execution) : Type 0 where
  pub job : Job
  pub leaf_is : job.network.leaf ≡ leaf
  pub executes : Executes job now e

-- whatever job was executed is still
abbrev pub LeadsOn : Leaf → (before now : Streams) → (old new : Execution) → Type 0
LeadsOn leaf before now old new = (job : Job) → job.network.leaf ≡ leaf → Executes job before old → Executes job now new

-- whatever job it executes, an execution makes all picks of it
abbrev pub RunsOut : Leaf → (before now : Streams) → (old new : Execution) → Result (Unit {0}) RunFault → Type 0
RunsOut leaf before now old new (Ok done) = (job : Job) → job.network.leaf ≡ leaf → Executes job before old → AwaitsPick job now new × IsOver new
RunsOut leaf before now old new (Err failed) = (job : Job) → job.network.leaf ≡ leaf → Executes job before old → Ends job now (Err failed)

-- whatever job it executes, with these bodies of modules and this tree to name traps, an execution comes to the end of its run
abbrev pub Completes : Leaf → (named : Tree) → (before now : Streams) → Execution → Result Ran RunFault → Type 0
Completes leaf named before now e result = (job : Job) → job.network.leaf ≡ leaf → job.network.named ≡ named → Executes job before e → Ends job now result
