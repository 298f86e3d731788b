-- A run whose picks a timer makes: it is the run under these picks, as if they had been recorded.
use Rattle.std.specs.Prelude.{◌≡◌, ◌≢◌, ℕ, ℤ, ◌+◌, ◌<◌, true, false, Bool, List, [], ◌++◌, length, None, Result, Ok, Err, slice_index}
use Rattle.p3l_base.specs.declared.NoMemory.{NoMemory}
use Rattle.p3l_firing.specs.Nodes.{Leaf}
use Rattle.p3l_io.specs.Change.{Change, Observation}
use Rattle.p3l_net.specs.Machine.{Seen}
use Rattle.p3l_skel.specs.declared.tree.Tree.{Tree}
use Rattle.p3l_sched.specs.declared.picker.Way.TheVariants as way
use Rattle.p3l_sched.specs.declared.schedule.Schedule.TheVariants as schedule
use Rattle.p3l_trace.specs.Agreement as trace
use Rattle.p3l_timed.specs.Moments.{due_at}
use Rattle.p3l_timed.specs.Clock.{Clock}
use Rattle.p3l_timed.specs.Follow.{Times}
use Rattle.p3l_timed.specs.Price.{price_at}
use Rattle.p3l_timed.specs.Timed.{BeginsTimed, IsTimed, Timing, busy_of, finish_of, timed_after, timing_from}
use Rattle.p3l_run.specs.declared.execution.Execution.{Execution}
use Rattle.p3l_run.specs.declared.fault.RunFault.{RunFault}
use Rattle.p3l_run.specs.declared.fault.RunFault.TheVariants as fault
use Rattle.p3l_run.specs.declared.in_time.TimedRan.{TimedRan}
use Rattle.p3l_run.specs.declared.keeping.Keeping.{Keeping}
use Rattle.p3l_run.specs.declared.run.Ran.{Ran}
use Rattle.p3l_run.specs.Execution.{Ends, Executes, Job}
use Rattle.p3l_run.specs.Feed.{ending_of}
use Rattle.p3l_run.specs.Network.{Network, picks_of}
use Rattle.p3l_run.specs.Run.{MayCome, MayFollow}
use Rattle.p3l_run.specs.Start.{fresh}
use Rattle.p3l_run.specs.Streams.{Streams, streams}

-- the job under these picks
abbrev pub under : Job → List ℕ → Job
under job picks = record job { schedule = schedule.Recorded picks }

-- the timed run of a network on items after these picks, at these prices
abbrev pub timing : Network → List ℕ → List (List ℤ) → List ℕ → Timing
timing n prices items picks = timed_after n.tree n.leaf n.net (price_at prices) (timing_from n.tree n.net (price_at prices) items) picks

-- these are the picks of the timed run of a network on items
abbrev pub AreTimed : Network → List ℕ → List (List ℤ) → List ℕ → Type 0
AreTimed n prices items picks = IsTimed n.tree n.leaf n.net (price_at prices) items picks

-- the timed run of a network on items begins with these picks
abbrev pub BeginTimed : Network → List ℕ → List (List ℤ) → List ℕ → Type 0
BeginTimed n prices items picks = BeginsTimed n.tree n.leaf n.net (price_at prices) items picks

-- a timer and a machine are where the timed run on these items is after these picks, with which it begins
pub record AtTime (n : Network) (prices : List ℕ) (k : Clock) (m : Seen) (items : List (List ℤ)) (picks : List ℕ) : Type 0 where
  pub times : Times k m (timing n prices items picks)
  pub begins : BeginTimed n prices items picks

-- a job is under way in virtual time, which began with nothing fired
pub record InTime (job : Job) (prices : List ℕ) (now : Streams) (e : Execution) (k : Clock) : Type 0 where
  pub fresh_is : job.network.start ≡ fresh
  pub picks : List ℕ
  pub executes : Executes (under job picks) now e
  pub reads : e.picker ≡ way.Reads []
  pub walked_are : trace.picks_of executes.walked ≡ picks
  pub count : length picks ≡ e.machine.fired
  pub none_idle : e.idle ≡ 0
  pub prices_are : k.prices ≡ prices
  pub busy : (p : ℕ) → slice_index k.busy p ≡ busy_of (price_at prices) picks p
  pub at : (later : List (List ℤ)) → MayCome job.network (ending_of e.stream) later → AtTime job.network prices k e.machine (executes.items ++ later) picks

-- the same where the inbox is filled, as long as the stream isn't ended
pub record AwaitsInTime (job : Job) (prices : List ℕ) (now : Streams) (e : Execution) (k : Clock) : Type 0 where
  pub is : InTime job prices now e k
  pub filled : ending_of e.stream ≡ None → e.machine.inbox ≢ None

-- the run of a job came to its end, at these prices: it ended as under its picks, which are those of the timed run of the items that
-- the stream gave, and whatever may still come after them; and so long was each process busy when it fired last
pub record EndsInTime (job : Job) (prices : List ℕ) (now : Streams) (ran : Ran) (k : Clock) : Type 0 where
  pub picks : List ℕ
  pub ends : Ends (under job picks) now (Ok ran)
  pub timed : (later : List (List ℤ)) → MayCome job.network ends.ends.close later → AreTimed job.network prices (ends.ends.items ++ later) picks
  pub finish : (later : List (List ℤ)) → MayCome job.network ends.ends.close later →
      k.moment ≡ finish_of job.network.tree job.network.leaf job.network.net (price_at prices) (ends.ends.items ++ later) picks
  pub busy : (p : ℕ) → slice_index k.busy p ≡ busy_of (price_at prices) picks p
  pub made : (later : List (List ℤ)) → MayCome job.network ends.ends.close later → picks_of job.network (schedule.Recorded picks) (ends.ends.items ++ later) ≡ picks
  pub prices_are : k.prices ≡ prices
  pub some : 0 < length k.prices

-- a run that ended early, at these prices, under the picks so far: with them begins the timed run of the items that the stream gave,
-- and whatever may still come after them
pub record EndsEarly (job : Job) (prices : List ℕ) (now : Streams) (failed : RunFault) : Type 0 where
  pub picks : List ℕ
  pub ends : Ends (under job picks) now (Err failed)
  pub begins : (later : List (List ℤ)) → MayFollow job.network ends.ends.closed later → BeginTimed job.network prices (ends.ends.items ++ later) picks

-- none is due
abbrev pub NoneIsDue : Clock → Type 0
NoneIsDue k = (p : ℕ) → due_at k.due p ≡ None

-- whatever job is under way, an execution that was fed is still
abbrev pub FeedsInTime : (input : Change (List ℕ)) → (old new : Execution) → (k k' : Clock) → Result (Unit {0}) NoMemory → Type 0
FeedsInTime input old new k k' (Ok done) =
    (job : Job) (prices : List ℕ) (output : Observation (List ℕ)) → InTime job prices (streams input.old output) old k
    → AwaitsInTime job prices (streams input.new output) new k' × (new.machine.fired ≡ old.machine.fired)
FeedsInTime input old new k k' (Err want) =
    (job : Job) (prices : List ℕ) (output : Observation (List ℕ)) → InTime job prices (streams input.old output) old k
    → EndsEarly job prices (streams input.new output) fault.NoMemory

-- the process that is due next fired, and the job is under way still; or none was due
abbrev pub GoesInTime : Job → (prices : List ℕ) → (now : Streams) → (old new : Execution) → Clock → Bool → Type 0
GoesInTime job prices now old new k' true = InTime job prices now new k' × (new.machine.fired ≡ old.machine.fired + 1)
GoesInTime job prices now old new k' false = AwaitsInTime job prices now new k' × NoneIsDue k'

-- whatever job is under way with these bodies of modules, an execution that was fed fires what is due next
abbrev pub StepsInTime : Leaf → (output : Change (List ℕ)) → (old new : Execution) → (k k' : Clock) → Result Bool RunFault → Type 0
StepsInTime leaf output old new k k' (Ok going) =
    (job : Job) (prices : List ℕ) (input : Observation (List ℕ)) → job.network.leaf ≡ leaf → AwaitsInTime job prices (streams input output.old) old k
    → GoesInTime job prices (streams input output.new) old new k' going
StepsInTime leaf output old new k k' (Err failed) =
    (job : Job) (prices : List ℕ) (input : Observation (List ℕ)) → job.network.leaf ≡ leaf → AwaitsInTime job prices (streams input output.old) old k
    → EndsEarly job prices (streams input output.new) failed

-- some job is under way, with these bodies of modules; and was fed
pub record IsInTime (leaf : Leaf) (now : Streams) (e : Execution) (k : Clock) : Type 0 where
  pub job : Job
  pub prices : List ℕ
  pub leaf_is : job.network.leaf ≡ leaf
  pub is : InTime job prices now e k

pub record MayStep (leaf : Leaf) (output : Observation (List ℕ)) (e : Execution) (k : Clock) : Type 0 where
  pub job : Job
  pub prices : List ℕ
  pub input : Observation (List ℕ)
  pub leaf_is : job.network.leaf ≡ leaf
  pub awaits : AwaitsInTime job prices (streams input output) e k

-- whatever job was under way is so still
abbrev pub LeadsInTime : Leaf → (before now : Streams) → (old new : Execution) → (k k' : Clock) → Type 0
LeadsInTime leaf before now old new k k' = (job : Job) (prices : List ℕ) → job.network.leaf ≡ leaf → InTime job prices before old k → InTime job prices now new k'

-- whatever job is under way, all that is due in it fires
abbrev pub RunsInTime : Leaf → (before now : Streams) → (old new : Execution) → (k k' : Clock) → Result (Unit {0}) RunFault → Type 0
RunsInTime leaf before now old new k k' (Ok done) = (job : Job) (prices : List ℕ) → job.network.leaf ≡ leaf → InTime job prices before old k → AwaitsInTime job prices now new k' × NoneIsDue k'
RunsInTime leaf before now old new k k' (Err failed) = (job : Job) (prices : List ℕ) → job.network.leaf ≡ leaf → InTime job prices before old k → EndsEarly job prices now failed

-- some job is under way, and may be fed
pub record MayFeed (input : Observation (List ℕ)) (e : Execution) (k : Clock) : Type 0 where
  pub job : Job
  pub prices : List ℕ
  pub output : Observation (List ℕ)
  pub is : InTime job prices (streams input output) e k

-- the end of a run in virtual time
abbrev pub IsTimedEnd : Job → (prices : List ℕ) → (now : Streams) → Result TimedRan RunFault → Type 0
IsTimedEnd job prices now (Ok end) = EndsInTime job prices now end.ran end.timer
IsTimedEnd job prices now (Err failed) = EndsEarly job prices now failed

-- whatever job is under way, with these bodies of modules and this tree to name traps, an execution comes to the end of its run
abbrev pub CompletesInTime : Leaf → (named : Tree) → (before now : Streams) → Execution → Clock → Result TimedRan RunFault → Type 0
CompletesInTime leaf named before now e k result =
    (job : Job) (prices : List ℕ) → job.network.leaf ≡ leaf → job.network.named ≡ named → InTime job prices before e k → IsTimedEnd job prices now result

-- a run of a network in virtual time, of which so much is kept
abbrev pub timed_job : Network → Keeping → Streams → Job
timed_job network keeping before = record { network = network; schedule = schedule.Recorded []; keeping = keeping; before = before }
