-- The command `time`: a program run on the input in virtual time.
use Rattle.std.specs.Prelude.{◌≡◌, ◌<◌, ◌≤◌, ℕ, ℤ, false, List, [], ◌++◌, ◌⊎◌, length, Ok, Err, Option, Some, None, slice_index}
use Rattle.std.specs.Option.{option_to_list}
use Rattle.p3l_io.specs.Change.{Change, HasFailed, HasRisen, HasSameContent, HasSameFaults}
use Rattle.p3l_io.specs.Content.{Held}
use Rattle.p3l_opts.specs.declared.command.Build.{Build}
use Rattle.p3l_report.specs.declared.stats.Stats.{Stats}
use Rattle.p3l_report.specs.declared.stats.Stats.TheVariants as stats
use Rattle.p3l_report.specs.declared.verdict.Finish.{Finish}
use Rattle.p3l_report.specs.declared.verdict.Finish.TheVariants.{Run}
use Rattle.p3l_report.specs.declared.verdict.Verdict.{Verdict}
use Rattle.p3l_report.specs.declared.verdict.Verdict.TheVariants as verdict
use Rattle.p3l_run.specs.declared.end.RunStats.{RunStats}
use Rattle.p3l_run.specs.declared.keeping.Keeping.{Keeping}
use Rattle.p3l_run.specs.declared.run.Ran.{Ran}
use Rattle.p3l_run.specs.Network.{Network, course_of, goes_on, meaning_of, picks_of, size_of, width_of}
use Rattle.p3l_run.specs.Run.{Finishes, MayCome, MayFollow, Starts}
use Rattle.p3l_run.specs.Timed.{AreTimed, BeginTimed}
use Rattle.p3l_sched.specs.declared.schedule.Schedule.TheVariants as schedule
use Rattle.p3l_stream.specs.declared.items.Ending.TheVariants as ending
use Rattle.p3l_stream.specs.Items.{items_of}
use Rattle.p3l_stream.specs.Text.{text_of}
use Rattle.p3l_timed.specs.Clock.{Clock, IsBusiest}
use Rattle.p3l_timed.specs.Laws.{IsWithinBusy}
use Rattle.p3l_timed.specs.Price.{price_at, prices_of}
use Rattle.p3l_timed.specs.Timed.{busy_of, finish_of}
use Rattle.p3l_cost.specs.Costs.{AreCostsOf}
use Rattle.p3l_program.specs.declared.plan.Linked.{Linked}
use Rattle.p3l_program.specs.Behavior.{Behavior}
use Rattle.p3l_program.specs.Expected.{IsExpectedWith}
use Rattle.p3l_program.specs.Load.{LoadsNetwork}
use Rattle.p3l_program.specs.Origin.{built}
use Rattle.p3l_program.specs.Picks.{ArePicksSaved, IsPicking}
use Rattle.p3l_program.specs.Plan.{HasNetwork, network_in}
use Rattle.p3l_program.specs.Run.{IsRunNot, keeping_for, run_status, seen_of}
use Rattle.p3l_program.specs.Saved.{KeepsFiles}
use Rattle.p3l_program.specs.Stage.{build_stages}
use Rattle.p3l_program.specs.World.{World}

-- the network that files and words request, and the prices of its processes by the costs that files and words request
pub record HasPrices (files : Option Held) (build : Build) (n : Network) (prices : List ℕ) : Type 0 where
  pub network : HasNetwork files (built build) n
  pub prices_are : prices ≡ prices_of n.tree network.is.cs n.net

-- THE RUN IN VIRTUAL TIME, to its end, of a network at these prices on an input and an output: it is the run under these picks as if
-- they had been recorded, on the items that the stream gave and whatever may still come after them. They are the picks of the timed
-- run, each is made, no process can fire after them; and it lasts no less than any process is busy, and no more than all are
pub record RunsInTime (n : Network) (prices : List ℕ) (input out : Change (List ℕ)) (keeping : Keeping) (picks : List ℕ) (ran : Ran) : Type 0 where
  pub few : size_of n ≤ 1048576
  pub finishes : Finishes n (schedule.Recorded picks) keeping input out ran
  pub timed : (later : List (List ℤ)) → MayCome n finishes.close later → AreTimed n prices (finishes.items ++ later) picks
  pub made : (later : List (List ℤ)) → MayCome n finishes.close later → picks_of n (schedule.Recorded picks) (finishes.items ++ later) ≡ picks
  pub over : (later : List (List ℤ)) → MayCome n finishes.close later → goes_on n (course_of n (schedule.Recorded picks) (finishes.items ++ later)) ≡ false
  pub within : (later : List (List ℤ)) → MayCome n finishes.close later → IsWithinBusy n.tree n.leaf n.net (price_at prices) (finishes.items ++ later) picks

-- process p was busy longest under these picks, and it is the first of those
pub record IsBusiestOf (n : Network) (prices picks : List ℕ) (p : ℕ) : Type 0 where
  pub there : p < size_of n
  pub most : (q : ℕ) → busy_of (price_at prices) picks q ≤ busy_of (price_at prices) picks p
  pub first : (q : ℕ) → q < p → busy_of (price_at prices) picks q < busy_of (price_at prices) picks p

-- THE NUMBERS of such a run: how many items were sent, and how often processes fired, the moment of the last firing, and the process
-- that was busy longest with how long it was
pub record AreTimes (n : Network) (prices : List ℕ) (input out : Change (List ℕ)) (keeping : Keeping) (picks : List ℕ) (ran : Ran) (runs : RunsInTime n prices input out keeping picks ran) (report : Option Stats) : Type 0 where
  pub moment : ℕ
  pub moment_is : (later : List (List ℤ)) → MayCome n runs.finishes.close later → moment ≡ finish_of n.tree n.leaf n.net (price_at prices) (runs.finishes.items ++ later) picks
  pub p : ℕ
  pub busiest : IsBusiestOf n prices picks p
  pub report_is : report ≡ Some (stats.Timed ran.stats.items ran.stats.fired moment p (busy_of (price_at prices) picks p))

-- a network was run in virtual time to this end, with these numbers, and its picks were written where a file is named for them
pub record TimesTo (n : Network) (prices : List ℕ) (files : Change Held) (input out : Change (List ℕ)) (name : Option (List ℕ)) (finish : Finish) (report : Option Stats) : Type 0 where
  pub picks : List ℕ
  pub ran : Ran
  pub runs : RunsInTime n prices input out (keeping_for name) picks ran
  pub finish_is : finish ≡ Run ran.finish
  pub numbers : AreTimes n prices input out (keeping_for name) picks ran runs report
  pub saved : ArePicksSaved files name picks

-- or to some end, whatever became of its picks
pub record IsTimeOver (n : Network) (prices : List ℕ) (input out : Change (List ℕ)) : Type 0 where
  pub keeping : Keeping
  pub picks : List ℕ
  pub ran : Ran
  pub runs : RunsInTime n prices input out keeping picks ran

-- or a prefix of the text of its meaning was written, and of what the network emits under picks with which the timed run begins, of the
-- items that the stream gave and whatever may still come after them
pub record IsTimeBegun (n : Network) (prices : List ℕ) (input out : Change (List ℕ)) : Type 0 where
  pub picks : List ℕ
  pub starts : Starts n (schedule.Recorded picks) input out
  pub begins : (later : List (List ℤ)) → MayFollow n starts.closed later → BeginTimed n prices (starts.items ++ later) picks

-- the network that files and words request was run in virtual time to this end
pub record EndsTime (w : World) (build : Build) (name : Option (List ℕ)) (finish : Finish) (report : Option Stats) : Type 0 where
  pub n : Network
  pub prices : List ℕ
  pub has : HasPrices w.files.old.content build n prices
  pub to : TimesTo n prices w.files w.input w.output name finish report

pub record TimesOver (w : World) (build : Build) : Type 0 where
  pub n : Network
  pub prices : List ℕ
  pub has : HasPrices w.files.old.content build n prices
  pub over : IsTimeOver n prices w.input w.output

pub record BeginsTime (w : World) (build : Build) : Type 0 where
  pub n : Network
  pub prices : List ℕ
  pub has : HasPrices w.files.old.content build n prices
  pub begun : IsTimeBegun n prices w.input w.output

-- the file of its picks could not be written, when it was over
abbrev pub UnsavedTime : World → Build → Option (List ℕ) → Type 0
UnsavedTime w build None = ⊥
UnsavedTime w build (Some name) = TimesOver w build × HasSameFaults w.output × HasFailed w.files name

-- over an input and an output that report: the whole input was taken, each of its lines is an item or has no words, the whole text of the
-- meaning of its items was written, and the picks are those of the timed run on them
pub record TimesWhole (w : World) (build : Build) (name : Option (List ℕ)) (rest taken : List ℕ) : Type 0 where
  pub n : Network
  pub prices : List ℕ
  pub has : HasPrices w.files.old.content build n prices
  pub picks : List ℕ
  pub timed : AreTimed n prices (items_of (width_of n) rest).items picks
  pub input_ended : w.input.new.content ≡ Some []
  pub all_items : (items_of (width_of n) rest).ending ≡ ending.End
  pub taken_is : w.output.new.content ≡ Some (taken ++ text_of (meaning_of n (items_of (width_of n) rest).items))
  pub saved : ArePicksSaved w.files name picks

-- the run in virtual time of what is seen of an input is expected to end with this status
pub record IsTimeStatus (w : World) (build : Build) (rest : List ℕ) (k : ℕ) : Type 0 where
  pub n : Network
  pub prices : List ℕ
  pub has : HasPrices w.files.old.content build n prices
  pub picks : List ℕ
  pub timed : AreTimed n prices (seen_of (width_of n) rest).items picks
  pub status_is : k ≡ run_status n (schedule.Recorded picks) rest

-- it is run on the input in virtual time, and its picks are written where a file is named for them
abbrev pub time_behavior : Build → Option (List ℕ) → Behavior
time_behavior build name = record {
  stages = build_stages build;
  written = option_to_list name;
  saved_first = [];
  run = None;
  Ends = λ w finish report. EndsTime w build name finish report;
  Begins = λ w. BeginsTime w build;
  Unsaved = λ w. UnsavedTime w build name;
  Touches = λ w. TimesOver w build;
  IsWhole = λ w rest taken. TimesWhole w build name rest taken;
  IsStatusExpected = λ w rest k. IsTimeStatus w build rest k;
}

-- a verdict is expected of the command
abbrev pub IsTimeExpected : World → Build → Option (List ℕ) → Verdict → Type 0
IsTimeExpected w build name v = IsExpectedWith w (build_stages build) (EndsTime w build name) (BeginsTime w build) (UnsavedTime w build name) v

-- a network was loaded with its costs
pub record LoadsLinked (files : Option Held) (build : Build) (linked : Linked) : Type 0 where
  pub network : LoadsNetwork files (built build) (network_in linked.network)
  pub priced : HasPrices files build (network_in linked.network) (prices_of linked.network.tree linked.costs linked.network.net)
  pub lawful : AreCostsOf linked.network.tree linked.costs

-- the numbers of a run are reported by its timer
pub record AreReported (numbers : RunStats) (k : Clock) (report : Option Stats) : Type 0 where
  pub p : ℕ
  pub there : p < length k.prices
  pub busiest : IsBusiest k.busy p
  pub report_is : report ≡ Some (stats.Timed numbers.items numbers.fired k.moment p (slice_index k.busy p))

-- the report of a run that came to its end, after its picks were written if a file is named for them
abbrev pub IsTimeClosed : Change Held → Ran → Clock → Option (List ℕ) → Verdict → Type 0
IsTimeClosed files ran k name (verdict.Ended finish report) = (finish ≡ Run ran.finish) × AreReported ran.stats k report × IsPicking files name ran.lines (Ok tt)
IsTimeClosed files ran k name v = IsPicking files name ran.lines (Err v)

-- the file of its picks could not be written, when it was over
abbrev pub IsUnsavedTime : Network → List ℕ → Change Held → Change (List ℕ) → Change (List ℕ) → Option (List ℕ) → Type 0
IsUnsavedTime n prices files input out None = ⊥
IsUnsavedTime n prices files input out (Some name) = IsTimeOver n prices input out × HasSameFaults out × HasFailed files name

-- the end of the run of a network in virtual time
abbrev pub IsTimeOf : Network → List ℕ → Change Held → Change (List ℕ) → Change (List ℕ) → Option (List ℕ) → Verdict → Type 0
IsTimeOf n prices files input out name (verdict.Refused refused) = ⊥
IsTimeOf n prices files input out name (verdict.Ended finish report) = TimesTo n prices files input out name finish report × HasSameFaults files × HasSameFaults out
IsTimeOf n prices files input out name verdict.WriteFault = (IsTimeBegun n prices input out × HasSameFaults files × HasRisen out) ⊎ IsUnsavedTime n prices files input out name
IsTimeOf n prices files input out name verdict.NoMemory = IsRunNot files input out ⊎ IsTimeBegun n prices input out

-- the files that it changes: that of the picks alone, when it is over
pub record KeepsTime (n : Network) (prices : List ℕ) (files : Change Held) (input out : Change (List ℕ)) (name : Option (List ℕ)) (v : Verdict) : Type 0 where
  pub kept : KeepsFiles files (option_to_list name) v
  pub over : HasSameContent files ⊎ IsTimeOver n prices input out
