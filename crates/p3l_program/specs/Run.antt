-- The commands that run a network on the input: of a program, of its scan, of an image, or of a snapshot, from where it was saved.
use Rattle.std.specs.Prelude.{◌≡◌, ◌≢◌, ℕ, ℤ, ◌*◌, Bool, true, false, nat_le, List, [], ◌++◌, ◌⊎◌, length, take, Ok, Err, Option, Some, None, if◌then◌else◌}
use Rattle.std.specs.Option.{option_to_list}
use Rattle.p3l_io.specs.Change.{Change, HasFailed, HasRisen, HasSameContent, HasSameFaults, IsStill}
use Rattle.p3l_io.specs.Content.{Held}
use Rattle.p3l_opts.specs.declared.command.Sched.{Sched}
use Rattle.p3l_opts.specs.declared.command.Sched.TheVariants as sched
use Rattle.p3l_report.specs.declared.stats.Stats.{Stats}
use Rattle.p3l_report.specs.declared.stats.Stats.TheVariants.{Scheduled}
use Rattle.p3l_report.specs.declared.verdict.Finish.{Finish}
use Rattle.p3l_report.specs.declared.verdict.Finish.TheVariants.{Run}
use Rattle.p3l_report.specs.declared.verdict.Refusal.{Refusal}
use Rattle.p3l_report.specs.declared.verdict.Refusal.TheVariants as refusal
use Rattle.p3l_report.specs.declared.verdict.Verdict.{Verdict}
use Rattle.p3l_report.specs.declared.verdict.Verdict.TheVariants as verdict
use Rattle.p3l_report.specs.Status as status
use Rattle.p3l_report.specs.Verdict.{end_status}
use Rattle.p3l_run.specs.declared.keeping.Keeping.{Keeping}
use Rattle.p3l_run.specs.declared.keeping.Keeping.TheVariants as keep
use Rattle.p3l_run.specs.declared.end.RunStats.{RunStats}
use Rattle.p3l_run.specs.declared.run.Ran.{Ran}
use Rattle.p3l_run.specs.Feed.{Gives, closed_so, input_limit}
use Rattle.p3l_run.specs.Network.{Network, course_of, goes_on, meaning_of, picks_of, size_of, width_of}
use Rattle.p3l_run.specs.Run.{Finishes, Starts, finish_of}
use Rattle.p3l_run.specs.Start.{IsWithin}
use Rattle.p3l_run.specs.Write.{HasPut}
use Rattle.p3l_sched.specs.declared.refusal.PickRefusal.TheVariants as picks
use Rattle.p3l_sched.specs.declared.schedule.Schedule.{Schedule}
use Rattle.p3l_sched.specs.declared.schedule.Schedule.TheVariants as schedule
use Rattle.p3l_sched.specs.Picks.{Reads}
use Rattle.p3l_stream.specs.declared.items.Ending.{Ending}
use Rattle.p3l_stream.specs.declared.items.Ending.TheVariants as ending
use Rattle.p3l_stream.specs.declared.items.Items.{Items}
use Rattle.p3l_stream.specs.declared.taken.Cutoff.{Cutoff}
use Rattle.p3l_stream.specs.declared.taken.Cutoff.TheVariants as stop
use Rattle.p3l_stream.specs.Items.{items_of, items_taken}
use Rattle.p3l_stream.specs.Seen.{Seen}
use Rattle.p3l_stream.specs.Text.{text_of}
use Rattle.p3l_program.specs.Behavior.{Behavior}
use Rattle.p3l_program.specs.Expected.{IsExpectedWith}
use Rattle.p3l_program.specs.File.{HasText}
use Rattle.p3l_program.specs.Plan.{HasNetwork}
use Rattle.p3l_program.specs.Origin.{Origin, Running}
use Rattle.p3l_program.specs.Recorded.{IsRecorded, IsRecording, IsRecordOf, IsRecordOn}
use Rattle.p3l_program.specs.Saved.{KeepsFiles}
use Rattle.p3l_program.specs.Scheduled.{HasSchedule, picks_limit}
use Rattle.p3l_program.specs.Stage.{FilesCause, Refuses, readable, run_stages}
use Rattle.p3l_program.specs.World.{World}

-- the numbers of a run, where they are to be reported
abbrev pub shown : Bool → Stats → Option Stats
shown true numbers = Some numbers
shown false numbers = None

-- the lines of a trace are kept where a file is named for it
abbrev pub keeping_for : Option (List ℕ) → Keeping
keeping_for None = keep.Nothing
keeping_for (Some name) = keep.Lines

-- the network and the schedule that files and words request
pub record HasRun (files : Option Held) (origin : Origin) (request : Sched) (n : Network) (s : Schedule) : Type 0 where
  pub network : HasNetwork files origin n
  pub schedule : HasSchedule files (size_of n) request s

-- a network was run to this end, with these numbers, and its trace was written if a file is named for it
pub record EndsRun (w : World) (origin : Origin) (request : Sched) (trace : Option (List ℕ)) (reported : Bool) (finish : Finish) (stats : Option Stats) : Type 0 where
  pub n : Network
  pub s : Schedule
  pub has : HasRun w.files.old.content origin request n s
  pub ran : Ran
  pub finish_is : finish ≡ Run ran.finish
  pub stats_are : stats ≡ shown reported (Scheduled ran.stats)
  pub finishes : Finishes n s (keeping_for trace) w.input w.output ran
  pub recorded : IsRecorded w.files trace (IsRecordOn n s finishes.items finishes.close)

-- it was run to some end, whatever became of its trace
pub record RunsOver (w : World) (origin : Origin) (request : Sched) : Type 0 where
  pub n : Network
  pub s : Schedule
  pub has : HasRun w.files.old.content origin request n s
  pub keeping : Keeping
  pub ran : Ran
  pub finishes : Finishes n s keeping w.input w.output ran

-- the file of its trace could not be written, when it was over
abbrev pub UnsavedRun : World → Origin → Sched → Option (List ℕ) → Type 0
UnsavedRun w origin request None = ⊥
UnsavedRun w origin request (Some name) = RunsOver w origin request × HasSameFaults w.output × HasFailed w.files name

-- it was run, and a prefix of the text of its meaning was written, and of what the network emits under the schedule
pub record BeginsRun (w : World) (origin : Origin) (request : Sched) : Type 0 where
  pub n : Network
  pub s : Schedule
  pub has : HasRun w.files.old.content origin request n s
  pub starts : Starts n s w.input w.output

-- over an input and an output that report: the whole input was taken, each of its lines is an item or has no words, the whole
-- text of the meaning of its items was written, and the trace is that of the run on them
pub record RunsWhole (w : World) (origin : Origin) (request : Sched) (trace : Option (List ℕ)) (rest taken : List ℕ) : Type 0 where
  pub n : Network
  pub s : Schedule
  pub has : HasRun w.files.old.content origin request n s
  pub input_ended : w.input.new.content ≡ Some []
  pub all_items : (items_of (width_of n) rest).ending ≡ ending.End
  pub taken_is : w.output.new.content ≡ Some (taken ++ text_of (meaning_of n (items_of (width_of n) rest).items))
  pub recorded : IsRecorded w.files trace (IsRecordOf n s (items_of (width_of n) rest).items)

-- the text of what the network emits on these items under the schedule was written, and the trace of this run, with these numbers, of
-- which the firings are at most this number for each item that it sent, and those of what was in the net where it began
pub record Emits (w : World) (origin : Origin) (request : Sched) (trace : Option (List ℕ)) (numbers : RunStats) : Type 0 where
  pub n : Network
  pub s : Schedule
  pub has : HasRun w.files.old.content origin request n s
  pub items : List (List ℤ)
  pub put : HasPut w.output (text_of (course_of n s items).state.emitted)
  pub recorded : IsRecorded w.files trace (IsRecordOf n s items)
  pub bounded : IsWithin n.start n.firings numbers.fired numbers.items
  pub bound_is : numbers.bound ≡ numbers.items * n.firings

-- the cutoff of an input without a fault: at its end, or at the limit
abbrev pub stop_of : List ℕ → Cutoff
stop_of rest = if nat_le input_limit (length rest) then stop.Limit else stop.End

-- the items that are seen of an input where no fault comes, and their ending
abbrev pub seen_of : ℕ → List ℕ → Items
seen_of width rest = items_taken width (stop_of rest) (take input_limit rest)

-- the status of a run under a schedule of these items with this ending
abbrev pub status_with : Network → Schedule → Items → ℕ
status_with n s seen = end_status (finish_of n (course_of n s seen.items) seen.ending)

-- the status of a run on an input where no fault comes
abbrev pub run_status : Network → Schedule → List ℕ → ℕ
run_status n s rest = status_with n s (seen_of (width_of n) rest)

-- a run is expected to end with this status, which is that of a stop only if all picks of a file were made
pub record IsRunStatus (w : World) (origin : Origin) (request : Sched) (rest : List ℕ) (k : ℕ) : Type 0 where
  pub n : Network
  pub s : Schedule
  pub has : HasRun w.files.old.content origin request n s
  pub status_is : k ≡ run_status n s rest
  pub stops : k ≡ status.stopped → s ≡ schedule.Recorded (picks_of n s (seen_of (width_of n) rest).items)

-- it was stopped: its picks are those of a file, which are all those of its run on the items that the stream gave, and at their end
-- some process can still fire
pub record StopsRun (w : World) (origin : Origin) (request : Sched) : Type 0 where
  pub n : Network
  pub s : Schedule
  pub has : HasRun w.files.old.content origin request n s
  pub name : List ℕ
  pub by_file : request ≡ sched.File name
  pub stream : Seen
  pub items : List (List ℤ)
  pub close : Option Ending
  pub gives : Gives (width_of n) w.input stream items (closed_so close)
  pub all_made : s ≡ schedule.Recorded (picks_of n s items)
  pub still : goes_on n (course_of n s items) ≡ true

-- it is run on the input under the schedule, and its trace is written where a file is named for it
abbrev pub run_behavior : Running → Behavior
run_behavior run = record {
  stages = run_stages run.origin run.schedule;
  written = option_to_list run.trace;
  saved_first = [];
  run = Some run;
  Ends = λ w finish stats. EndsRun w run.origin run.schedule run.trace run.reported finish stats;
  Begins = λ w. BeginsRun w run.origin run.schedule;
  Unsaved = λ w. UnsavedRun w run.origin run.schedule run.trace;
  Touches = λ w. RunsOver w run.origin run.schedule;
  IsWhole = λ w rest taken. RunsWhole w run.origin run.schedule run.trace rest taken;
  IsStatusExpected = λ w rest n. IsRunStatus w run.origin run.schedule rest n;
}

-- a verdict is expected of the running of it
abbrev pub IsRunExpected : World → Origin → Sched → Option (List ℕ) → Bool → Verdict → Type 0
IsRunExpected w origin request trace reported v = IsExpectedWith w (run_stages origin request) (EndsRun w origin request trace reported) (BeginsRun w origin request) (UnsavedRun w origin request trace) v

-- a text has no picks of this number of processes
abbrev pub IsBadPicks : List ℕ → ℕ → Refusal → Type 0
IsBadPicks text count (refusal.Schedule why) = Reads text count (Err why) × (why ≢ picks.NoMemory)
IsBadPicks text count refused = ⊥

pub record HasBadPicks (files : Change Held) (count : ℕ) (name : List ℕ) (refused : Refusal) : Type 0 where
  pub text : List ℕ
  pub has : HasText files.old.content picks_limit name text
  pub bad : IsBadPicks text count refused
  pub same_faults : HasSameFaults files

-- why there is no schedule
abbrev pub HasNoSchedule : Change Held → ℕ → Sched → Verdict → Type 0
HasNoSchedule files count (sched.File name) (verdict.Refused refused) =
    (Refuses files (readable picks_limit name) refused × FilesCause refused files) ⊎ HasBadPicks files count name refused
HasNoSchedule files count (sched.File name) verdict.NoMemory = HasSameFaults files
HasNoSchedule files count request v = ⊥

-- a network was run under the schedule that is requested, to this end, and its trace was written
pub record IsRunTo (n : Network) (files : Change Held) (input out : Change (List ℕ)) (request : Sched) (trace : Option (List ℕ)) (reported : Bool) (finish : Finish) (stats : Option Stats) : Type 0 where
  pub s : Schedule
  pub schedule : HasSchedule files.old.content (size_of n) request s
  pub ran : Ran
  pub finish_is : finish ≡ Run ran.finish
  pub stats_are : stats ≡ shown reported (Scheduled ran.stats)
  pub finishes : Finishes n s (keeping_for trace) input out ran
  pub recorded : IsRecorded files trace (IsRecordOn n s finishes.items finishes.close)
  pub same_file_faults : HasSameFaults files
  pub same_output_faults : HasSameFaults out

-- or to some end
pub record IsRunOver (n : Network) (files : Change Held) (input out : Change (List ℕ)) (request : Sched) : Type 0 where
  pub s : Schedule
  pub schedule : HasSchedule files.old.content (size_of n) request s
  pub keeping : Keeping
  pub ran : Ran
  pub finishes : Finishes n s keeping input out ran
  pub same_output_faults : HasSameFaults out

-- the file of its trace could not be written, when it was over
abbrev pub IsUnsavedRun : Network → Change Held → Change (List ℕ) → Change (List ℕ) → Sched → Option (List ℕ) → Type 0
IsUnsavedRun n files input out request None = ⊥
IsUnsavedRun n files input out request (Some name) = IsRunOver n files input out request × HasFailed files name

-- or a prefix of the text of its meaning was written
pub record IsRunSome (n : Network) (files : Change Held) (input out : Change (List ℕ)) (request : Sched) : Type 0 where
  pub s : Schedule
  pub schedule : HasSchedule files.old.content (size_of n) request s
  pub starts : Starts n s input out
  pub same_file_faults : HasSameFaults files

-- or nothing was touched
pub record IsRunNot (files : Change Held) (input out : Change (List ℕ)) : Type 0 where
  pub input_still : IsStill input
  pub output_still : IsStill out

-- the report of a run that came to its end, after its trace was written if a file is named for it
abbrev pub IsClosed : Change Held → Ran → Option (List ℕ) → Bool → Verdict → Type 0
IsClosed files ran trace reported (verdict.Ended finish stats) = (finish ≡ Run ran.finish) × (stats ≡ shown reported (Scheduled ran.stats)) × IsRecording files trace ran.lines ran.stats (Ok tt)
IsClosed files ran trace reported v = IsRecording files trace ran.lines ran.stats (Err v)

-- the end of the run of a network under the schedule that is requested
abbrev pub IsRunOf : Network → Change Held → Change (List ℕ) → Change (List ℕ) → Sched → Option (List ℕ) → Bool → Verdict → Type 0
IsRunOf n files input out request trace reported (verdict.Refused refused) = HasNoSchedule files (size_of n) request (verdict.Refused refused) × IsRunNot files input out
IsRunOf n files input out request trace reported (verdict.Ended finish stats) = IsRunTo n files input out request trace reported finish stats
IsRunOf n files input out request trace reported verdict.WriteFault = (IsRunSome n files input out request × HasRisen out) ⊎ IsUnsavedRun n files input out request trace
IsRunOf n files input out request trace reported verdict.NoMemory = IsRunNot files input out ⊎ IsRunSome n files input out request

-- the files that it changes: that of the trace alone, when it is over
pub record KeepsRun (n : Network) (files : Change Held) (input out : Change (List ℕ)) (request : Sched) (trace : Option (List ℕ)) (v : Verdict) : Type 0 where
  pub kept : KeepsFiles files (option_to_list trace) v
  pub over : HasSameContent files ⊎ IsRunOver n files input out request
