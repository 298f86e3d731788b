-- The command `check-trace`: a trace of a file, checked against the run of a program on the input.
use Rattle.std.specs.Prelude.{◌≡◌, ◌≢◌, ℕ, ℤ, Bool, false, nat_le, List, ◌++◌, [], ◌∷◌, length, ◌⊎◌, Option, Some, None, codes, if◌then◌else◌}
use Rattle.std.specs.Fmt.{decimal}
use Rattle.p3l_io.specs.Change.{Change, HasRisen, HasSameFaults, IsStill}
use Rattle.p3l_io.specs.Content.{Held}
use Rattle.p3l_opts.specs.declared.command.Build.{Build}
use Rattle.p3l_report.specs.declared.evidence.Evidence.TheVariants as evidence
use Rattle.p3l_report.specs.declared.stats.Stats.{Stats}
use Rattle.p3l_report.specs.declared.verdict.Finish.{Finish}
use Rattle.p3l_report.specs.declared.verdict.Finish.TheVariants as finish
use Rattle.p3l_report.specs.declared.verdict.Refusal.{Refusal}
use Rattle.p3l_report.specs.declared.verdict.Refusal.TheVariants as refusal
use Rattle.p3l_report.specs.declared.verdict.Verdict.{Verdict}
use Rattle.p3l_report.specs.declared.verdict.Verdict.TheVariants as verdict
use Rattle.p3l_report.specs.Status as status
use Rattle.p3l_report.specs.Verdict.{ending_status}
use Rattle.p3l_run.specs.declared.end.RunEnd.TheVariants as end
use Rattle.p3l_run.specs.Retraced.{AgreesOn, DiffersOn, sent_before_last}
use Rattle.p3l_run.specs.Network.{Network, begun_with, width_of}
use Rattle.p3l_run.specs.Write.{HasBegun, HasPut}
use Rattle.p3l_stream.specs.declared.items.Ending.{Ending}
use Rattle.p3l_stream.specs.declared.items.Ending.TheVariants as ending
use Rattle.p3l_stream.specs.declared.items.Items.{Items}
use Rattle.p3l_stream.specs.Items.{items_of}
use Rattle.p3l_trace.specs.declared.trace.Traced.{Traced}
use Rattle.p3l_trace.specs.declared.trace.TraceRefusal.TheVariants as trace
use Rattle.p3l_trace.specs.Agreement.{Agrees, DiffersAt, picks_of}
use Rattle.p3l_program.specs.Behavior.{Behavior}
use Rattle.p3l_program.specs.Expected.{IsExpectedWith}
use Rattle.p3l_program.specs.Plan.{HasNetwork}
use Rattle.p3l_program.specs.Origin.{built}
use Rattle.p3l_program.specs.Run.{IsRunNot, seen_of}
use Rattle.p3l_program.specs.Stage.{FilesCause, Refuses, Stage, build_stages, readable, traced}
use Rattle.p3l_program.specs.TraceFile.{HasNoTrace, HasTrace, trace_limit}
use Rattle.p3l_program.specs.World.{World, world}

-- trace holds: F fired, I idle
abbrev pub holds_line : Traced → List ℕ
holds_line t = codes "trace holds: " ++ (decimal t.fired ++ (codes " fired, " ++ (decimal t.idle ++ codes " idle\n")))

-- the network and the trace that files and words request
pub record HasCheck (files : Option Held) (build : Build) (name : List ℕ) (n : Network) (t : Traced) : Type 0 where
  pub network : HasNetwork files (built build) n
  pub trace : HasTrace files name t

-- the trace is that of a run on the items that the input gave before it ended so, if it did
abbrev pub AgreesHere : World → Network → Traced → Option Ending → Type 0
AgreesHere w n t close = AgreesOn n t w.input close

-- the input was not refused as far as it was requested
abbrev pub IsUnrefused : Option Ending → Type 0
IsUnrefused close = (close ≡ None) ⊎ (close ≡ Some ending.End)

-- the trace is that of a run, and the line of its counts was written
pub record Agreed (w : World) (n : Network) (t : Traced) : Type 0 where
  pub close : Option Ending
  pub unrefused : IsUnrefused close
  pub agrees : AgreesHere w n t close
  pub put : HasPut w.output (holds_line t)

-- no line differs, and the input ended so, which is not its end
pub record StopsSo (w : World) (n : Network) (t : Traced) (close : Ending) : Type 0 where
  pub other : close ≢ ending.End
  pub agrees : AgreesHere w n t (Some close)
  pub output : IsStill w.output

-- the line of this number is the first that differs
pub record DiffersSo (w : World) (n : Network) (t : Traced) (line : ℕ) : Type 0 where
  pub differs : DiffersOn n t w.input line
  pub output : IsStill w.output

-- the end of the check
abbrev pub IsChecked : World → Network → Traced → Finish → Type 0
IsChecked w n t finish.Done = Agreed w n t
IsChecked w n t (finish.Run (end.Stream close)) = StopsSo w n t close
IsChecked w n t (finish.Differs line) = DiffersSo w n t line
IsChecked w n t f = ⊥

-- the trace was checked, to this end
pub record EndsTrace (w : World) (build : Build) (name : List ℕ) (finish : Finish) (stats : Option Stats) : Type 0 where
  pub n : Network
  pub t : Traced
  pub has : HasCheck w.files.old.content build name n t
  pub stats_are : stats ≡ None
  pub checked : IsChecked w n t finish

-- a prefix of the line was written, of which the trace is that of a run
pub record WritesSome (w : World) (n : Network) (t : Traced) : Type 0 where
  pub close : Option Ending
  pub agrees : AgreesHere w n t close
  pub begun : HasBegun w.output (holds_line t)

-- a trace was there, and nothing was written, or a prefix of the line
pub record BeginsTrace (w : World) (build : Build) (name : List ℕ) : Type 0 where
  pub n : Network
  pub t : Traced
  pub has : HasCheck w.files.old.content build name n t
  pub begun : IsStill w.output ⊎ WritesSome w n t

-- over an input and an output that report: the trace is that of a run on all items of the input, and the line was written
pub record ChecksWhole (w : World) (build : Build) (name rest taken : List ℕ) : Type 0 where
  pub n : Network
  pub t : Traced
  pub has : HasCheck w.files.old.content build name n t
  pub agrees : Agrees n.tree n.leaf n.net (begun_with n (items_of (width_of n) rest).items) t
  pub taken_is : w.output.new.content ≡ Some (taken ++ holds_line t)

-- returns true exactly if a stream of these items ends, of which one is requested before each of these picks where the inbox is
-- empty, and at no other time: all items were sent before the last of the picks
abbrev pub comes_to_end : Network → List (List ℤ) → List ℕ → Bool
comes_to_end n items [] = false
comes_to_end n items (p ∷ picks) = nat_le (length items) (sent_before_last n items (p ∷ picks))

-- the status of a check on what is seen of an input, where no line differs: how that ended, if the check came to its end
abbrev pub agreed_status : Network → Traced → Items → ℕ
agreed_status n t seen = if comes_to_end n seen.items (picks_of t.lines) then ending_status seen.ending else status.done

-- the status of a check on what is seen of an input: that of evidence exactly where a line differs
abbrev pub IsCheckStatus : Network → Traced → Items → ℕ → Type 0
IsCheckStatus n t seen k =
    ((k ≡ status.evidence) × ((line : ℕ) × DiffersAt n.tree n.leaf n.net (begun_with n seen.items) t line))
    ⊎ ((k ≡ agreed_status n t seen) × Agrees n.tree n.leaf n.net (begun_with n seen.items) t)

-- the check is expected to end with this status
pub record IsTraceStatus (w : World) (build : Build) (name rest : List ℕ) (k : ℕ) : Type 0 where
  pub n : Network
  pub t : Traced
  pub has : HasCheck w.files.old.content build name n t
  pub status_is : IsCheckStatus n t (seen_of (width_of n) rest) k

-- the stages of `check-trace`: the program is built, and the file has a trace
abbrev pub check_stages : Build → List ℕ → List Stage
check_stages build name = build_stages build ++ (readable trace_limit name ∷ (traced name ∷ []))

-- the trace of a file is checked against the run of a program on the input
abbrev pub check_behavior : Build → List ℕ → Behavior
check_behavior build name = record {
  stages = check_stages build name;
  written = [];
  saved_first = [];
  run = None;
  Ends = λ w finish stats. EndsTrace w build name finish stats;
  Begins = λ w. BeginsTrace w build name;
  Unsaved = λ w. ⊥;
  Touches = λ w. Unit {0};
  IsWhole = λ w rest taken. ChecksWhole w build name rest taken;
  IsStatusExpected = λ w rest n. IsTraceStatus w build name rest n;
}

-- a verdict is expected of the command
abbrev pub IsCheckExpected : World → Build → List ℕ → Verdict → Type 0
IsCheckExpected w build name v = IsExpectedWith w (check_stages build name) (EndsTrace w build name) (BeginsTrace w build name) ⊥ v

-- a file has no trace
pub record HasBadTrace (files : Change Held) (name : List ℕ) (refused : Refusal) : Type 0 where
  pub line : ℕ
  pub is : refused ≡ refusal.Evidence (evidence.Trace (trace.BadLine line))
  pub none : HasNoTrace files.old.content name line
  pub same_faults : HasSameFaults files

-- why there is no trace
abbrev pub IsUntraced : Change Held → List ℕ → Verdict → Type 0
IsUntraced files name (verdict.Refused refused) = (Refuses files (readable trace_limit name) refused × FilesCause refused files) ⊎ HasBadTrace files name refused
IsUntraced files name verdict.NoMemory = HasSameFaults files
IsUntraced files name v = ⊥

-- the end of a check of which no line differs, by the output and by how the stream ended
abbrev pub AgreedEnd : Change (List ℕ) → Traced → Option Ending → Finish → Type 0
AgreedEnd out t close finish.Done = IsUnrefused close × HasPut out (holds_line t)
AgreedEnd out t close (finish.Run (end.Stream e)) = (close ≡ Some e) × (e ≢ ending.End) × IsStill out
AgreedEnd out t close f = ⊥

abbrev pub IsAgreed : Change (List ℕ) → Traced → Option Ending → Verdict → Type 0
IsAgreed out t close (verdict.Ended f stats) = (stats ≡ None) × HasSameFaults out × AgreedEnd out t close f
IsAgreed out t close verdict.WriteFault = HasBegun out (holds_line t) × HasRisen out
IsAgreed out t close verdict.NoMemory = HasBegun out (holds_line t)
IsAgreed out t close (verdict.Refused refused) = ⊥

-- a trace was checked against a network, to this end
pub record IsCheckTo (n : Network) (files : Change Held) (input out : Change (List ℕ)) (name : List ℕ) (f : Finish) (stats : Option Stats) : Type 0 where
  pub t : Traced
  pub trace : HasTrace files.old.content name t
  pub stats_are : stats ≡ None
  pub checked : IsChecked (world files input out) n t f
  pub same_file_faults : HasSameFaults files
  pub same_output_faults : HasSameFaults out

-- or a prefix of the line was written
pub record IsCheckSome (n : Network) (files : Change Held) (input out : Change (List ℕ)) (name : List ℕ) : Type 0 where
  pub t : Traced
  pub trace : HasTrace files.old.content name t
  pub begun : IsStill out ⊎ WritesSome (world files input out) n t
  pub same_file_faults : HasSameFaults files

-- the end of the check of the trace of a file against a network
abbrev pub IsCheckOf : Network → Change Held → Change (List ℕ) → Change (List ℕ) → List ℕ → Verdict → Type 0
IsCheckOf n files input out name (verdict.Refused refused) = IsUntraced files name (verdict.Refused refused) × IsRunNot files input out
IsCheckOf n files input out name (verdict.Ended f stats) = IsCheckTo n files input out name f stats
IsCheckOf n files input out name verdict.WriteFault = IsCheckSome n files input out name × HasRisen out
IsCheckOf n files input out name verdict.NoMemory = IsRunNot files input out ⊎ IsCheckSome n files input out name
