-- The traces that runs leave in files.
use Rattle.std.specs.Prelude.{◌≡◌, ℕ, ℤ, true, List, ◌++◌, Option, Some, None, Result, Ok, OnOk}
use Rattle.p3l_io.specs.Change.{Change, IsStill}
use Rattle.p3l_io.specs.Content.{Held}
use Rattle.p3l_run.specs.declared.end.RunStats.{RunStats}
use Rattle.p3l_report.specs.declared.verdict.Verdict.{Verdict}
use Rattle.p3l_run.specs.Network.{Network, begun_with, course_of, picks_of}
use Rattle.p3l_run.specs.Run.{MayCome}
use Rattle.p3l_sched.specs.declared.schedule.Schedule.{Schedule}
use Rattle.p3l_stream.specs.declared.items.Ending.{Ending}
use Rattle.p3l_trace.specs.declared.trace.TraceLine.{TraceLine}
use Rattle.p3l_trace.specs.declared.trace.Traced.{Traced}
use Rattle.p3l_trace.specs.Agreement.{Agrees}
use Rattle.p3l_trace.specs.Agreement as lines
use Rattle.p3l_trace.specs.Text.{trace_format}
use Rattle.p3l_program.specs.Saved.{HasSave, IsSaved}

-- a trace is that of the run on these items under a schedule: its picks are the schedule's, its lines agree with the run, and its
-- counts are the run's
pub record IsRecordOf (n : Network) (s : Schedule) (items : List (List ℤ)) (t : Traced) : Type 0 where
  pub picks : lines.picks_of t.lines ≡ picks_of n s items
  pub agrees : Agrees n.tree n.leaf n.net (begun_with n items) t
  pub fired : t.fired ≡ (course_of n s items).fired
  pub idle : t.idle ≡ (course_of n s items).idle

-- the same of the items that a stream gave, whatever may still come after them
abbrev pub IsRecordOn : Network → Schedule → List (List ℤ) → Option Ending → Traced → Type 0
IsRecordOn n s items close t = (later : List (List ℤ)) → MayCome n close later → IsRecordOf n s (items ++ later) t

-- the file of this name has the text of such a trace, which can be read again
pub record HasRecord (files : Change Held) (name : List ℕ) (IsSuch : Traced → Type 0) : Type 0 where
  pub t : Traced
  pub is : IsSuch t
  pub fits : trace_format.fits t ≡ true
  pub saved : IsSaved files name (trace_format.spell t)

-- the same if a file is named for it
abbrev pub IsRecorded : Change Held → Option (List ℕ) → (Traced → Type 0) → Type 0
IsRecorded files None IsSuch = Unit {0}
IsRecorded files (Some name) IsSuch = HasRecord files name IsSuch

-- the trace of these lines, with the counts of a run
abbrev pub traced_by : List TraceLine → RunStats → Traced
traced_by lines numbers = record { lines = lines; fired = numbers.fired; idle = numbers.idle }

-- the result of writing the lines that were kept to the file that is named for the trace
abbrev pub IsRecording : Change Held → Option (List ℕ) → Option (List TraceLine) → RunStats → Result (Unit {0}) Verdict → Type 0
IsRecording files (Some name) (Some lines) numbers result =
    HasSave files name (trace_format.spell (traced_by lines numbers)) result × OnOk result (trace_format.fits (traced_by lines numbers) ≡ true)
IsRecording files trace lines numbers result = (result ≡ Ok tt) × IsStill files
