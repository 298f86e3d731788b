-- Premises of the answers of a command, whatever it does.
use Rattle.std.proofs.Common.{◌≡◌, ◌≢◌, ℕ, true, List, [], ◌∷◌, Option, Some}
use Rattle.p3l_io.specs.Change.{HasRisen, HasSameFaults}
use Rattle.p3l_report.specs.declared.stats.Stats.{Stats}
use Rattle.p3l_report.specs.declared.verdict.Finish.{Finish}
use Rattle.p3l_report.specs.Status as status
use Rattle.p3l_report.specs.Verdict.{finish_status}
use Rattle.p3l_program.specs.Answer.{StopsBy}
use Rattle.p3l_program.specs.Behavior.{Behavior}
use Rattle.p3l_program.specs.Origin.{Running}
use Rattle.p3l_program.specs.Run.{EndsRun}
use Rattle.p3l_program.specs.Saved.{HasOneFailed}
use Rattle.p3l_program.specs.Stage.{Stage, readable}
use Rattle.p3l_program.specs.World.{HasNoFault, World}

-- an end of this status comes only where the count of the input stays
abbrev pub IsFaultlessStatus : ℕ → Type 0
IsFaultlessStatus k = (status.is_end k ≡ true) × (k ≢ status.stopped) × (k ≢ status.trap) × (k ≢ status.read)

pub record Lawful (b : Behavior) : Type 0 where
  -- a command that came to its end was begun
  pub begun : (w : World) (f : Finish) (stats : Option Stats) → b.Ends w f stats → b.Begins w
  -- an end of status 0 is whole
  pub whole : (w : World) (rest taken : List ℕ) (f : Finish) (stats : Option Stats) → w.input.old.content ≡ Some rest →
      w.output.old.content ≡ Some taken → finish_status f ≡ status.done → b.Ends w f stats → b.IsWhole w rest taken
  -- without a fault it ends with the status that is expected
  pub status_expected : (w : World) (rest : List ℕ) (f : Finish) (stats : Option Stats) → w.input.old.content ≡ Some rest →
      HasNoFault w → b.Ends w f stats → b.IsStatusExpected w rest (finish_status f)
  -- a fault of reading is answered where the count of the input rose, and else it stays
  pub read : (w : World) (f : Finish) (stats : Option Stats) → b.Ends w f stats → finish_status f ≡ status.read → HasRisen w.input
  pub same_faults : (w : World) (f : Finish) (stats : Option Stats) → b.Ends w f stats → IsFaultlessStatus (finish_status f) → HasSameFaults w.input
  -- it is stopped only as a run is, at the end of the picks of a file
  pub stopped : (w : World) (f : Finish) (stats : Option Stats) → b.Ends w f stats → finish_status f ≡ status.stopped → StopsBy w b.run
  -- the file that could not be written is one that it writes
  pub writer : (w : World) → b.Unsaved w → HasOneFailed w.files b.written
  -- one that writes files before its work writes files, doesn't read one first, and may touch them then
  pub first_written : b.written ≡ [] → b.saved_first ≡ []
  pub reads_first : (limit : ℕ) (name : List ℕ) (after : List Stage) → b.stages ≡ readable limit name ∷ after → b.saved_first ≡ []
  pub touches : (w : World) → b.saved_first ≢ [] → b.Touches w
  -- the end of a run is that of its network
  pub ran : (w : World) (run : Running) (f : Finish) (stats : Option Stats) → b.run ≡ Some run → b.Ends w f stats →
      EndsRun w run.origin run.schedule run.trace run.reported f stats
