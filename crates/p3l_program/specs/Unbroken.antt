-- The runs by `resume` of the snapshots that `save` leaves.
use Rattle.std.specs.Prelude.{◌≡◌, ℕ, ℤ, ◌+◌, ◌≤◌, Bool, List, ◌++◌, Option, Some, None}
use Rattle.p3l_base.specs.declared.outcome.Outcome.{Outcome}
use Rattle.p3l_io.specs.Change.{Change, HasFailed}
use Rattle.p3l_io.specs.Content.{Held}
use Rattle.p3l_opts.specs.declared.command.Build.{Build}
use Rattle.p3l_opts.specs.declared.command.Sched.{Sched}
use Rattle.p3l_report.specs.declared.stats.Stats.{Stats}
use Rattle.p3l_report.specs.declared.verdict.Finish.{Finish}
use Rattle.p3l_report.specs.declared.verdict.Finish.TheVariants.{Done}
use Rattle.p3l_report.specs.declared.verdict.Refusal.{Refusal}
use Rattle.p3l_report.specs.declared.verdict.Refusal.TheVariants as refusal
use Rattle.p3l_run.specs.declared.end.RunStats.{RunStats}
use Rattle.p3l_run.specs.Network.{Network, course_under, picks_of}
use Rattle.p3l_run.specs.Run.{MayCome}
use Rattle.p3l_stream.specs.Text.{text_of}
use Rattle.p3l_program.specs.File.{HasText}
use Rattle.p3l_program.specs.Origin.{continued}
use Rattle.p3l_program.specs.Run.{EndsRun}
use Rattle.p3l_program.specs.SaveState.{EndsSave}
use Rattle.p3l_program.specs.Snapshot.{snapshot_limit}
use Rattle.p3l_program.specs.Stage.{AllPass, IsRefusedBy, snapshot_stages}
use Rattle.p3l_program.specs.World.{World}

-- a file that holds the snapshot passes all stages of `resume` that come before its schedule, and where the files report what they hold,
-- none of them refuses it but for a fault of reading
pub record IsResumed (files : Change Held) (name : List ℕ) : Type 0 where
  pub passed : AllPass files (snapshot_stages name)
  pub only : (held : Held) (refused : Refusal) → files.old.content ≡ Some held → IsRefusedBy files (snapshot_stages name) refused →
      (refused ≡ refusal.FileFault name) × HasFailed files name

-- whatever `save` wrote as a snapshot is resumed from any file that holds it, where it is no longer than such files may be
abbrev pub EverySnapshotIsResumed : Type 0
EverySnapshotIsResumed =
    (w : World) (build : Build) (picks output name : List ℕ) (report : Option Stats) (files : Change Held) → (e : EndsSave w build picks output Done report) →
    HasText files.old.content snapshot_limit name e.to.bytes → IsResumed files name

-- TWO PARTS OF A RUN ARE ONE: the network emits on the items of both, under the picks of both, what both emitted; it fired and was idle
-- as often as both together, which is at most what is said of all items that were sent, and their number is that of the second part
pub record AreOneRun (n : Network) (u w : List (List ℤ)) (a b : List ℕ) (first second : List Outcome) (numbers : RunStats) : Type 0 where
  pub emitted : (course_under n (u ++ w) (a ++ b)).state.emitted ≡ first ++ second
  pub text : text_of first ++ text_of second ≡ text_of (course_under n (u ++ w) (a ++ b)).state.emitted
  pub fired : (course_under n (u ++ w) (a ++ b)).fired ≡ (course_under n (u ++ w) a).fired + numbers.fired
  pub idle : (course_under n (u ++ w) (a ++ b)).idle ≡ (course_under n (u ++ w) a).idle + numbers.idle
  pub sent : (course_under n (u ++ w) (a ++ b)).state.sent ≡ numbers.items
  pub bounded : (course_under n (u ++ w) a).fired + numbers.fired ≤ numbers.bound

-- a run that was saved and one that went on from its snapshot are one run, of the program that was saved
pub record IsUnbroken {w after : World} {build : Build} {picks output name : List ℕ} {report stats : Option Stats} {request : Sched} {reported : Bool} {finish : Finish}
    (e : EndsSave w build picks output Done report) (r : EndsRun after (continued name) request None reported finish stats) : Type 0 where
  pub one : (later : List (List ℤ)) → MayCome r.n r.finishes.close later →
      AreOneRun e.n e.to.comes.is.reached.items (r.finishes.items ++ later) e.to.comes.is.reached.used (picks_of r.n r.s (r.finishes.items ++ later))
      e.to.comes.is.reached.outcomes r.finishes.outcomes r.ran.stats

-- so it is wherever `resume` went on from what `save` wrote, in any file that holds it
abbrev pub EveryResumedRunIsUnbroken : Type 0
EveryResumedRunIsUnbroken =
    (w after : World) (build : Build) (picks output name : List ℕ) (report stats : Option Stats) (request : Sched) (reported : Bool) (finish : Finish) (held : Held) →
    (e : EndsSave w build picks output Done report) → (r : EndsRun after (continued name) request None reported finish stats) →
    after.files.old.content ≡ Some held → held name ≡ Some e.to.bytes → IsUnbroken e r
