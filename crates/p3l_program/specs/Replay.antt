-- The runs by `run` of the picks that `time` leaves.
use Rattle.std.specs.Prelude.{◌≡◌, ℕ, Bool, List, Option, Some}
use Rattle.p3l_io.specs.Change.{HasRisen}
use Rattle.p3l_io.specs.Content.{Held}
use Rattle.p3l_opts.specs.declared.command.Build.{Build}
use Rattle.p3l_opts.specs.declared.command.Sched.TheVariants as sched
use Rattle.p3l_report.specs.declared.stats.Stats.{Stats}
use Rattle.p3l_report.specs.declared.verdict.Finish.{Finish}
use Rattle.p3l_run.specs.Network.{size_of}
use Rattle.p3l_sched.specs.declared.schedule.Schedule.TheVariants.{Recorded}
use Rattle.p3l_program.specs.File.{HasText}
use Rattle.p3l_program.specs.Origin.{built}
use Rattle.p3l_program.specs.Picks.{picks_text}
use Rattle.p3l_program.specs.Plan.{HaveTexts}
use Rattle.p3l_program.specs.Run.{EndsRun}
use Rattle.p3l_program.specs.Scheduled.{HasPicks, picks_limit}
use Rattle.p3l_program.specs.Time.{EndsTime}
use Rattle.p3l_program.specs.World.{World}

-- a run ends as one in virtual time did: its end, the outcomes that it emitted, of which the text is written, and its numbers are the same
pub record EndsAlike {w after : World} {build : Build} {name : List ℕ} {finish other_finish : Finish} {report stats : Option Stats} {trace : Option (List ℕ)} {reported : Bool}
    (e : EndsTime w build (Some name) finish report) (r : EndsRun after (built build) (sched.File name) trace reported other_finish stats) : Type 0 where
  pub finish_is : other_finish ≡ finish
  pub outcomes_are : r.finishes.outcomes ≡ e.to.runs.finishes.outcomes
  pub numbers_are : r.ran.stats ≡ e.to.ran.stats

-- the picks that `time` left in a file within the limit are the schedule that `run` reads there; and if
-- `run` of the same words under them reads files with the same texts of the program and of its costs, and both took an input that
-- reported the same content and didn't fail, it ends alike
pub record IsReplayed {w : World} {build : Build} {name : List ℕ} {finish : Finish} {report : Option Stats} (e : EndsTime w build (Some name) finish report) (held : Held) : Type 0 where
  pub reads : HasPicks (Some held) (size_of e.n) name (Recorded e.to.picks)
  pub alike : (after : World) (trace : Option (List ℕ)) (reported : Bool) (other_finish : Finish) (stats : Option Stats) (rest : List ℕ) →
      (r : EndsRun after (built build) (sched.File name) trace reported other_finish stats) → after.files.old.content ≡ Some held → HaveTexts (Some held) (built build) e.has.network.texts →
      w.input.old.content ≡ Some rest → after.input.old.content ≡ Some rest → (HasRisen w.input → ⊥) → (HasRisen after.input → ⊥) → EndsAlike e r

abbrev pub EveryTimedRunIsReplayed : Type 0
EveryTimedRunIsReplayed =
    (w : World) (build : Build) (name : List ℕ) (finish : Finish) (report : Option Stats) (held : Held) → (e : EndsTime w build (Some name) finish report) →
    HasText (Some held) picks_limit name (picks_text e.to.picks) → IsReplayed e held
