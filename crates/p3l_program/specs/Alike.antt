-- The runs by `exec` of the images that `compile` writes.
use Rattle.std.specs.Prelude.{◌≡◌, ◌↔◌, ℕ, Bool, List, Option, Some}
use Rattle.p3l_io.specs.Content.{Held}
use Rattle.p3l_opts.specs.declared.command.Build.{Build}
use Rattle.p3l_opts.specs.declared.command.Sched.{Sched}
use Rattle.p3l_report.specs.declared.stats.Stats.{Stats}
use Rattle.p3l_run.specs.declared.end.RunStats.{RunStats}
use Rattle.p3l_report.specs.declared.verdict.Finish.{Finish}
use Rattle.p3l_run.specs.Network.{Network}
use Rattle.p3l_program.specs.Compile.{IsImageOf}
use Rattle.p3l_program.specs.File.{HasText}
use Rattle.p3l_program.specs.Image.{image_limit}
use Rattle.p3l_program.specs.Plan.{HasNetwork}
use Rattle.p3l_program.specs.Origin.{built, imaged}
use Rattle.p3l_program.specs.Run.{BeginsRun, Emits, EndsRun, IsRunStatus, RunsOver, RunsWhole}
use Rattle.p3l_program.specs.World.{World}

-- an image that was made of a program, and is no longer than images may be, has the network of the program, wherever it lies
abbrev pub EveryImageHasItsProgramsNetwork : Type 0
EveryImageHasItsProgramsNetwork =
    (held others : Held) (build : Build) (name bytes : List ℕ) → IsImageOf (Some held) build bytes → HasText (Some others) image_limit name bytes →
    (n : Network) → HasNetwork (Some others) (imaged name) n ↔ HasNetwork (Some held) (built build) n

-- the running of an image and that of a program are expected to end the same way: the same ends with the same numbers, texts, traces and statuses
pub record RunsAlike (w : World) (name : List ℕ) (build : Build) (request : Sched) : Type 0 where
  pub ends : (trace : Option (List ℕ)) (reported : Bool) (finish : Finish) (stats : Option Stats) → EndsRun w (imaged name) request trace reported finish stats ↔ EndsRun w (built build) request trace reported finish stats
  pub begins : BeginsRun w (imaged name) request ↔ BeginsRun w (built build) request
  pub over : RunsOver w (imaged name) request ↔ RunsOver w (built build) request
  pub whole : (trace : Option (List ℕ)) (rest taken : List ℕ) → RunsWhole w (imaged name) request trace rest taken ↔ RunsWhole w (built build) request trace rest taken
  pub status : (rest : List ℕ) (k : ℕ) → IsRunStatus w (imaged name) request rest k ↔ IsRunStatus w (built build) request rest k
  pub emits : (trace : Option (List ℕ)) (numbers : RunStats) → Emits w (imaged name) request trace numbers ↔ Emits w (built build) request trace numbers

-- a law of images: if files hold a program and its image, `exec` of the image is expected to do the same as `run` of the program
abbrev pub EveryImageRunsAsItsProgram : Type 0
EveryImageRunsAsItsProgram =
    (w : World) (held : Held) (build : Build) (name bytes : List ℕ) (request : Sched) → w.files.old.content ≡ Some held →
    IsImageOf (Some held) build bytes → HasText (Some held) image_limit name bytes → RunsAlike w name build request
