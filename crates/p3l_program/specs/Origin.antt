-- The networks that commands run.
use Rattle.std.specs.Prelude.{ℕ, Bool, List, Option}
use Rattle.p3l_opts.specs.declared.command.Build.{Build}
use Rattle.p3l_opts.specs.declared.command.Sched.{Sched}

-- a program that is built; the image of the file of this name; the program of the file of this name, scanned in this number of segments
-- through channels that hold this number of tokens; or the image of the snapshot of the file of this name, which goes on from what was
-- saved
pub data Origin : Type 0 where
  built : Build → Origin
  imaged : List ℕ → Origin
  scanned : List ℕ → (segments capacity : ℕ) → Origin
  continued : List ℕ → Origin

-- a run on the input under a schedule, the file that its trace goes to, if there is one, and
-- whether its numbers are reported
pub record Running : Type 0 where
  pub origin : Origin
  pub schedule : Sched
  pub trace : Option (List ℕ)
  pub reported : Bool

abbrev pub running : Origin → Sched → Option (List ℕ) → Bool → Running
running origin schedule trace reported = record { origin = origin; schedule = schedule; trace = trace; reported = reported }
