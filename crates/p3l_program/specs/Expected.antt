-- Verdicts that are expected: the text written by then, and the counts of faults.
use Rattle.std.specs.Prelude.{List, Option, ◌⊎◌}
use Rattle.p3l_io.specs.Change.{HasRisen, HasSameFaults}
use Rattle.p3l_report.specs.declared.stats.Stats.{Stats}
use Rattle.p3l_report.specs.declared.verdict.Finish.{Finish}
use Rattle.p3l_report.specs.declared.verdict.Refusal.{Refusal}
use Rattle.p3l_report.specs.declared.verdict.Verdict.{Verdict}
use Rattle.p3l_report.specs.declared.verdict.Verdict.TheVariants as verdict
use Rattle.p3l_program.specs.Stage.{AllPass, FilesCause, IsRefusedBy, Stage}
use Rattle.p3l_program.specs.World.{IsUntouched, World}

-- a stage refused, and nothing was touched
pub record IsRefusal (w : World) (stages : List Stage) (refused : Refusal) : Type 0 where
  pub by : IsRefusedBy w.files stages refused
  pub untouched : IsUntouched w
  pub files : FilesCause refused w.files

-- all stages passed, and the command came to its end
pub record IsEnd (w : World) (stages : List Stage) (Ends : Type 0) : Type 0 where
  pub passed : AllPass w.files stages
  pub ends : Ends
  pub files : HasSameFaults w.files
  pub output : HasSameFaults w.output

-- all stages passed, and a prefix was written
pub record IsBegun (w : World) (stages : List Stage) (Begins : Type 0) : Type 0 where
  pub passed : AllPass w.files stages
  pub begins : Begins

-- the output could not be written
pub record IsPutFault (w : World) : Type 0 where
  pub files : HasSameFaults w.files
  pub output : HasRisen w.output

-- writing failed then: of the output, or of a file, by when this much holds
pub record IsWriteFault (w : World) (stages : List Stage) (Begins Unsaved : Type 0) : Type 0 where
  pub begun : IsBegun w stages Begins
  pub fault : IsPutFault w ⊎ Unsaved

-- a verdict is expected of a command with these stages, by what its end, its beginning and a file of it that could not be written mean
abbrev pub IsExpectedWith : World → List Stage → (Finish → Option Stats → Type 0) → (Begins Unsaved : Type 0) → Verdict → Type 0
IsExpectedWith w stages Ends Begins Unsaved (verdict.Refused refused) = IsRefusal w stages refused
IsExpectedWith w stages Ends Begins Unsaved (verdict.Ended finish stats) = IsEnd w stages (Ends finish stats)
IsExpectedWith w stages Ends Begins Unsaved verdict.WriteFault = IsWriteFault w stages Begins Unsaved
IsExpectedWith w stages Ends Begins Unsaved verdict.NoMemory = IsUntouched w ⊎ IsBegun w stages Begins
