-- The behavior of a command: the stages before its work, the files that it writes, and its ends.
use Rattle.std.specs.Prelude.{ℕ, List, Option}
use Rattle.p3l_report.specs.declared.stats.Stats.{Stats}
use Rattle.p3l_report.specs.declared.verdict.Finish.{Finish}
use Rattle.p3l_report.specs.declared.verdict.Verdict.{Verdict}
use Rattle.p3l_program.specs.Expected.{IsExpectedWith}
use Rattle.p3l_program.specs.Origin.{Running}
use Rattle.p3l_program.specs.Stage.{Stage}
use Rattle.p3l_program.specs.World.{World}

pub record Behavior : Type 1 where
  -- the stages before its work
  pub stages : List Stage
  -- the names of the files that it writes
  pub written : List (List ℕ)
  -- the files that it writes before its work, each a name and its bytes
  pub saved_first : List (List ℕ × List ℕ)
  -- the network that it runs on the input, if it runs one
  pub run : Option Running
  -- it came to this end, with these numbers to be reported
  pub Ends : World → Finish → Option Stats → Type 0
  -- a prefix of what it writes was written
  pub Begins : World → Type 0
  -- a file of it could not be written, and what holds then
  pub Unsaved : World → Type 0
  -- by when it changes a file
  pub Touches : World → Type 0
  -- all that it writes was written, over an input and an output that report
  pub IsWhole : World → (rest taken : List ℕ) → Type 0
  -- it ends with this status where its stages pass and no fault comes
  pub IsStatusExpected : World → (rest : List ℕ) → ℕ → Type 0

-- a verdict is expected of it
abbrev pub IsExpectedBy : World → Behavior → Verdict → Type 0
IsExpectedBy w b v = IsExpectedWith w b.stages (b.Ends w) (b.Begins w) (b.Unsaved w) v
