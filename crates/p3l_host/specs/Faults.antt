-- Faults of the real files.
use Rattle.std.specs.Prelude.{◌≤◌, ℕ, List, Option, None}
use Rattle.p3l_io.specs.Change.{Change, HasFailed, Observation}
use Rattle.p3l_io.specs.Content.{Held}

-- the count of calls that failed, and the name of the file of the latest of them
pub record Faults : Type 0 where
  pub count : ℕ
  pub failed : Option (List ℕ)

-- the files as they are observed
abbrev pub observation : Faults → Observation Held
observation s = record { content = None; faults = s.count; failed = s.failed }

-- a call on the file of this name failed
pub record IsAfterFault (files : Change Held) (name : List ℕ) : Type 0 where
  pub later : files.old.faults ≤ files.new.faults
  pub failed : HasFailed files name
