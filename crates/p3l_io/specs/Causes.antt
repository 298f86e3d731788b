-- Answers of calls on the outside, by the counts of faults.
use Rattle.std.specs.Prelude.{◌≡◌, ℕ, ◌≤◌, ◌⊎◌, Bool, true, List, Some, Result, Ok, Err, OnOk, OnErr}
use Rattle.p3l_base.specs.Memory.{Refused}
use Rattle.p3l_io.specs.Change.{Change, HasRisen, HasSameFaults}
use Rattle.p3l_io.specs.Content.{Held}
use Rattle.p3l_io.specs.declared.fault.FileFault.{FileFault}
use Rattle.p3l_io.specs.declared.fault.FileFault.TheVariants as file
use Rattle.p3l_io.specs.declared.fault.WriteFault.{WriteFault}
use Rattle.p3l_io.specs.declared.fault.WriteFault.TheVariants as write

-- the count never falls, an answer Ok leaves it, and a fault raises it
pub record HasCause {X T E : Type 0} (change : Change X) (result : Result T E) : Type 0 where
  pub later : change.old.faults ≤ change.new.faults
  pub same : OnOk result (HasSameFaults change)
  pub failed : OnErr result (HasRisen change)

-- of the reasons not to read a file only a fault raises the count
abbrev pub ReadCause : {T : Type 0} → Change Held → Result T FileFault → Type 0
ReadCause files (Ok bytes) = HasSameFaults files
ReadCause files (Err file.Failed) = HasRisen files
ReadCause files (Err file.TooLong) = HasSameFaults files
ReadCause files (Err file.NoMemory) = HasSameFaults files

-- the count never falls, and a reading raises it exactly by a fault
pub record HasReadCause {T : Type 0} (files : Change Held) (result : Result T FileFault) : Type 0 where
  pub later : files.old.faults ≤ files.new.faults
  pub by : ReadCause files result

-- of the reasons not to write a file only a fault raises the count
abbrev pub WriteCause : {T : Type 0} → Change Held → Result T WriteFault → Type 0
WriteCause files (Ok done) = HasSameFaults files
WriteCause files (Err write.Failed) = HasRisen files
WriteCause files (Err write.NoMemory) = HasSameFaults files

-- the count never falls, and a writing raises it exactly by a fault
pub record HasWriteCause {T : Type 0} (files : Change Held) (result : Result T WriteFault) : Type 0 where
  pub later : files.old.faults ≤ files.new.faults
  pub by : WriteCause files result

-- the name of the file of the latest call that failed did not change
abbrev pub HasSameFailed : Change Held → Type 0
HasSameFailed files = files.new.failed ≡ files.old.failed

-- a reading that fails notes its file's name, and no other answer changes the name that is noted
abbrev pub ReadBlames : {T : Type 0} → Change Held → (name : List ℕ) → Result T FileFault → Type 0
ReadBlames files name (Ok bytes) = HasSameFailed files
ReadBlames files name (Err file.Failed) = files.new.failed ≡ Some name
ReadBlames files name (Err file.TooLong) = HasSameFailed files
ReadBlames files name (Err file.NoMemory) = HasSameFailed files

-- and so a writing
abbrev pub WriteBlames : {T : Type 0} → Change Held → (name : List ℕ) → Result T WriteFault → Type 0
WriteBlames files name (Ok done) = HasSameFailed files
WriteBlames files name (Err write.Failed) = files.new.failed ≡ Some name
WriteBlames files name (Err write.NoMemory) = HasSameFailed files

-- a reading is out of memory only where a request was refused, or where the files may say so of themselves
abbrev pub ReadWants : {T : Type 0} → (may_want : Bool) → Result T FileFault → Type 0
ReadWants may_want (Ok bytes) = Unit {0}
ReadWants may_want (Err file.Failed) = Unit {0}
ReadWants may_want (Err file.TooLong) = Unit {0}
ReadWants may_want (Err file.NoMemory) = Refused ⊎ (may_want ≡ true)

-- and so a writing
abbrev pub WriteWants : {T : Type 0} → (may_want : Bool) → Result T WriteFault → Type 0
WriteWants may_want (Ok done) = Unit {0}
WriteWants may_want (Err write.Failed) = Unit {0}
WriteWants may_want (Err write.NoMemory) = Refused ⊎ (may_want ≡ true)
