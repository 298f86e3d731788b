-- The effect of reading a file on the bytes that its reader has left, where those are known.
use Rattle.std.specs.Prelude.{◌≡◌, ℕ, ◌+◌, ◌≤◌, List, length, Option, Result, Ok, Err}
use Rattle.std.specs.Io.KnownBytes.{Consumes, IsAtEnd}
use Rattle.p3l_io.specs.declared.fault.FileFault.{FileFault}
use Rattle.p3l_io.specs.declared.fault.FileFault.TheVariants as file
use Rattle.p3l_base.specs.Memory.{Refused}

-- all bytes were read, and they are within the limit; or one byte more than the limit was read, and no other
abbrev pub ReadsWithin : Option (List ℕ) → Option (List ℕ) → ℕ → Result (List ℕ) FileFault → Type 0
ReadsWithin old new limit (Ok bytes) = (length bytes ≤ limit) × Consumes old new bytes × IsAtEnd new
ReadsWithin old new limit (Err file.TooLong) = (bytes : List ℕ) × Consumes old new bytes × (length bytes ≡ limit + 1)
ReadsWithin old new limit (Err file.Failed) = Unit {0}
ReadsWithin old new limit (Err file.NoMemory) = Refused
