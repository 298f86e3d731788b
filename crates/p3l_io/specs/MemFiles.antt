-- Files in memory.
use Rattle.std.specs.Prelude.{◌≡◌, ℕ, ◌<◌, ◌≤◌, List, length, map, Bool, true, false, Option, Some, None, IsSome, Result, Ok, Err, string_bytes, String, if◌then◌else◌}
use Rattle.std.specs.declared.alloc.Global.{Global}
use Rattle.std.specs.Map.{lookup}
use Rattle.std.specs.Str.{bytes_eq}
use Rattle.p3l_io.specs.declared.fault.FileFault.{FileFault}
use Rattle.p3l_io.specs.declared.fault.FileFault.TheVariants as file
use Rattle.p3l_io.specs.declared.fault.WriteFault.{WriteFault}
use Rattle.p3l_io.specs.declared.fault.WriteFault.TheVariants as write
use Rattle.p3l_base.specs.Memory.{Refused}
use Rattle.p3l_io.specs.Calls.{next_count, names_call}
use Rattle.p3l_io.specs.Change.{Observation}
use Rattle.p3l_io.specs.Content.{Held, IsPut}

-- the names with their bytes, the calls that fail, how many calls and faults there were, and the name of the file of the latest fault
pub record FilesState : Type 0 where
  pub files : List (List ℕ × List ℕ)
  pub fails : List ℕ
  pub calls : ℕ
  pub faults : ℕ
  pub failed : Option (List ℕ)

-- the bytes under a name
abbrev pub bytes_under : List (List ℕ × List ℕ) → Held
bytes_under files name = lookup (λ other. bytes_eq name other) files

-- the files as they are observed
abbrev pub observation : FilesState → Observation Held
observation s = record { content = Some (bytes_under s.files); faults = s.faults; failed = s.failed }

-- the next call fails by its number
abbrev pub fails_next : FilesState → Bool
fails_next s = names_call s.fails (next_count s.calls)

-- a reading failed, and a file that is too long or being out of memory is no failure
abbrev pub read_failed : {T : Type 0} → Result T FileFault → Bool
read_failed (Ok bytes) = false
read_failed (Err file.Failed) = true
read_failed (Err file.TooLong) = false
read_failed (Err file.NoMemory) = false

-- a writing failed, and being out of memory is no failure
abbrev pub write_failed : {T : Type 0} → Result T WriteFault → Bool
write_failed (Ok done) = false
write_failed (Err write.Failed) = true
write_failed (Err write.NoMemory) = false

-- a reading fails where it is to fail and nowhere else, unless it is out of memory
abbrev pub ReadFailsIf : {T : Type 0} → Bool → Result T FileFault → Type 0
ReadFailsIf pending (Err file.NoMemory) = Refused
ReadFailsIf pending result = read_failed result ≡ pending

-- and so a writing
abbrev pub WriteFailsIf : {T : Type 0} → Bool → Result T WriteFault → Type 0
WriteFailsIf pending (Err write.NoMemory) = Refused
WriteFailsIf pending result = write_failed result ≡ pending

-- the files after a call of this name that changed none and failed or not
abbrev pub after_call : FilesState → (name : List ℕ) → (failed : Bool) → FilesState
after_call s name failed = record s {
  calls = next_count s.calls;
  faults = if failed then next_count s.faults else s.faults;
  failed = if failed then Some name else s.failed;
}

-- one more call of this name was made, which failed or not
pub record IsCalled (old new : FilesState) (name : List ℕ) (failed : Bool) : Type 0 where
  pub same_fails : new.fails ≡ old.fails
  pub calls : new.calls ≡ next_count old.calls
  pub faults : new.faults ≡ (if failed then next_count old.faults else old.faults)
  pub blames : new.failed ≡ (if failed then Some name else old.failed)

-- the answer of a reading that finds these bytes: a copy within the limit, or why there is none
abbrev pub IsCopy : Option (List ℕ) → ℕ → Result (List ℕ) FileFault → Type 0
IsCopy found limit (Ok bytes) = (found ≡ Some bytes) × (length bytes ≤ limit)
IsCopy found limit (Err file.Failed) = found ≡ None
IsCopy found limit (Err file.TooLong) = (bytes : List ℕ) × (found ≡ Some bytes) × (limit < length bytes)
IsCopy found limit (Err file.NoMemory) = IsSome found × Refused

-- the bytes were put under the name, and no call was made
pub record IsAdded (old new : FilesState) (name bytes : List ℕ) : Type 0 where
  pub put : IsPut (bytes_under old.files) (bytes_under new.files) name bytes
  pub same_fails : new.fails ≡ old.fails
  pub same_calls : new.calls ≡ old.calls
  pub same_faults : new.faults ≡ old.faults
  pub same_failed : new.failed ≡ old.failed

-- the names of a map as bytes
abbrev pub texts : List (String Global × List ℕ) → List (List ℕ × List ℕ)
texts entries = map (λ entry. (string_bytes entry.0, entry.1)) entries
