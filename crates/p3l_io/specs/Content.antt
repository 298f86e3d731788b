-- The effect of calls on the outside on what is known of it. All else stays unknown.
use Rattle.std.specs.Prelude.{◌≡◌, ◌≢◌, ℕ, ◌<◌, ◌≤◌, List, [], ◌++◌, length, take, drop, Option, Some, None, Result, Ok, Err}
use Rattle.p3l_io.specs.Change.{Change, HasBecome}
use Rattle.p3l_io.specs.declared.fault.Failed.{Failed}
use Rattle.p3l_io.specs.declared.fault.FileFault.{FileFault}
use Rattle.p3l_io.specs.declared.fault.FileFault.TheVariants as file
use Rattle.p3l_io.specs.declared.fault.WriteFault.{WriteFault}

-- the first `n` bytes that were left are at the front of the buffer, and are none at the end alone
pub record Took (rest : List ℕ) (new : Option (List ℕ)) (n : ℕ) (buf : List ℕ) : Type 0 where
  pub within : n ≤ length rest
  pub given : take n buf ≡ take n rest
  pub left : new ≡ Some (drop n rest)
  pub ended : n ≡ 0 → rest ≡ []

-- a source loses what it gave, and by a fault nothing
abbrev pub TakesOf : Result ℕ Failed → (buf rest : List ℕ) → Option (List ℕ) → Type 0
TakesOf (Ok n) buf rest new = Took rest new n buf
TakesOf (Err e) buf rest new = new ≡ Some rest

abbrev pub Takes : (source : Change (List ℕ)) → Result ℕ Failed → (buf : List ℕ) → Type 0
Takes source result buf = HasBecome source (TakesOf result buf)

-- a sink gains the whole piece, or by a fault a prefix of it
abbrev pub PutsOf : Result (Unit {0}) Failed → (piece taken : List ℕ) → Option (List ℕ) → Type 0
PutsOf (Ok done) piece taken new = new ≡ Some (taken ++ piece)
PutsOf (Err e) piece taken new = (n : ℕ) × (new ≡ Some (taken ++ take n piece))

abbrev pub Puts : (sink : Change (List ℕ)) → Result (Unit {0}) Failed → (piece : List ℕ) → Type 0
Puts sink result piece = HasBecome sink (PutsOf result piece)

-- the bytes under each name that has some
abbrev pub Held : Type 0
Held = List ℕ → Option (List ℕ)

-- a reading gives the bytes found, if they are within the limit
abbrev pub ReadsFile : Option (List ℕ) → ℕ → Result (List ℕ) FileFault → Type 0
ReadsFile found limit (Ok bytes) = (found ≡ Some bytes) × (length bytes ≤ limit)
ReadsFile found limit (Err file.TooLong) = (bytes : List ℕ) × (found ≡ Some bytes) × (limit < length bytes)
ReadsFile found limit (Err file.Failed) = Unit {0}
ReadsFile found limit (Err file.NoMemory) = Unit {0}

-- a reading changes no file
abbrev pub Reads : (files : Change Held) → (name : List ℕ) → (limit : ℕ) → Result (List ℕ) FileFault → Type 0
Reads files name limit result = HasBecome files (λ held new. (new ≡ Some held) × ReadsFile (held name) limit result)

-- each other name has what it had
abbrev pub KeepsOthers : Held → Held → List ℕ → Type 0
KeepsOthers old new name = (other : List ℕ) → other ≢ name → new other ≡ old other

-- the bytes are under the name, and each other name has what it had
abbrev pub IsPut : Held → Held → List ℕ → List ℕ → Type 0
IsPut old new name bytes = (new name ≡ Some bytes) × KeepsOthers old new name

-- a writing puts the bytes under the name, and touches no other
abbrev pub WritesOf : (name bytes : List ℕ) → Result (Unit {0}) WriteFault → Held → Option Held → Type 0
WritesOf name bytes result old None = ⊥
WritesOf name bytes (Ok done) old (Some new) = IsPut old new name bytes
WritesOf name bytes (Err e) old (Some new) = KeepsOthers old new name

abbrev pub Writes : (files : Change Held) → (name bytes : List ℕ) → Result (Unit {0}) WriteFault → Type 0
Writes files name bytes result = HasBecome files (WritesOf name bytes result)
