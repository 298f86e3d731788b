-- Objects of the outside, as contracts observe them.
use Rattle.std.specs.Prelude.{◌≡◌, ℕ, ◌+◌, ◌-◌, ◌^◌, ◌≤◌, min, List, Option, Some, None}

-- an object as it is observed: its content, where that is known; the count of its failed calls, up to the last value of a `u64`;
-- and the name of the file of the latest such call
pub record Observation (X : Type 0) : Type 0 where
  pub content : Option X
  pub faults : ℕ
  pub failed : Option (List ℕ)

-- a source or a sink as it is observed; it names no file
abbrev pub stream : {X : Type 0} → Option X → ℕ → Observation X
stream content faults = record { content = content; faults = faults; failed = None }

-- an object before and after calls
pub record Change (X : Type 0) : Type 0 where
  pub old : Observation X
  pub new : Observation X

abbrev pub change : {X : Type 0} → Observation X → Observation X → Change X
change old new = record { old = old; new = new }

-- the count is greater than it was, or is at its last value
abbrev pub Rose : ℕ → ℕ → Type 0
Rose before now = min (before + 1) (2 ^ 64 - 1) ≤ now

-- the count of faults rose
abbrev pub HasRisen : {X : Type 0} → Change X → Type 0
HasRisen change = Rose change.old.faults change.new.faults

-- a call on the file of this name failed, and none after it
abbrev pub HasFailed : {X : Type 0} → Change X → (name : List ℕ) → Type 0
HasFailed files name = HasRisen files × (files.new.failed ≡ Some name)

-- the count of faults did not change
abbrev pub HasSameFaults : {X : Type 0} → Change X → Type 0
HasSameFaults change = change.new.faults ≡ change.old.faults

-- the content did not change
abbrev pub HasSameContent : {X : Type 0} → Change X → Type 0
HasSameContent change = change.new.content ≡ change.old.content

-- nothing was taken or put, and no call failed
pub record IsStill {X : Type 0} (change : Change X) : Type 0 where
  pub same_content : HasSameContent change
  pub same_faults : HasSameFaults change

-- content that was known changed as `P` says, and other content stays unknown
abbrev pub Becomes : {X : Type 0} → (P : X → Option X → Type 0) → (old new : Option X) → Type 0
Becomes P None new = new ≡ None
Becomes P (Some old) new = P old new

abbrev pub HasBecome : {X : Type 0} → Change X → (X → Option X → Type 0) → Type 0
HasBecome change P = Becomes P change.old.content change.new.content
