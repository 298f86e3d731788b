-- Why bytes are no snapshot.
use Rattle.std.specs.Prelude.{◌≡◌, ◌-◌, ℕ, List, length, Result, Ok, Err}
use Rattle.p3l_format.specs.declared.fault.FieldFault.{FieldFault}
use Rattle.p3l_resume.specs.declared.saved.Saved.{Saved}
use Rattle.p3l_resume.specs.declared.saved.ShotRefusal.{ShotRefusal}
use Rattle.p3l_resume.specs.declared.saved.ShotRefusal.TheVariants as refusals
use Rattle.p3l_base.specs.Memory.{Refused}

-- the place of the first fault
abbrev pub refusal_of : List ℕ → FieldFault → ShotRefusal
refusal_of bytes fault = refusals.BadShot (length bytes - fault.left)

-- the answer of reading, with its fault as a refusal
abbrev pub answer_of : List ℕ → Result Saved FieldFault → Result Saved ShotRefusal
answer_of bytes (Ok saved) = Ok saved
answer_of bytes (Err fault) = Err (refusal_of bytes fault)

-- a call answered what reading gives, unless memory ran out
abbrev pub Answers : List ℕ → Result Saved ShotRefusal → Result Saved FieldFault → Type 0
Answers bytes (Err refusals.NoMemory) read = Refused
Answers bytes answer read = answer ≡ answer_of bytes read
