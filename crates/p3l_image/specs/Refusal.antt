-- Refusals of bytes that are not an image.
use Rattle.std.specs.Prelude.{◌≡◌, ℕ, ◌-◌, List, [], ◌∷◌, length, slice_index, Result, Ok, Err, ◌==◌, if◌then◌else◌}
use Rattle.std.specs.Int.{w32, from_be_bytes}
use Rattle.p3l_image.specs.declared.image.Image.{Image}
use Rattle.p3l_image.specs.declared.image.ImageRefusal.{ImageRefusal}
use Rattle.p3l_image.specs.declared.image.ImageRefusal.TheVariants as refusals
use Rattle.p3l_format.specs.declared.fault.FieldFault.{FieldFault}
use Rattle.p3l_format.specs.declared.fault.Cause.{Cause}
use Rattle.p3l_format.specs.declared.fault.Cause.TheVariants.{Short, Range, More}
use Rattle.p3l_base.specs.Memory.{Refused}

-- the number in the four bytes after the magic number
abbrev pub version_at : List ℕ → ℕ
version_at bytes = from_be_bytes w32 (slice_index bytes 4 ∷ slice_index bytes 5 ∷ slice_index bytes 6 ∷ slice_index bytes 7 ∷ [])

-- the refusal for a field that begins at this place
abbrev pub refusal_at : List ℕ → Cause → ℕ → ImageRefusal
refusal_at bytes Short place = refusals.Short place
refusal_at bytes More place = refusals.TrailingBytes place
refusal_at bytes Range place =
    if place == 0 then refusals.BadMagic else (if place == 4 then refusals.Version (version_at bytes) else refusals.BadField place)

abbrev pub refusal_of : List ℕ → FieldFault → ImageRefusal
refusal_of bytes fault = refusal_at bytes fault.cause (length bytes - fault.left)

-- the answer of reading, with its fault as a refusal
abbrev pub answer_of : List ℕ → Result Image FieldFault → Result Image ImageRefusal
answer_of bytes (Ok image) = Ok image
answer_of bytes (Err fault) = Err (refusal_of bytes fault)

-- a call answered what reading gives, unless out of memory
abbrev pub Answers : List ℕ → Result Image ImageRefusal → Result Image FieldFault → Type 0
Answers bytes (Err refusals.NoMemory) read = Refused
Answers bytes answer read = answer ≡ answer_of bytes read
