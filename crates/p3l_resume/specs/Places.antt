-- Places at which bytes that are no snapshot are at fault, by the fields of snapshots and not by how they are read.
use Rattle.std.specs.Prelude.{◌≡◌, ℕ, List, ◌∷◌, ◌++◌, length, Result, Ok, Err}
use Rattle.p3l_base.specs.Memory.{Refused}
use Rattle.p3l_format.specs.Places.{IsCutOff, NoneIsThere, Piece, texts}
use Rattle.p3l_resume.specs.declared.saved.Saved.{Saved}
use Rattle.p3l_resume.specs.declared.saved.ShotRefusal.{ShotRefusal}
use Rattle.p3l_resume.specs.declared.saved.ShotRefusal.TheVariants as refusals
use Rattle.p3l_resume.specs.Saved.{CanBeWritten, saved_format}
use Rattle.p3l_resume.specs.laws.Places.{placed_saved}

-- the fields of a snapshot's spelling, in order: its bytes, field by field
unfoldable pub saved_fields : Saved → List Piece
saved_fields = placed_saved.fields

-- bytes are refused, at this place, or a request for memory was refused
abbrev pub IsRefusedAt : ℕ → Result Saved ShotRefusal → Type 0
IsRefusedAt place (Ok saved) = ⊥
IsRefusedAt place (Err (refusals.BadShot at)) = at ≡ place
IsRefusedAt place (Err refusals.NoMemory) = Refused

-- Bytes that share fields with a snapshot, and then have no field that a snapshot could have there, are refused at
-- the place of that field; and so are they where they end within the snapshot's next field.
pub record IsAtFirstFault (bytes : List ℕ) (answer : Result Saved ShotRefusal) : Type 0 where
  pub next : (saved : Saved) (fs more : List Piece) (f : Piece) (rest : List ℕ) → CanBeWritten saved
      → saved_fields saved ≡ fs ++ f ∷ more → bytes ≡ texts fs ++ rest → NoneIsThere saved_fields fs rest → IsRefusedAt (length (texts fs)) answer
  pub cut : (saved : Saved) (fs more : List Piece) (f : Piece) (rest : List ℕ) → CanBeWritten saved
      → saved_fields saved ≡ fs ++ f ∷ more → bytes ≡ texts fs ++ rest → IsCutOff rest f.text → IsRefusedAt (length (texts fs)) answer

-- the fields of a snapshot are its bytes
abbrev pub FieldsAreTheBytes : Type 0
FieldsAreTheBytes = (saved : Saved) → texts (saved_fields saved) ≡ saved_format.spell saved
