-- Places at which bytes that are no image are at fault, by the fields of images and not by how they are read.
use Rattle.std.specs.Prelude.{◌≡◌, ℕ, true, List, [], ◌∷◌, ◌++◌, length, Result, Ok, Err}
use Rattle.p3l_base.specs.Memory.{Refused}
use Rattle.p3l_format.specs.Places.{IsCutOff, NoneIsThere, Piece, texts}
use Rattle.p3l_tree_format.specs.declared.version.Version.{Version}
use Rattle.p3l_image.specs.declared.image.Image.{Image}
use Rattle.p3l_image.specs.declared.image.ImageRefusal.{ImageRefusal}
use Rattle.p3l_image.specs.declared.image.ImageRefusal.TheVariants as refusals
use Rattle.p3l_image.specs.Image.{image_format}
use Rattle.p3l_image.specs.laws.Places.{placed_image}

-- the fields of an image's spelling in a version, in order: its bytes, field by field
unfoldable pub image_fields : Version × Image → List Piece
image_fields = placed_image.fields

-- bytes are refused, at this place, or a request for memory was refused
abbrev pub IsRefusedAt : ℕ → Result Image ImageRefusal → Type 0
IsRefusedAt place (Ok image) = ⊥
IsRefusedAt place (Err refusals.BadMagic) = place ≡ 0
IsRefusedAt place (Err (refusals.Version number)) = place ≡ 4
IsRefusedAt place (Err (refusals.Short at)) = at ≡ place
IsRefusedAt place (Err (refusals.BadField at)) = at ≡ place
IsRefusedAt place (Err (refusals.TrailingBytes at)) = at ≡ place
IsRefusedAt place (Err refusals.NoMemory) = Refused

-- the field at this place isn't whole, or a request for memory was refused
abbrev pub IsShortAt : ℕ → Result Image ImageRefusal → Type 0
IsShortAt place (Err (refusals.Short at)) = at ≡ place
IsShortAt place (Err refusals.NoMemory) = Refused
IsShortAt place _ = ⊥

-- Bytes that share fields with an image, and then have no field that an image could have there, are refused at
-- the place of that field; and where they end within the image's next field, it is the field that isn't whole.
pub record IsAtFirstFault (bytes : List ℕ) (answer : Result Image ImageRefusal) : Type 0 where
  pub next : (image : Version × Image) (fs more : List Piece) (f : Piece) (rest : List ℕ) → image_format.fits image ≡ true
      → image_fields image ≡ fs ++ f ∷ more → bytes ≡ texts fs ++ rest → NoneIsThere image_fields fs rest → IsRefusedAt (length (texts fs)) answer
  pub cut : (image : Version × Image) (fs more : List Piece) (f : Piece) (rest : List ℕ) → image_format.fits image ≡ true
      → image_fields image ≡ fs ++ f ∷ more → bytes ≡ texts fs ++ rest → IsCutOff rest f.text → IsShortAt (length (texts fs)) answer

-- the fields of an image are its bytes
abbrev pub FieldsAreTheBytes : Type 0
FieldsAreTheBytes = (image : Version × Image) → texts (image_fields image) ≡ image_format.spell image
