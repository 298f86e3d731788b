-- Places at which bytes are at fault, by the fields of spellings and not by how they are read.
use Rattle.std.specs.Prelude.{◌≡◌, ◌≤◌, ℕ, Bool, true, List, [], ◌∷◌, ◌++◌, length, Err}
use Rattle.p3l_format.specs.declared.fault.Cause.TheVariants.{Short}
use Rattle.p3l_format.specs.declared.fault.FieldFault.{FieldFault}
use Rattle.p3l_format.specs.Format.{Format, fault_at}
use Rattle.p3l_format.specs.Lawful.{IsLawful}

-- a field of a value's spelling: its bytes, and whether it is in its range
pub record Piece : Type 0 where
  pub text : List ℕ
  pub right : Bool

-- the bytes of fields, one after the other
abbrev pub texts : List Piece → List ℕ
texts [] = []
texts (f ∷ fs) = f.text ++ texts fs

-- bytes are the beginning of a text, and not all of it
abbrev pub IsCutOff : List ℕ → List ℕ → Type 0
IsCutOff part whole = (b : ℕ) × (more : List ℕ) × (whole ≡ part ++ b ∷ more)

-- after these fields no value has one that is in its range and that the bytes begin with
abbrev pub NoneIsThere : {A : Type 0} → (A → List Piece) → List Piece → List ℕ → Type 0
NoneIsThere {A = A} fields fs rest =
    (w : A) (g : Piece) (more : List Piece) (after : List ℕ) → fields w ≡ fs ++ g ∷ more → g.right ≡ true → rest ≡ g.text ++ after → ⊥

-- bytes are refused, and the field that is at fault begins where this many are left
pub record FailsAt {A : Type 0} (format : Format ℕ A) (s : List ℕ) (left : ℕ) : Type 0 where
  pub fault : FieldFault
  pub refused : format.read s ≡ Err fault
  pub place : fault.left ≡ left

-- A fault is placed by the fields of spellings: those that the bytes share with a value that fits are not
-- at fault; the next one is, where no value has one there that is in its range and whole; and it isn't
-- whole where the bytes end within that of the value.
pub record IsPlaced {A : Type 0} (format : Format ℕ A) : Type 0 where
  pub law : IsLawful format
  -- the fields of a value, which are its spelling
  pub fields : A → List Piece
  pub joined : (v : A) → texts (fields v) ≡ format.spell v
  -- some value, whether it fits or not
  pub some : A
  -- a fault begins within the bytes, or at their end
  pub inside : (s : List ℕ) (fault : FieldFault) → format.read s ≡ Err fault → fault.left ≤ length s
  -- not before the fields that the bytes share with a value
  pub shared : (v : A) (fs more : List Piece) (rest : List ℕ) (fault : FieldFault) → format.fits v ≡ true → fields v ≡ fs ++ more
      → format.read (texts fs ++ rest) ≡ Err fault → fault.left ≤ length rest
  -- at the next field, if none is there
  pub next : (v : A) (fs more : List Piece) (f : Piece) (rest : List ℕ) → format.fits v ≡ true → fields v ≡ fs ++ f ∷ more → NoneIsThere fields fs rest
      → FailsAt format (texts fs ++ rest) (length rest)
  -- and it isn't whole, if they end within it
  pub cut : (v : A) (fs more : List Piece) (f : Piece) (rest : List ℕ) → format.fits v ≡ true → fields v ≡ fs ++ f ∷ more → IsCutOff rest f.text
      → format.read (texts fs ++ rest) ≡ Err (fault_at Short rest)
