-- Snapshots of files, and which of them can be resumed.
use Rattle.std.specs.Prelude.{◌≡◌, ℕ, List, Result, Err, Option}
use Rattle.p3l_format.specs.Format.{read_all}
use Rattle.p3l_image.specs.declared.image.Image.{Image}
use Rattle.p3l_image.specs.declared.image.ImageRefusal.{ImageRefusal}
use Rattle.p3l_io.specs.Content.{Held}
use Rattle.p3l_load.specs.declared.loaded.Loaded.{Loaded}
use Rattle.p3l_load.specs.declared.loaded.LoadRefusal.{LoadRefusal}
use Rattle.p3l_load.specs.Load.{loaded_of}
use Rattle.p3l_firing.specs.declared.shot.Shot.{Shot}
use Rattle.p3l_orderly.specs.Sound.{IsSound}
use Rattle.p3l_resume.specs.declared.saved.Saved.{Saved}
use Rattle.p3l_resume.specs.declared.saved.ShotRefusal.{ShotRefusal}
use Rattle.p3l_resume.specs.Refusal.{answer_of}
use Rattle.p3l_resume.specs.Saved.{IsSpelling, saved_format}
use Rattle.p3l_template.specs.Units.{Units}
use Rattle.p3l_units.specs.Table.{leaf}
use Rattle.p3l_program.specs.File.{HasText}
use Rattle.p3l_program.specs.Image.{IsBrokenImage, IsImage, IsNoImage, IsRunnableImage}

-- the most bytes of a file of a snapshot
abbrev pub snapshot_limit : ℕ
snapshot_limit = 268435456

-- a snapshot, or the place of the first fault of the bytes
abbrev pub read_snapshot : List ℕ → Result Saved ShotRefusal
read_snapshot bytes = answer_of bytes (read_all saved_format bytes)

-- the bytes spell no snapshot, for this reason
pub record IsNoSnapshot (why : ShotRefusal) (bytes : List ℕ) : Type 0 where
  pub misread : read_snapshot bytes ≡ Err why
  pub never : (saved : Saved) → IsSpelling saved bytes → ⊥

-- they spell a snapshot, and the bytes of its image are such
pub record SpellsWith (AreSuch : List ℕ → Type 0) (bytes : List ℕ) : Type 0 where
  pub saved : Saved
  pub spelled : IsSpelling saved bytes
  pub are : AreSuch saved.image

-- those of its image spell none, for this reason
pub record SpellsNoImage (why : ImageRefusal) (bytes : List ℕ) : Type 0 where
  pub spells : SpellsWith (IsNoImage why) bytes
  pub never : (i : Image) → SpellsWith (IsImage i) bytes → ⊥

-- they spell one that can't be run, for this reason
pub record SpellsBrokenImage (why : LoadRefusal) (bytes : List ℕ) : Type 0 where
  pub spells : SpellsWith (IsBrokenImage why) bytes
  pub never : (i : Image) → SpellsWith (IsRunnableImage i) bytes → ⊥

-- the units of what was loaded: its tree, and what its codes make of words
abbrev pub units_in : Loaded → Units
units_in loaded = record { tree = loaded.tree; leaf = leaf (record { tree = loaded.tree; codes = loaded.codes }) }

-- a shot is a state that a run of the loaded network can be in
abbrev pub IsSoundFor : Loaded → Shot → Type 0
IsSoundFor loaded shot = IsSound (units_in loaded) loaded.counts.list loaded.net shot

-- the bytes spell a snapshot with an image that can be run, and a run of it can be in the state that was saved
pub record IsResumable (i : Image) (saved : Saved) (bytes : List ℕ) : Type 0 where
  pub spelled : IsSpelling saved bytes
  pub runs : IsRunnableImage i saved.image
  pub sound : IsSoundFor (loaded_of i) saved.shot

-- no run of it can be in that state
pub record IsUnsound (bytes : List ℕ) : Type 0 where
  pub i : Image
  pub saved : Saved
  pub spelled : IsSpelling saved bytes
  pub runs : IsRunnableImage i saved.image
  pub unsound : IsSoundFor (loaded_of i) saved.shot → ⊥
  pub never : (other : Image) (again : Saved) → IsResumable other again bytes → ⊥

-- the file of this name has bytes within the limit, and they are such
pub record HasSnapshot (files : Option Held) (name : List ℕ) (AreSuch : List ℕ → Type 0) : Type 0 where
  pub bytes : List ℕ
  pub has : HasText files snapshot_limit name bytes
  pub are : AreSuch bytes
