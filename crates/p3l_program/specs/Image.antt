-- Images of files, and which of them can be run.
use Rattle.std.specs.Prelude.{◌≡◌, ◌≢◌, ℕ, List, Result, Err, Option}
use Rattle.p3l_image.specs.declared.image.Image.{Image}
use Rattle.p3l_image.specs.declared.image.ImageRefusal.{ImageRefusal}
use Rattle.p3l_image.specs.Image.{IsSpelling, image_in}
use Rattle.p3l_image.specs.Refusal.{answer_of}
use Rattle.p3l_io.specs.Content.{Held}
use Rattle.p3l_load.specs.declared.loaded.LoadRefusal.{LoadRefusal}
use Rattle.p3l_load.specs.declared.loaded.LoadRefusal.TheVariants as load
use Rattle.p3l_load.specs.Load.{IsRunnable, Refuses, RefusesMigration, migrated_of}
use Rattle.p3l_program.specs.File.{HasText}

-- the most bytes of a file of an image
abbrev pub image_limit : ℕ
image_limit = 67108864

-- the bytes spell an image, in whichever version
abbrev pub IsImage : Image → List ℕ → Type 0
IsImage i bytes = IsSpelling i bytes

-- an image or the first fault of the bytes
abbrev pub read_image : List ℕ → Result Image ImageRefusal
read_image bytes = answer_of bytes (image_in bytes)

-- the bytes spell no image, for this reason
pub record IsNoImage (why : ImageRefusal) (bytes : List ℕ) : Type 0 where
  pub misspelled : read_image bytes ≡ Err why
  pub never : (i : Image) → IsImage i bytes → ⊥

-- they spell an image that can be run
pub record IsRunnableImage (i : Image) (bytes : List ℕ) : Type 0 where
  pub is : IsImage i bytes
  pub runs : IsRunnable i

-- they spell one that can't, for this reason
pub record IsBrokenImage (why : LoadRefusal) (bytes : List ℕ) : Type 0 where
  pub i : Image
  pub is : IsImage i bytes
  pub broken : Refuses i why
  pub named : why ≢ load.NoMemory
  pub never : (other : Image) → IsRunnableImage other bytes → ⊥

-- they spell an image that can be run once its net is linked anew
pub record IsMigratable (i : Image) (bytes : List ℕ) : Type 0 where
  pub is : IsImage i bytes
  pub runs : IsRunnable (migrated_of i)

-- they spell one that can't be, for this reason
pub record IsUnmigratable (why : LoadRefusal) (bytes : List ℕ) : Type 0 where
  pub i : Image
  pub is : IsImage i bytes
  pub unfit : RefusesMigration i why
  pub named : why ≢ load.NoMemory
  pub never : (other : Image) → IsMigratable other bytes → ⊥

-- the file of this name has bytes within the limit, and they are such
pub record HasBytes (files : Option Held) (name : List ℕ) (AreSuch : List ℕ → Type 0) : Type 0 where
  pub bytes : List ℕ
  pub has : HasText files image_limit name bytes
  pub are : AreSuch bytes
