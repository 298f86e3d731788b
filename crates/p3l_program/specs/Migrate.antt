-- The command `migrate`: an image in the newest version, with its net linked anew.
use Rattle.std.specs.Prelude.{◌≡◌, ℕ, List, Option}
use Rattle.p3l_io.specs.Content.{Held}
use Rattle.p3l_image.specs.declared.image.Image.{Image}
use Rattle.p3l_image.specs.Image.{image_text}
use Rattle.p3l_load.specs.Load.{IsRunnable, migrated_of}
use Rattle.p3l_program.specs.File.{HasText}
use Rattle.p3l_program.specs.Image.{IsImage, image_limit}

-- the one image that the file of this name has, in whatever version, can be run once its net is linked
-- anew, and becomes this one
pub record Migrates (files : Option Held) (name : List ℕ) (migrated : Image) : Type 0 where
  pub i : Image
  pub bytes : List ℕ
  pub has : HasText files image_limit name bytes
  pub is : IsImage i bytes
  pub only : (other : Image) → IsImage other bytes → other ≡ i
  pub migrated_is : migrated ≡ migrated_of i
  pub runs : IsRunnable migrated

-- the bytes are those of that image, as images are written: it has the same capacity, tree, counts and
-- codes, and its net is that of its tree
pub record IsMigrated (files : Option Held) (name bytes : List ℕ) : Type 0 where
  pub image : Image
  pub migrates : Migrates files name image
  pub bytes_are : bytes ≡ image_text image
