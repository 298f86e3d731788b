-- The format of images.
use Rattle.std.specs.Prelude.{◌≡◌, ◌↔◌, ◌++◌, ℕ, List, [], length, true, None, Result, Ok}
use Rattle.std.specs.List.{All}
use Rattle.p3l_base.specs.Limits.{most_tokens}
use Rattle.p3l_skel.specs.declared.tree.ModuleInfo.{ModuleInfo}
use Rattle.p3l_image.specs.declared.image.Image.{Image}
use Rattle.p3l_format.specs.declared.fault.FieldFault.{FieldFault}
use Rattle.p3l_format.specs.Format.{Format, ◌>>=◌, both, pair, record_of, after, read_all}
use Rattle.p3l_format.specs.Numbers.{u32_in}
use Rattle.p3l_tree_format.specs.declared.version.Version.{Version}
use Rattle.p3l_tree_format.specs.declared.version.Version.TheVariants.{One, Two}
use Rattle.p3l_tree_format.specs.Version.{version_format}
use Rattle.p3l_tree_format.specs.Tree.{tree_format, counts_format}
use Rattle.p3l_image.specs.Instr.{codes_format}
use Rattle.p3l_image.specs.Net.{net_format}

-- "P3LI"
abbrev pub magic : ℕ
magic = 1345539145

-- the format after the magic number and the version
unfoldable pub body_format : Version → Format ℕ Image
body_format version = record_of
    (λ p. record { cap = p.0; tree = p.1.0; counts = record { list = p.1.1.0 }; codes = p.1.1.1.0; net = p.1.1.1.1 })
    (λ i. (i.cap, (i.tree, (i.counts.list, (i.codes, i.net)))))
    (both (u32_in 1 most_tokens) (pair (tree_format version) (λ tree. both counts_format (both codes_format (net_format (length tree.nodes))))))

-- an image in a version: the version comes first, and what is after it depends on it
unfoldable pub image_format : Format ℕ (Version × Image)
image_format = after (u32_in magic magic) magic (pair version_format body_format)

-- the image that bytes spell, whatever its version, or their first fault
abbrev pub image_in : List ℕ → Result Image FieldFault
image_in bytes = read_all image_format bytes >>= λ x. Ok x.1

-- the fields of an image are in their ranges, so that it can be written
abbrev pub CanBeWritten : Image → Type 0
CanBeWritten image = image_format.fits (Two, image) ≡ true

-- the bytes of an image, as it is written: its spelling in version 2
abbrev pub image_text : Image → List ℕ
image_text image = image_format.spell (Two, image)

-- its spelling in version 1
abbrev pub old_text : Image → List ℕ
old_text image = image_format.spell (One, image)

-- bytes spell an image, in one of the versions
pub record IsSpelling (image : Image) (bytes : List ℕ) : Type 0 where
  pub version : Version
  pub fits : image_format.fits (version, image) ≡ true
  pub spelled : bytes ≡ image_format.spell (version, image)

-- no spelling begins another, in whatever versions
abbrev pub ImageBeginsNoOther : Type 0
ImageBeginsNoOther = (v w : Image) (s t more : List ℕ) → IsSpelling v s → IsSpelling w t → s ++ more ≡ t → (v ≡ w) × (more ≡ [])

-- a module has no rescue number
abbrev pub HasNoRescue : ModuleInfo → Type 0
HasNoRescue info = info.rescue ≡ None

-- of the images that can be written, those have a spelling in version 1 whose modules have no rescue number
abbrev pub OldTextsHaveNoRescue : Type 0
OldTextsHaveNoRescue =
    (image : Image) → (image_format.fits (One, image) ≡ true) ↔ (CanBeWritten image × All HasNoRescue image.tree.modules)
