-- Values loaded from the image of a file, and the reasons why none is.
use Rattle.std.specs.Prelude.{◌≡◌, ℕ, ◌≤◌, List, Option}
use Rattle.std.specs.List.{All}
use Rattle.p3l_skel.specs.Counts.{HasLawfulCounts}
use Rattle.p3l_skel.specs.Lawful.{IsLawfulTree}
use Rattle.p3l_firing.specs.Typed.{IsTyped}
use Rattle.p3l_link.specs.Net.{linked_net}
use Rattle.p3l_units.specs.Table.{HasCode}
use Rattle.p3l_image.specs.declared.image.Image.{Image}
use Rattle.p3l_io.specs.Content.{Held}
use Rattle.p3l_load.specs.declared.loaded.Loaded.{Loaded}
use Rattle.p3l_load.specs.Load.{loaded_of}
use Rattle.p3l_report.specs.declared.evidence.Evidence.TheVariants as evidence
use Rattle.p3l_report.specs.declared.verdict.Refusal.TheVariants as refusal
use Rattle.p3l_report.specs.declared.verdict.Verdict.{Verdict}
use Rattle.p3l_report.specs.declared.verdict.Verdict.TheVariants as verdict
use Rattle.p3l_program.specs.File.{HasText}
use Rattle.p3l_program.specs.Image.{IsBrokenImage, IsImage, IsNoImage, IsRunnableImage, image_limit}
use Rattle.p3l_base.specs.Memory.{Refused}

-- why bytes are no image
abbrev pub IsUndecoded : List ℕ → Verdict → Type 0
IsUndecoded bytes (verdict.Refused (refusal.Evidence (evidence.Image why))) = IsNoImage why bytes
IsUndecoded bytes verdict.NoMemory = Refused
IsUndecoded bytes v = ⊥

-- why they load none
abbrev pub IsUnloadable : List ℕ → Verdict → Type 0
IsUnloadable bytes (verdict.Refused (refusal.Evidence (evidence.Image why))) = IsNoImage why bytes
IsUnloadable bytes (verdict.Refused (refusal.Evidence (evidence.Load why))) = IsBrokenImage why bytes
IsUnloadable bytes verdict.NoMemory = Refused
IsUnloadable bytes v = ⊥

-- a loaded network can be run: its tree and counts are lawful, each `seq` module has its code, and the net is that of the tree
pub record IsReadyImage (loaded : Loaded) : Type 0 where
  pub lawful : IsLawfulTree loaded.tree
  pub fit : HasLawfulCounts loaded.tree loaded.counts.list
  pub codes : All (HasCode (record { tree = loaded.tree; codes = loaded.codes })) loaded.tree.nodes
  pub net_is : loaded.net ≡ linked_net loaded.tree loaded.counts.list loaded.cap
  pub typed : IsTyped loaded.tree loaded.net
  pub room : 1 ≤ loaded.cap

-- the one image that the bytes spell was loaded
pub record LoadsBytes (bytes : List ℕ) (loaded : Loaded) : Type 0 where
  pub i : Image
  pub loaded_is : loaded ≡ loaded_of i
  pub runs : IsRunnableImage i bytes
  pub only : (other : Image) → IsImage other bytes → other ≡ i
  pub room : 1 ≤ i.cap
  pub few : i.cap ≤ 1024

-- the one image that the file of this name has was loaded
pub record LoadsImage (files : Option Held) (name : List ℕ) (loaded : Loaded) : Type 0 where
  pub bytes : List ℕ
  pub has : HasText files image_limit name bytes
  pub loads : LoadsBytes bytes loaded
