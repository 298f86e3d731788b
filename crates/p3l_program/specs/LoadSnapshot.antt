-- Values loaded from the snapshot of a file, and the reasons why none is.
use Rattle.std.specs.Prelude.{◌≡◌, ℕ, ◌≤◌, List, Option}
use Rattle.p3l_image.specs.declared.image.Image.{Image}
use Rattle.p3l_io.specs.Content.{Held}
use Rattle.p3l_load.specs.Load.{loaded_of}
use Rattle.p3l_resume.specs.declared.saved.Saved.{Saved}
use Rattle.p3l_resume.specs.Saved.{IsSpelling}
use Rattle.p3l_skel.specs.Numbers.{procs}
use Rattle.p3l_program.specs.declared.snapshot.ResumableNetwork.{ResumableNetwork}
use Rattle.p3l_program.specs.File.{HasText}
use Rattle.p3l_program.specs.Image.{IsImage}
use Rattle.p3l_program.specs.LoadImage.{IsReadyImage}
use Rattle.p3l_program.specs.Snapshot.{IsResumable, IsSoundFor, snapshot_limit}

-- the one snapshot that the file of this name has was read
pub record ReadsSnapshot (files : Option Held) (name : List ℕ) (saved : Saved) : Type 0 where
  pub bytes : List ℕ
  pub has : HasText files snapshot_limit name bytes
  pub spelled : IsSpelling saved bytes
  pub only : (other : Saved) → IsSpelling other bytes → other ≡ saved

-- a network with a shot is ready to be run, and its run can be continued from the shot
pub record IsReadySnapshot (snapshot : ResumableNetwork) : Type 0 where
  pub image : IsReadyImage snapshot.network
  pub sound : IsSoundFor snapshot.network snapshot.shot
  pub few_procs : procs snapshot.network.tree snapshot.network.counts.list 0 ≤ 4096
  pub few_tokens : snapshot.network.cap ≤ 1024

-- the one snapshot that the file of this name has was loaded, with the one image that it has
pub record LoadsSnapshot (files : Option Held) (name : List ℕ) (snapshot : ResumableNetwork) : Type 0 where
  pub i : Image
  pub loaded_is : snapshot.network ≡ loaded_of i
  pub saved : Saved
  pub shot_is : snapshot.shot ≡ saved.shot
  pub reads : ReadsSnapshot files name saved
  pub resumable : IsResumable i saved reads.bytes
  pub only : (other : Image) → IsImage other saved.image → other ≡ i
  pub room : 1 ≤ i.cap
  pub few : i.cap ≤ 1024
