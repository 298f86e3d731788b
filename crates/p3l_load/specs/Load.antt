-- The images that can be loaded, and the reasons for which others are refused.
use Rattle.std.specs.Prelude.{◌≡◌, ◌≢◌, ◌≤◌, List}
use Rattle.std.specs.List.{All}
use Rattle.p3l_skel.specs.Counts.{HasLawfulCounts}
use Rattle.p3l_skel.specs.Lawful.{IsLawfulTree}
use Rattle.p3l_skel.specs.Numbers.{procs}
use Rattle.p3l_code.specs.declared.instr.Code.{Code}
use Rattle.p3l_code.specs.Safe.{IsSafe}
use Rattle.p3l_firing.specs.declared.net.Net.{Net}
use Rattle.p3l_firing.specs.Typed.{IsTyped}
use Rattle.p3l_link.specs.Net.{linked_net}
use Rattle.p3l_image.specs.declared.image.Image.{Image}
use Rattle.p3l_load.specs.declared.loaded.Loaded.{Loaded}
use Rattle.p3l_load.specs.declared.loaded.LoadRefusal.{LoadRefusal}
use Rattle.p3l_load.specs.declared.loaded.LoadRefusal.TheVariants.{CodeUnsafe, NotLinked, TreeWrong, NoMemory}
use Rattle.p3l_load.specs.Codes.{HasCodes, IsFirstUnsafe}
use Rattle.p3l_base.specs.Limits.{most_processes}
use Rattle.p3l_base.specs.Memory.{Refused}

-- the tree, its counts and its codes are lawful together, and the tree has few processes
pub record IsWhole (image : Image) : Type 0 where
  pub lawful : IsLawfulTree image.tree
  pub counted : HasLawfulCounts image.tree image.counts.list
  pub few : procs image.tree image.counts.list 0 ≤ most_processes
  pub coded : HasCodes image.tree image.codes

-- the net of the image's tree under its counts, with channels of its capacity
abbrev pub net_of : Image → Net
net_of image = linked_net image.tree image.counts.list image.cap

-- an image may be run: besides, its codes are safe, and its net is that of its tree
pub record IsRunnable (image : Image) : Type 0 where
  pub whole : IsWhole image
  pub safe : All IsSafe image.codes
  pub linked : image.net ≡ net_of image
  pub typed : IsTyped image.tree image.net

-- the loaded parts are the image's own
abbrev pub loaded_of : Image → Loaded
loaded_of image = record {
  cap = image.cap;
  tree = image.tree;
  counts = image.counts;
  codes = image.codes;
  net = image.net;
}

-- why codes aren't sealed
abbrev pub IsUnsafe : List Code → LoadRefusal → Type 0
IsUnsafe codes (CodeUnsafe number) = IsFirstUnsafe codes number
IsUnsafe codes NoMemory = Refused
IsUnsafe codes _ = ⊥

-- why an image isn't loaded, the first of these
abbrev pub Refuses : Image → LoadRefusal → Type 0
Refuses image TreeWrong = ¬ IsWhole image
Refuses image (CodeUnsafe number) = IsWhole image × IsFirstUnsafe image.codes number
Refuses image NotLinked = IsWhole image × All IsSafe image.codes × (image.net ≢ net_of image)
Refuses image NoMemory = Refused

-- the image with the net of its tree in place of its own
abbrev pub migrated_of : Image → Image
migrated_of image = record {
  cap = image.cap;
  tree = image.tree;
  counts = image.counts;
  codes = image.codes;
  net = net_of image;
}

-- why an image isn't migrated: why it isn't loaded, but that its net doesn't matter
abbrev pub RefusesMigration : Image → LoadRefusal → Type 0
RefusesMigration image NotLinked = ⊥
RefusesMigration image refusal = Refuses image refusal
