-- The images of programs that keep the rules of the language.
use Rattle.std.specs.Prelude.{◌≡◌, ℕ, ◌≤◌, true, List, length, Ok}
use Rattle.p3l_base.specs.Limits.{most_processes}
use Rattle.std.specs.List.{All}
use Rattle.p3l_ast.specs.Tree.{ProgramTree}
use Rattle.p3l_grammar.specs.Grammar.{Spells}
use Rattle.p3l_skel.specs.declared.tree.Tree.{Tree}
use Rattle.p3l_skel.specs.Counts.{HasLawfulCounts}
use Rattle.p3l_skel.specs.Lawful.{IsLawfulTree}
use Rattle.p3l_skel.specs.Numbers.{procs}
use Rattle.p3l_check.specs.Resolving.{ResolvedTree, resolved}
use Rattle.p3l_code.specs.declared.instr.Code.{Code}
use Rattle.p3l_code.specs.Safe.{IsSafe}
use Rattle.p3l_compile.specs.Leaves.{AreBodies, AreCodes}
use Rattle.p3l_link.specs.Net.{linked_net}
use Rattle.p3l_image.specs.declared.image.Image.{Image}
use Rattle.p3l_image.specs.Image.{CanBeWritten, image_text}
use Rattle.p3l_load.specs.Codes.{seqs_in}
use Rattle.p3l_load.specs.Load.{IsRunnable}
use Rattle.p3l_load.specs.Written.{HasName}

-- the image of a tree under these counts, whose `seq` modules have these codes, with channels of this
-- capacity
abbrev pub image_of : Tree → List ℕ → List Code → (capacity : ℕ) → Image
image_of tree counts codes capacity = record {
  cap = capacity;
  tree = tree;
  counts = record { list = counts };
  codes = codes;
  net = linked_net tree counts capacity;
}

-- a text spells a program that keeps the rules, and comes to this lawful tree and these bodies
pub record ComesTo (bytes : List ℕ) (r : ResolvedTree) : Type 0 where
  pub program : ProgramTree
  pub spelled : Spells bytes program
  pub keeps : resolved program ≡ Ok r
  pub lawful : IsLawfulTree r.tree
  pub bodies : AreBodies r.tree r.seqs

-- a tree, and the codes of its bodies, are those of a program that some text spells
pub record AreCodesOf (tree : Tree) (codes : List Code) : Type 0 where
  pub bytes : List ℕ
  pub r : ResolvedTree
  pub comes : ComesTo bytes r
  pub tree_is : tree ≡ r.tree
  pub compiled : AreCodes r.seqs codes

-- bytes are those of an image, which can be read again and be run
pub record IsImageText (image : Image) (bytes : List ℕ) : Type 0 where
  pub runs : IsRunnable image
  pub fits : CanBeWritten image
  pub bytes_are : bytes ≡ image_text image

-- the modules of the tree of a program that a text spells have names of the language
abbrev pub EveryModuleHasAName : Type 0
EveryModuleHasAName =
    (bytes : List ℕ) (program : ProgramTree) (r : ResolvedTree) →
    Spells bytes program → resolved program ≡ Ok r → All HasName r.tree.modules

-- and as many bodies as there are `seq` modules
abbrev pub EveryBodyHasItsModule : Type 0
EveryBodyHasItsModule =
    (bytes : List ℕ) (program : ProgramTree) (r : ResolvedTree) →
    Spells bytes program → resolved program ≡ Ok r → length r.seqs ≡ seqs_in r.tree.modules

-- the image of such a tree with safe codes of its bodies can be run, where the counts are lawful and of
-- few processes
abbrev pub EveryCompiledImageCanBeRun : Type 0
EveryCompiledImageCanBeRun =
    (tree : Tree) (codes : List Code) (counts : List ℕ) (capacity : ℕ)
    → AreCodesOf tree codes → All IsSafe codes → HasLawfulCounts tree counts
    → procs tree counts 0 ≤ most_processes → 1 ≤ capacity → IsRunnable (image_of tree counts codes capacity)
