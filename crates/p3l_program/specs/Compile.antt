-- The command `compile`: the image of a program.
use Rattle.std.specs.Prelude.{◌≡◌, ℕ, List, Option}
use Rattle.p3l_io.specs.Content.{Held}
use Rattle.p3l_code.specs.declared.instr.Code.{Code}
use Rattle.p3l_compile.specs.Leaves.{AreCodes}
use Rattle.p3l_cost.specs.declared.costs.Costs.{Costs}
use Rattle.p3l_load.specs.Compiled.{IsImageText, image_of}
use Rattle.p3l_opts.specs.declared.command.Build.{Build}
use Rattle.p3l_check.specs.Resolving.{ResolvedTree}
use Rattle.p3l_program.specs.Plan.{HasCounts, IsAccepted}

-- the bytes of the image of the one program that the file spells: the capacity, its tree, the counts that are chosen for it, codes of
-- its bodies, and the net of the tree under the counts; they can be read again and be run
pub record IsImageOf (files : Option Held) (build : Build) (bytes : List ℕ) : Type 0 where
  pub r : ResolvedTree
  pub cs : Costs
  pub counts : List ℕ
  pub has : HasCounts files build r cs counts
  pub only : (other : ResolvedTree) → IsAccepted has.text other → other ≡ r
  pub codes : List Code
  pub compiled : AreCodes r.seqs codes
  pub is : IsImageText (image_of r.tree counts codes build.capacity) bytes
