-- The command `explain`: the counts that are chosen for a program, and what they come to.
use Rattle.std.specs.Prelude.{◌≡◌, ℕ, List, Option}
use Rattle.p3l_io.specs.Content.{Held}
use Rattle.p3l_skel.specs.Numbers.{procs}
use Rattle.p3l_cost.specs.declared.costs.Costs.{Costs}
use Rattle.p3l_model.specs.Service.{service}
use Rattle.p3l_opts.specs.declared.command.Build.{Build}
use Rattle.p3l_check.specs.Resolving.{ResolvedTree}
use Rattle.p3l_alloc.specs.Explanation.{allocation_text}
use Rattle.p3l_program.specs.Plan.{HasCounts}

-- the text of the counts that are chosen for the program that files and words request
pub record IsExplained (files : Option Held) (build : Build) (text : List ℕ) : Type 0 where
  pub r : ResolvedTree
  pub cs : Costs
  pub counts : List ℕ
  pub has : HasCounts files build r cs counts
  pub text_is : text ≡ allocation_text r.tree cs build.processors counts (procs r.tree counts 0) (service r.tree cs counts 0)
