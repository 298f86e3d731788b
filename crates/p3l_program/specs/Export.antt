-- The command `export`: a program as a C file that runs on many processors.
use Rattle.std.specs.Prelude.{◌≡◌, ℕ, ◌≤◌, List, Option, Ok}
use Rattle.p3l_ast.specs.Tree.{program_tree}
use Rattle.p3l_base.specs.Limits.{most_processes}
use Rattle.p3l_io.specs.Content.{Held}
use Rattle.p3l_skel.specs.Counts.{HasLawfulCounts}
use Rattle.p3l_skel.specs.Lawful.{IsLawfulTree}
use Rattle.p3l_skel.specs.Numbers.{procs}
use Rattle.p3l_c_print.specs.Bodies.{bodies_text}
use Rattle.p3l_check.specs.Resolving.{ResolvedTree, resolved}
use Rattle.p3l_cost.specs.declared.costs.Costs.{Costs}
use Rattle.p3l_export.specs.declared.engine.TheConstants.{ENGINE, HEAD}
use Rattle.p3l_export.specs.Export.{IsExported}
use Rattle.p3l_opts.specs.declared.command.Build.{Build}
use Rattle.p3l_opts.specs.declared.command.Exported.{Exported}
use Rattle.p3l_program.specs.declared.source.Priced.{Priced}
use Rattle.p3l_program.specs.Plan.{HasCounts, IsAccepted}
use Rattle.p3l_program.specs.Source.{plain_build}

-- the build that chooses the counts of an exported program
abbrev pub build_of : Exported → Build
build_of exported = plain_build exported.program exported.processors exported.costs

-- the text in C of the one program that the file spells: the first part of the engine, the functions of the program's bodies, the tables
-- of its tree and of its network under the counts that are chosen for it, and the second part of the engine; the capacity of a channel
-- is the requested one, or without one a chosen one
pub record IsExportOf (files : Option Held) (exported : Exported) (text : List ℕ) : Type 0 where
  pub r : ResolvedTree
  pub cs : Costs
  pub counts : List ℕ
  pub has : HasCounts files (build_of exported) r cs counts
  pub only : (other : ResolvedTree) → IsAccepted has.text other → other ≡ r
  pub text_is : IsExported r.tree counts cs exported.capacity HEAD.now (bodies_text r.tree r.seqs) ENGINE.now text

-- a program can be exported with its counts
pub record MayBeExported (priced : Priced) : Type 0 where
  pub r : ResolvedTree
  pub keeps : resolved (program_tree priced.program) ≡ Ok r
  pub lawful : IsLawfulTree priced.tree
  pub fit : HasLawfulCounts priced.tree priced.counts.list
  pub few : procs priced.tree priced.counts.list 0 ≤ most_processes

-- the text in C of a program under a capacity or none, with the bodies of its modules
pub record IsProgramText (priced : Priced) (capacity : Option ℕ) (text : List ℕ) : Type 0 where
  pub r : ResolvedTree
  pub keeps : resolved (program_tree priced.program) ≡ Ok r
  pub text_is : IsExported priced.tree priced.counts.list priced.costs capacity HEAD.now (bodies_text r.tree r.seqs) ENGINE.now text
