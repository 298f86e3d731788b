-- The command `rewrite`: a program with the same meaning and no greater service time.
use Rattle.std.specs.Prelude.{◌≡◌, ℕ, List, Option}
use Rattle.p3l_ast.specs.Tree.{ProgramTree}
use Rattle.p3l_io.specs.Content.{Held}
use Rattle.p3l_cost.specs.declared.costs.Costs.{Costs}
use Rattle.p3l_opts.specs.declared.command.Build.{Build}
use Rattle.p3l_print.specs.Program.{canonical, IsTextOf}
use Rattle.p3l_check.specs.Resolving.{ResolvedTree}
use Rattle.p3l_rewrite.specs.Rewriting.{IsRewriting, MeansTheSame, Serves}
use Rattle.p3l_program.specs.Plan.{HasCosts}

-- the canonical text of the best way to write the program that the files have, by its costs and for this number of
-- processors: a program that keeps all rules and means the same for all items, traps with kind and module
-- included, in which the modules before `main` keep their numbers; its service time is no greater than the
-- program's, and it is the first, in the order of the ways, with the least; what the text spells is this program
pub record IsRewritten (files : Option Held) (build : Build) (text : List ℕ) : Type 0 where
  pub r : ResolvedTree
  pub cs : Costs
  pub has : HasCosts files build.program build.costs r cs
  pub other : ProgramTree
  pub time : ℕ
  pub is : IsRewriting has.priced.accepted.program cs build.processors other time
  pub text_is : text ≡ canonical other
  pub spells : IsTextOf text other
  -- the program that the text spells as it stands, each name and number at its own place in it, keeps all rules,
  -- means the same, and has this service time
  pub means : MeansTheSame has.priced.accepted.program spells.placed
  pub serves : Serves r.tree cs build.processors spells.placed time

-- the canonical text of the best way to write a program, which spells that if some text does
pub record IsBestText (program : ProgramTree) (costs : Costs) (processors : ℕ) (text : List ℕ) : Type 0 where
  pub other : ProgramTree
  pub time : ℕ
  pub is : IsRewriting program costs processors other time
  pub text_is : text ≡ canonical other
  pub spells : (written : List ℕ) → IsTextOf written other → IsTextOf text other
