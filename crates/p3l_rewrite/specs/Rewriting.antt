-- The program that a program is rewritten to.
use Rattle.std.specs.Prelude.{◌≡◌, ℕ, ◌-◌, ◌<◌, ◌≤◌, List, [], ◌∷◌, ◌++◌, take, drop, replicate, length, slice_get, Option, Some, None, Ok}
use Rattle.p3l_base.specs.Limits.{most_processors}
use Rattle.p3l_ast.specs.Tree.{ProgramTree}
use Rattle.p3l_grammar.specs.Grammar.{Spells}
use Rattle.p3l_print.specs.Program.{HasText}
use Rattle.p3l_skel.specs.declared.tree.Tree.{Tree}
use Rattle.p3l_skel.specs.Tree.{node_at}
use Rattle.p3l_skel.specs.Lawful.{IsLawfulTree}
use Rattle.p3l_skel.specs.Numbers.{Fits}
use Rattle.p3l_check.specs.Resolving.{ResolvedTree, resolved}
use Rattle.p3l_cost.specs.declared.costs.Costs.{Costs}
use Rattle.p3l_cost.specs.Costs.{AreCostsOf}
use Rattle.p3l_model.specs.Optimal.{IsChosen}
use Rattle.p3l_model.specs.Service.{service}
use Rattle.p3l_rewrite.specs.Programs.{HaveOneMeaning, ModulesStay}
use Rattle.p3l_rewrite.specs.Candidates.{others}

-- a program keeps the rules
pub record IsAccepted (program : ProgramTree) : Type 0 where
  pub whole : ResolvedTree
  pub resolves : resolved program ≡ Ok whole
  pub lawful : IsLawfulTree whole.tree

-- a program keeps the rules, means what another does, traps included, and leaves the modules before `main`
-- their numbers
pub record MeansTheSame (program other : ProgramTree) : Type 0 where
  pub accepted : IsAccepted other
  pub means : (r : ResolvedTree) → resolved program ≡ Ok r → IsLawfulTree r.tree → HaveOneMeaning r accepted.whole
  pub numbers : (r : ResolvedTree) → resolved program ≡ Ok r → IsLawfulTree r.tree → ModulesStay r accepted.whole

-- numbers of modules where some are added from a module on
abbrev pub with_added : ℕ → ℕ → ℕ → List ℕ → List ℕ
with_added root added number numbers = take root numbers ++ replicate added number ++ drop root numbers

-- costs where some modules are added from a module on: these have no ticks and one turn
abbrev pub with_modules : ℕ → ℕ → Costs → Costs
with_modules root added costs = record {
  setup = costs.setup;
  word = costs.word;
  ticks = with_added root added 0 costs.ticks;
  turns = with_added root added 1 costs.turns;
}

-- the costs of a tree, for another one with modules more from `main` on
abbrev pub costs_for : Tree → Costs → Tree → Costs
costs_for tree costs other = with_modules (node_at tree 0).«module» (length other.modules - length tree.modules) costs

-- a program keeps the rules and fits the processors, and has this service time of its chosen counts
pub record Serves (tree : Tree) (costs : Costs) (processors : ℕ) (other : ProgramTree) (time : ℕ) : Type 0 where
  pub accepted : IsAccepted other
  pub counts : List ℕ
  pub chosen : IsChosen accepted.whole.tree (costs_for tree costs accepted.whole.tree) processors counts
  pub time_is : time ≡ service accepted.whole.tree (costs_for tree costs accepted.whole.tree) counts 0

-- the first of some programs with the least service time
pub record IsBest (tree : Tree) (costs : Costs) (processors : ℕ) (programs : List ProgramTree) (best : ProgramTree) (time : ℕ) : Type 0 where
  pub place : ℕ
  pub there : slice_get programs place ≡ Some best
  pub serves : Serves tree costs processors best time
  pub least : (k n : ℕ) (q : ProgramTree) → slice_get programs k ≡ Some q → Serves tree costs processors q n → time ≤ n
  pub first : (k n : ℕ) (q : ProgramTree) → k < place → slice_get programs k ≡ Some q → Serves tree costs processors q n → time < n

-- the service time of a program, if it serves
abbrev pub IsServed : Tree → Costs → ℕ → ProgramTree → Option ℕ → Type 0
IsServed tree costs processors other None = (n : ℕ) → Serves tree costs processors other n → ⊥
IsServed tree costs processors other (Some time) = Serves tree costs processors other time

-- the best of some programs, with one more if there is one
abbrev pub listed : Option ProgramTree → List ProgramTree
listed None = []
listed (Some program) = program ∷ []

abbrev pub StaysBest : Tree → Costs → ℕ → ProgramTree → ℕ → Option ProgramTree → ProgramTree → ℕ → Type 0
StaysBest tree costs processors old old_time one new new_time =
    (programs : List ProgramTree) → IsBest tree costs processors programs old old_time →
    IsBest tree costs processors (programs ++ listed one) new new_time

-- a program that keeps the rules, with its costs, and processors that some counts of it fit
pub record MayBeRewritten (program : ProgramTree) (costs : Costs) (processors : ℕ) : Type 0 where
  pub accepted : IsAccepted program
  pub costs_are : AreCostsOf accepted.whole.tree costs
  pub counts : List ℕ
  pub fits : Fits accepted.whole.tree processors counts
  pub some : 1 ≤ processors
  pub few : processors ≤ most_processors

-- the best of the ways to write a program: it means the same, its service time is no greater, and where some text
-- spells the program it has a text too
pub record IsRewriting (program : ProgramTree) (costs : Costs) (processors : ℕ) (other : ProgramTree) (time : ℕ) : Type 0 where
  pub same : MeansTheSame program other
  pub best : (r : ResolvedTree) → resolved program ≡ Ok r → IsBest r.tree costs processors (program ∷ others program r.tree) other time
  pub no_greater : (r : ResolvedTree) (counts : List ℕ) → resolved program ≡ Ok r → IsChosen r.tree costs processors counts → time ≤ service r.tree costs counts 0
  pub has_text : (text : List ℕ) → Spells text program → HasText other
