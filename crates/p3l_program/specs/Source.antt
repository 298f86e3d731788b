-- A program as it is written, with its tree, its costs and the counts that are chosen for it.
use Rattle.std.specs.Prelude.{◌≡◌, ℕ, List, Option, Err}
use Rattle.p3l_ast.specs.declared.refusal.SourceRefusal.{SourceRefusal}
use Rattle.p3l_ast.specs.Tree.{ProgramTree, program_tree}
use Rattle.p3l_io.specs.Content.{Held}
use Rattle.p3l_skel.specs.declared.tree.Tree.{Tree}
use Rattle.p3l_skel.specs.Lawful.{IsLawfulTree}
use Rattle.p3l_cost.specs.Costs.{AreCostsOf}
use Rattle.p3l_opts.specs.declared.command.Build.{Build}
use Rattle.p3l_check.specs.Many.{GivesUnlessMany}
use Rattle.p3l_check.specs.Resolving.{ResolvedTree, resolved}
use Rattle.p3l_program.specs.declared.source.Priced.{Priced}
use Rattle.p3l_program.specs.declared.source.SourceText.{SourceText}
use Rattle.p3l_program.specs.File.{HasText, text_limit}
use Rattle.p3l_program.specs.Plan.{HasCounts, IsAccepted}

-- the words of a command that builds no network, but checks whether one fits: the capacity of its channels, 4,
-- which no stage looks at
abbrev pub plain_build : (program : List ℕ) (processors : ℕ) (costs : Option (List ℕ)) → Build
plain_build program processors costs = record {
  program = program;
  processors = processors;
  costs = costs;
  capacity = 4;
}

-- a program breaks a rule, the first of them so, unless memory ran out or it has too many entries
abbrev pub BreaksRules : ProgramTree → SourceRefusal → Type 0
BreaksRules program refusal = GivesUnlessMany {A = ResolvedTree} program.entries (Err refusal) (resolved program)

-- the tree that an accepted text comes to, which it does alone
pub record ComesToTree (text : List ℕ) (r : ResolvedTree) (tree : Tree) : Type 0 where
  pub accepted : IsAccepted text r
  pub only : (other : ResolvedTree) → IsAccepted text other → other ≡ r
  pub tree_is : tree ≡ r.tree
  pub lawful : IsLawfulTree r.tree

-- a text comes to this program with its tree
pub record IsSourceOf (text : List ℕ) (source : SourceText) : Type 0 where
  pub r : ResolvedTree
  pub comes : ComesToTree text r source.tree
  pub program_is : comes.accepted.program ≡ program_tree source.program

-- and so does the text of a file
pub record LoadsSource (files : Option Held) (name : List ℕ) (source : SourceText) : Type 0 where
  pub text : List ℕ
  pub has : HasText files text_limit name text
  pub is : IsSourceOf text source

-- the one program of the files with its tree, its costs, and the counts that are chosen for this number of processors
pub record LoadsPriced (files : Option Held) (build : Build) (priced : Priced) : Type 0 where
  pub r : ResolvedTree
  pub has : HasCounts files build r priced.costs priced.counts.list
  pub only : (other : ResolvedTree) → IsAccepted has.text other → other ≡ r
  pub program_is : has.allotted.priced.accepted.program ≡ program_tree priced.program
  pub tree_is : priced.tree ≡ r.tree
  pub lawful : IsLawfulTree r.tree
  pub costs_are : AreCostsOf r.tree priced.costs
