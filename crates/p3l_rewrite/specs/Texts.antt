-- Texts of the programs that a program may be rewritten to.
use Rattle.std.specs.Prelude.{ℕ, List}
use Rattle.std.specs.List.{AllByRecursion}
use Rattle.p3l_ast.specs.Tree.{ProgramTree}
use Rattle.p3l_skel.specs.declared.tree.Tree.{Tree}
use Rattle.p3l_grammar.specs.Grammar.{Spells}
use Rattle.p3l_print.specs.Program.{HasText}
use Rattle.p3l_rewrite.specs.Candidates.{others}

-- if some text spells the program, each of the others has a text too
abbrev pub OthersHaveTexts : Type 0
OthersHaveTexts =
    (text : List ℕ) (program : ProgramTree) (tree : Tree) → Spells text program → AllByRecursion HasText (others program tree)
