-- The canonical text of a program, and the texts of a program.
use Rattle.std.specs.Prelude.{◌≡◌, ℕ, List, ◌++◌, codes}
use Rattle.std.specs.Fmt.{signed_decimal}
use Rattle.std.specs.List.{join_by}
use Rattle.p3l_ast.specs.Tree.{EntryTree, constant, defined, ProgramTree}
use Rattle.p3l_ast.specs.Unplaced.{program_unplaced}
use Rattle.p3l_grammar.specs.Grammar.{Spells}
use Rattle.p3l_print.specs.Module.{module_text}

abbrev pub entry_text : EntryTree → List ℕ
entry_text (constant spot value) = codes "const " ++ spot.name ++ codes " = " ++ signed_decimal value ++ codes ";\n"
entry_text (defined tree) = module_text tree

-- the entries, separated by empty lines
abbrev pub canonical : ProgramTree → List ℕ
canonical program = join_by entry_text (codes "\n") program.entries

-- the text spells the program, wherever its names and numbers may stand in it
pub record IsTextOf (bytes : List ℕ) (program : ProgramTree) : Type 0 where
  pub placed : ProgramTree
  pub spells : Spells bytes placed
  pub same : program_unplaced placed ≡ program_unplaced program

-- some text spells the program, wherever its names and numbers may stand in it
pub record HasText (program : ProgramTree) : Type 0 where
  pub text : List ℕ
  pub is_text : IsTextOf text program
