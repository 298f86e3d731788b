-- The canonical text of a program that was read.
use Rattle.std.specs.Prelude.{◌≡◌, ℕ, List}
use Rattle.p3l_ast.specs.Tree.{ProgramTree}
use Rattle.p3l_print.specs.Program.{canonical, IsTextOf}

-- a text that spells a program, positions aside, is read as one with the same canonical text
abbrev pub CanonicalTextsStay : Type 0
CanonicalTextsStay =
    (text : List ℕ) (program : ProgramTree) (is : IsTextOf text program) → canonical is.placed ≡ canonical program
