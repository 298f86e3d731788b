-- The numbers of a program that a text spells.
use Rattle.std.specs.Prelude.{ℕ, List, FitsSigned}
use Rattle.std.specs.List.{AllByRecursion}
use Rattle.std.specs.Int.{w64}
use Rattle.p3l_ast.specs.Tree.{EntryTree, constant, defined, ProgramTree}
use Rattle.p3l_grammar.specs.Grammar.{Spells}
use Rattle.p3l_c.specs.Checked.{InsideFits}

-- int64_t has the number of a constant, and the numbers of a module's statements
abbrev pub EntryFits : EntryTree → Type 0
EntryFits (constant x value) = FitsSigned w64 value
EntryFits (defined m) = InsideFits m.inside

-- and those of all entries of a program that a text spells
abbrev pub NumbersAreSmall : Type 0
NumbersAreSmall = (bytes : List ℕ) (program : ProgramTree) → Spells bytes program → AllByRecursion EntryFits program.entries
