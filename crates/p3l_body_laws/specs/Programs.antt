-- The C functions of the bodies of a program that was read.
use Rattle.std.specs.Prelude.{◌≡◌, ℕ, ℤ, ◌<◌, List, length, Ok, FitsSigned}
use Rattle.std.specs.List.{AllByRecursion}
use Rattle.std.specs.Int.{w64}
use Rattle.p3l_ast.specs.Tree.{ProgramTree}
use Rattle.p3l_grammar.specs.Grammar.{Spells}
use Rattle.p3l_body.specs.Eval.{eval}
use Rattle.p3l_body.specs.Seq.{SeqTree}
use Rattle.p3l_check.specs.Resolving.{ResolvedTree, resolved}
use Rattle.p3l_c.specs.Condition.{IsWritable, total, gives, function_of, called}

-- each body of a program that a text spells, and that keeps the rules, can be written as C
abbrev pub BodiesWrite : Type 0
BodiesWrite =
    (bytes : List ℕ) (program : ProgramTree) (r : ResolvedTree) → Spells bytes program → resolved program ≡ Ok r → AllByRecursion IsWritable r.seqs

-- the function of a body gives the meaning of the body on all words, with any bound on the rounds
-- of a loop above its budget
abbrev pub FunctionMeans : SeqTree → Type 0
FunctionMeans seq =
    (words : List ℤ) (fuel : ℕ) → length words ≡ total seq.ins → AllByRecursion (FitsSigned w64) words → seq.budget < fuel →
    called fuel seq.home (function_of seq) words ≡ gives (eval seq words)

abbrev pub BodiesMean : Type 0
BodiesMean =
    (bytes : List ℕ) (program : ProgramTree) (r : ResolvedTree) → Spells bytes program → resolved program ≡ Ok r → AllByRecursion FunctionMeans r.seqs
