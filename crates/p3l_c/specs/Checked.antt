-- The bodies of checked modules are such as can be written as C.
use Rattle.std.specs.Prelude.{◌≡◌, ℕ, FitsSigned, Ok}
use Rattle.std.specs.Int.{w64}
use Rattle.p3l_ast.specs.Tree.{Phrase, number, read, unary, binary, Phrases, none, more, Statements, done, assign, if_, if_else, while_, for_, InsideTree, body, calls, turning, ModuleTree}
use Rattle.p3l_types.specs.Constants.{Constants}
use Rattle.p3l_body.specs.Seq.{SeqTree, checked_seq}
use Rattle.p3l_c.specs.Condition.{ConstantsFit, IsWritable}

-- int64_t has each number of an expression
abbrev mutual
  pub NumbersFit : Phrase → Type 0
  NumbersFit (number v) = FitsSigned w64 v
  NumbersFit (read x is) = IndicesFit is
  NumbersFit (unary op e) = NumbersFit e
  NumbersFit (binary op a b) = NumbersFit a × NumbersFit b

  pub IndicesFit : Phrases → Type 0
  IndicesFit none = Unit {0}
  IndicesFit (more e is) = NumbersFit e × IndicesFit is

-- and of statements
abbrev pub CodeFits : Statements → Type 0
CodeFits done = Unit {0}
CodeFits (assign x is e after) = IndicesFit is × NumbersFit e × CodeFits after
CodeFits (if_ e if_so after) = NumbersFit e × CodeFits if_so × CodeFits after
CodeFits (if_else e if_so if_not after) = NumbersFit e × CodeFits if_so × CodeFits if_not × CodeFits after
CodeFits (while_ e again after) = NumbersFit e × CodeFits again × CodeFits after
CodeFits (for_ x is e w y js f again after) =
    IndicesFit is × NumbersFit e × NumbersFit w × IndicesFit js × NumbersFit f × CodeFits again × CodeFits after

abbrev pub InsideFits : InsideTree → Type 0
InsideFits (body locals statements) = CodeFits statements
InsideFits (calls cs) = Unit {0}
InsideFits (turning b c) = Unit {0}

-- a checked body can be written as C, if int64_t has its numbers and those of the constants before
-- it
abbrev pub CheckedWrites : Type 0
CheckedWrites =
    (constants : Constants) (home : ℕ) (m : ModuleTree) (seq : SeqTree) →
    ConstantsFit constants → InsideFits m.inside → checked_seq constants home m ≡ Ok seq → IsWritable seq
