-- The laws.
use Rattle.std.specs.Prelude.{◌≡◌, ℤ, List}
use Rattle.p3l_ast.specs.Tree.{ProgramTree}
use Rattle.p3l_ast.specs.Unplaced.{program_unplaced}
use Rattle.p3l_body.specs.Seq.{SeqTree}
use Rattle.p3l_body.specs.Eval.{eval}
use Rattle.p3l_check.specs.Resolving.{resolved}
use Rattle.p3l_position_laws.specs.Forgetting.{settled}
use Rattle.p3l_position_laws.specs.Bodies.{seq_unplaced}
use Rattle.p3l_position_laws.specs.Checked.{resolved_unplaced}

-- a program without positions comes to what it comes to with them, but for the positions in that
abbrev pub ProgramsSettle : Type 0
ProgramsSettle = (program : ProgramTree) → resolved (program_unplaced program) ≡ settled resolved_unplaced (resolved program)

-- a checked body without positions does what it does with them
abbrev pub BodiesStay : Type 0
BodiesStay = (seq : SeqTree) (words : List ℤ) → eval (seq_unplaced seq) words ≡ eval seq words
