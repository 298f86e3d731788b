use Rattle.std.proofs.Common.{ap}
use Rattle.p3l_lexer.specs.Piece.{block_of}
use Rattle.p3l_lexer.proofs.Classifying.{block_gap}
use Rattle.p3l_lexer.proofs.piece.block.Goals as goal

pub returns-in-Some : goal.returns-in-Some
returns-in-Some c = block_gap _ _ c.in-Some.ensures.some c.requires

pub returns-in-None : goal.returns-in-None
unfolding block_of
returns-in-None c = ap block_of c.in-None.ensures.none
