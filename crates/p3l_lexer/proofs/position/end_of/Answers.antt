use Rattle.std.proofs.Common.{[], refl}
use Rattle.p3l_lexer.specs.Position.{position_after}
use Rattle.p3l_lexer.proofs.position.end_of.Goals as goal

pub returns : goal.returns
unfolding position_after
returns c = c.advance.ensures [] refl
