use Rattle.p3l_lexer.proofs.Naming.{words_are_text}
use Rattle.p3l_lexer.proofs.piece.name.Goals as goal

pub unreachable-requires : goal.unreachable-requires
unreachable-requires c = c.in-Err.ensures.cases.0 (words_are_text c.args.text.now c.requires)
