use Rattle.std.proofs.Common.{arith, ◌+◌}
use Rattle.p3l_lexer.proofs.Values.{value_of-more, value_of-front}
use Rattle.p3l_lexer.proofs.piece.value.Goals as goal

pub returns-then-value : goal.returns-then-value
returns-then-value c =
    omega (arith, c.loop-byte.invariant.is, value_of-more c.args.digits.now c.loop-byte.byte-index c.loop-byte-test.true, value_of-front c.args.digits.now (c.loop-byte.byte-index + 1), c.from.ensures, c.if-value.true)
