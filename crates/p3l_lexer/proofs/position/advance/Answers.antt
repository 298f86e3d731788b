use Rattle.std.proofs.Common.{arith, ◌∙◌, ap, sym, get_or}
use Rattle.p3l_lexer.specs.Position.{moved}
use Rattle.p3l_lexer.proofs.Positions.{position_more}
use Rattle.p3l_lexer.proofs.position.advance.Goals as goal

pub loop-byte-preserved : goal.loop-byte-preserved
loop-byte-preserved c = record {
  line = omega (arith, c.next-at.ensures.line, c.loop-byte.invariant.line);
  col = omega (arith, c.next-at.ensures.col, c.loop-byte.invariant.col);
  reached = λ before h.
      c.next-at.ensures.moved ∙ ap (λ at. moved at (get_or c.args.more.now c.loop-byte.byte-index 0)) (c.loop-byte.invariant.reached before h) ∙ sym (position_more before c.args.more.now c.loop-byte.byte-index c.loop-byte-test.true);
}
