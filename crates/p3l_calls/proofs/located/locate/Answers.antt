use Rattle.std.proofs.Common.{◌∙◌, arith}
use Rattle.p3l_calls.proofs.Tables.{locate-more, total-more}
use Rattle.p3l_calls.proofs.located.locate.Goals as goal

pub loop-var-preserved : goal.loop-var-preserved
loop-var-preserved c = record {
  same = λ name.
      rw (c.in_ok-add.ensures, c.words_of-start.ensures)
      (locate-more c.loop-var.table c.loop-var.start c.args.vars.now c.loop-var.var-index c.var-item.result (omega arith) c.var-item.is name
      ∙ c.loop-var.invariant.same name);
  words = omega (arith, total-more c.args.vars.now c.loop-var.var-index c.var-item.result (omega arith) c.var-item.is);
}
