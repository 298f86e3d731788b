use Rattle.std.proofs.Common.{◌∙◌, arith}
use Rattle.p3l_lexer.proofs.Closing.{close_found, close_on_first, close_on_second, close_end}
use Rattle.p3l_lexer.proofs.cut.close.Goals as goal
use Rattle.p3l_lexer.proofs.cut.close.Goals.{else-body-n-eq42-via-then-body-n-eq42+else-body-n-eq47, else-body-n-eq42-via-else-body-n-eq42}

pub returns-then-body-n-eq47-clause-some : goal.returns-then-body-n-eq47-clause-some
returns-then-body-n-eq47-clause-some c = c.loop-n.invariant.1 ∙ close_found c.args.body.now c.loop-n.n c.loop-n-test.true c.if-body-n-eq42.true c.if-body-n-eq47.true

pub loop-n-preserved : goal.loop-n-preserved
loop-n-preserved c = (
  omega arith,
  c.loop-n.invariant.1 ∙ (elim c.else-body-n-eq42.branch [
    | else-body-n-eq42-via-then-body-n-eq42+else-body-n-eq47 w ↦ close_on_second c.args.body.now c.loop-n.n c.loop-n-test.true w.if-body-n-eq47.false
    | else-body-n-eq42-via-else-body-n-eq42 w ↦ close_on_first c.args.body.now c.loop-n.n c.loop-n-test.true w.if-body-n-eq42.false
  ]),
)

pub returns-clause-none : goal.returns-clause-none
returns-clause-none c = c.loop-n.invariant.1 ∙ close_end c.args.body.now c.loop-n.n (omega arith)
