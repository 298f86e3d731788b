use Rattle.std.proofs.Common.{arith}
use Rattle.p3l_rewrite.proofs.Bodies.{boxed, unary_copied, binary_copied, more_copied}
use Rattle.p3l_ast.proofs.Trees.{phrase_read}
use Rattle.p3l_rewrite.proofs.body.+copying.Goals as goal

pub expression-returns-in_ok-target-in-Read : goal.expression-returns-in_ok-target-in-Read
expression-returns-in_ok-target-in-Read t c =
    let copied = phrase_read c.in_ok-target-in-Read.field-0.at c.in_ok-target-in-Read.field-0.index in
    let given = phrase_read c.in-Read.place.at c.in-Read.place.index in
    let at = c.in_ok-target-in-Read.ensures.at in
    let index = c.in_ok-target-in-Read.ensures.index in
    let is = c.in-Read.is in cc

pub expression-returns-in_ok-operand-in-Unary : goal.expression-returns-in_ok-operand-in-Unary
expression-returns-in_ok-operand-in-Unary t c =
    unary_copied c.in-Unary.operator c.in_ok-operand-in-Unary.operand c.in-Unary.operand c.args.expr.now
    (boxed c.in_ok-operand-in-Unary.operand c.in-Unary.operand _ _ c.in_ok-operand-in-Unary.ensures.ok c.in_ok-expression-in-Unary.ensures c.deref.ensures) c.in-Unary.is

pub expression-returns-in_ok-right-in-Binary : goal.expression-returns-in_ok-right-in-Binary
expression-returns-in_ok-right-in-Binary t c =
    binary_copied c.in-Binary.operator c.in_ok-left-in-Binary.left c.in_ok-right-in-Binary.right c.in-Binary.left c.in-Binary.right c.args.expr.now
    (boxed c.in_ok-left-in-Binary.left c.in-Binary.left _ _ c.in_ok-left-in-Binary.ensures.ok c.in_ok-expression-in-Binary.ensures c.deref-in-Binary.ensures)
    (boxed c.in_ok-right-in-Binary.right c.in-Binary.right _ _ c.in_ok-right-in-Binary.ensures.ok c.in_ok-expression-in-Binary-2.ensures c.deref-in-Binary-2.ensures) c.in-Binary.is

pub target-loop-expr-preserved : goal.target-loop-expr-preserved
target-loop-expr-preserved t c =
    more_copied c.loop-expr.index.items c.deref-expr-items.result.now c.push.new.self.items c.loop-expr.expr-index c.in_ok-expression.field-0 c.expr-item.result
    c.in_ok-push.ensures.items c.loop-expr.invariant c.in_ok-expression.ensures (omega arith) c.expr-item.is
