use Rattle.std.proofs.Common.{◌≡◌, ◌+◌, ◌++◌, ap, ◌∙◌, add-one}
use Rattle.p3l_base.specs.Memory.{OnGiven}
use Rattle.p3l_ast.specs.declared.expression.Expr.{Expr}
use Rattle.p3l_ast.specs.Tree.{phrase}
use Rattle.p3l_ast.specs.Notation.{level}
use Rattle.p3l_lexer.specs.Mark.{mark_text}
use Rattle.p3l_print.specs.Expression.{infix_text, expression_text}
use Rattle.p3l_print.proofs.Lines.{unary_text_is, binary_text_is, operand, followed, then}
use Rattle.p3l_print.proofs.printer.Printer.+expression.Goals as goal

pub expression-returns-in_ok-put-in-Unary : goal.expression-returns-in_ok-put-in-Unary
expression-returns-in_ok-put-in-Unary t c =
    let text = ap (λ (x : Expr). expression_text (phrase x)) c.in-Unary.is ∙ unary_text_is c.in-Unary.operator c.in-Unary.operand in
    let sign = c.as_bytes.ensures.value ∙ c.text.ensures ∙ ap mark_text c.mark_of_unary.ensures in
    let inner = c.deref.ensures in
    followed _ _ _ _ _ _ _ c.in_ok-put-in-Unary.ensures c.operand.ensures (text ∙ cc)

pub expression-returns-in_ok-infix-in-Binary : goal.expression-returns-in_ok-infix-in-Binary
expression-returns-in_ok-infix-in-Binary t c =
    let text = ap (λ (x : Expr). expression_text (phrase x)) c.in-Binary.is ∙ binary_text_is c.in-Binary.operator c.in-Binary.left c.in-Binary.right in
    let left : c.deref-in-Binary.result.now ≡ c.in-Binary.left.value = c.deref-in-Binary.ensures in
    let right : c.deref-in-Binary-2.result.now ≡ c.in-Binary.right.value = c.deref-in-Binary-2.ensures in
    let least : c.level-level.result ≡ level c.in-Binary.operator = c.level-level.ensures in
    let next = add-one c.level-level.result in
    let a = operand c.level-level.result c.deref-in-Binary.result.now in
    let b = infix_text c.in-Binary.operator in
    let d = operand (c.level-level.result + 1) c.deref-in-Binary-2.result.now in
    let first : c.operand-in-Binary.new.self ≡ c.args.self.now ++ a = c.in_ok-operand-in-Binary.ensures in
    let second : c.infix.new.self ≡ c.operand-in-Binary.new.self ++ b = c.in_ok-infix-in-Binary.ensures in
    let third : OnGiven c.operand-in-Binary-2.result (c.operand-in-Binary-2.new.self ≡ c.infix.new.self ++ d) = c.operand-in-Binary-2.ensures in
    let whole : expression_text (phrase c.args.expr.now) ≡ a ++ b ++ d = text ∙ cc in
    followed c.operand-in-Binary-2.result c.args.self.now c.infix.new.self c.operand-in-Binary-2.new.self (a ++ b) d (expression_text (phrase c.args.expr.now))
    (then c.args.self.now c.operand-in-Binary.new.self c.infix.new.self a b first second) third whole
