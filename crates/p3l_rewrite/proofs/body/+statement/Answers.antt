use Rattle.std.proofs.Common.{◌≡◌, ap, ◌∙◌, arith}
use Rattle.p3l_ast.specs.declared.statement.Stmt.TheVariants.{If}
use Rattle.p3l_ast.specs.Tree.{statements, one}
use Rattle.p3l_rewrite.proofs.Bodies.{assign_copied, if_copied, if_else_copied, while_copied, for_copied, more_statements}
use Rattle.p3l_rewrite.proofs.body.+statement.Goals as goal

pub block-loop-stmt-preserved : goal.block-loop-stmt-preserved
block-loop-stmt-preserved t c =
    more_statements c.loop-stmt.copies.items c.args.stmts.now c.push.new.self.items c.loop-stmt.stmt-index c.in_ok-statement.field-0 c.stmt-item.result
    c.in_ok-push.ensures.items c.loop-stmt.invariant c.in_ok-statement.ensures (omega arith) c.stmt-item.is

pub statement-returns-in_ok-set-in-Assign : goal.statement-returns-in_ok-set-in-Assign
statement-returns-in_ok-set-in-Assign t c =
    let set = c.in_ok-set-in-Assign in
    assign_copied set.set.place c.in-Assign.place set.set.value c.in-Assign.value c.args.stmt.now
    (record { at = set.ensures.at; index = set.ensures.index }) set.ensures.value c.in-Assign.is

pub statement-returns-in-None : goal.statement-returns-in-None
statement-returns-in-None t c =
    let condition = c.in_ok-condition-in-If in
    let then = c.in_ok-then-in-If in
    let same : statements then.then.items ≡ statements c.in-If.then.items = then.ensures ∙ ap statements c.deref.ensures.value in
    if_copied condition.condition c.in-If.condition then.then c.in-If.then c.args.stmt.now condition.ensures same
    (c.in-If.is ∙ ap (If c.in-If.condition c.in-If.then) c.in-None.is)

pub statement-returns-in_ok-otherwise-in-Some : goal.statement-returns-in_ok-otherwise-in-Some
statement-returns-in_ok-otherwise-in-Some t c =
    let condition = c.in_ok-condition-in-If in
    let then = c.in_ok-then-in-If in
    let otherwise = c.in_ok-otherwise-in-Some in
    let same : statements then.then.items ≡ statements c.in-If.then.items = then.ensures ∙ ap statements c.deref.ensures.value in
    let other : statements otherwise.otherwise.items ≡ statements c.in-Some.otherwise.items = otherwise.ensures ∙ ap statements c.deref-in-Some.ensures.value in
    if_else_copied condition.condition c.in-If.condition then.then c.in-If.then otherwise.otherwise c.in-Some.otherwise c.args.stmt.now condition.ensures same other
    (c.in-If.is ∙ ap (If c.in-If.condition c.in-If.then) c.in-Some.is)

pub statement-returns-in_ok-body-in-While : goal.statement-returns-in_ok-body-in-While
statement-returns-in_ok-body-in-While t c =
    let condition = c.in_ok-condition-in-While in
    let body = c.in_ok-body-in-While in
    let same : statements body.body.items ≡ statements c.in-While.body.items = body.ensures ∙ ap statements c.deref-in-While.ensures.value in
    while_copied condition.condition c.in-While.condition body.body c.in-While.body c.args.stmt.now condition.ensures same c.in-While.is

pub statement-returns-in_ok-body-in-For : goal.statement-returns-in_ok-body-in-For
statement-returns-in_ok-body-in-For t c =
    let first = c.in_ok-first-in-For in
    let next = c.in_ok-next-in-For in
    let condition = c.in_ok-condition-in-For in
    let body = c.in_ok-body-in-For in
    let given = c.in-For in
    let same : statements body.body.items ≡ statements given.body.items = body.ensures ∙ ap statements c.deref-in-For.ensures.value in
    ap one c.for_of.ensures
    ∙ for_copied first.first.place given.first next.next.place given.next first.first.value given.start condition.condition given.condition next.next.value given.step body.body given.body c.args.stmt.now
    (record { at = first.ensures.at; index = first.ensures.index }) first.ensures.value condition.ensures
    (record { at = next.ensures.at; index = next.ensures.index }) next.ensures.value same given.is
