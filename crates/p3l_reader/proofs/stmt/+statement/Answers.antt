use Rattle.p3l_ast.specs.Tree.{phrase, phrases, one, statements}
use Rattle.p3l_ast.proofs.Trees.{one_if, one_if_else, one_while, one_for, statements_push}
use Rattle.p3l_grammar.specs.Parser.{for_from}
use Rattle.p3l_reader.specs.Reading.{Fails}
use Rattle.p3l_reader.proofs.Tokens.{on_residual}
use Rattle.p3l_reader.proofs.Bodies.{for_fails_first, for_fails_test, for_fails_step, for_fails_body, if_skips_else, if_takes_else, while_reads, for_reads, stmts_more}
use Rattle.p3l_reader.proofs.stmt.+statement.Goals as goal

pub if_statement-returns-in_ok-other-in-Some-clause-ok :
    goal.if_statement-returns-in_ok-other-in-Some-clause-ok
if_statement-returns-in_ok-other-in-Some-clause-ok t c =
    rw (one_if_else c.in_ok-condition.condition c.in_ok-then.then c.in_ok-other-in-Some.other)
    (if_takes_else _ _ _ _ _ _ _ _ c.in_ok-condition.ensures.ok c.in_ok-then.ensures.ok c.in-Some.ensures.some c.in_ok-other-in-Some.ensures.ok)

pub if_statement-returns-in-None-clause-ok : goal.if_statement-returns-in-None-clause-ok
if_statement-returns-in-None-clause-ok t c =
    rw (one_if c.in_ok-condition.condition c.in_ok-then.then)
    (if_skips_else _ _ _ _ _ c.in_ok-condition.ensures.ok c.in_ok-then.ensures.ok c.in-None.ensures.none)

pub while_statement-returns-clause-ok : goal.while_statement-returns-clause-ok
while_statement-returns-clause-ok t c =
    rw (one_while c.in_ok-condition.condition c.in_ok-body.body)
    (while_reads _ _ _ _ _ c.in_ok-condition.ensures.ok c.in_ok-body.ensures.ok)

pub for_statement-returns-clause-ok : goal.for_statement-returns-clause-ok
for_statement-returns-clause-ok t c =
    rw (one_for c.in_ok-first.first c.in_ok-then.then c.in_ok-first.start c.in_ok-condition.condition c.in_ok-then.step c.in_ok-body.body)
    (for_reads _ _ _ _ _ _ _ _ _ _ _ _ _ _ c.in_ok-rest.ensures.ok c.in_ok-first.ensures.ok c.in_ok-condition.ensures.ok c.in_ok-then.ensures.ok c.in_ok-body.ensures.ok)

pub stmts-loop-list-preserved : goal.stmts-loop-list-preserved
stmts-loop-list-preserved t c =
    let some = rw c.in-Some.is at c.in_ok-stmt.ensures.some in
    let shorter = rw c.in-Some.is at c.in_ok-stmt.ensures.shorter in
    rw (c.in_ok-push.ensures.items, statements_push c.loop-list.list.items c.in-Some.stmt)
    (stmts_more c.args.tokens.now c.loop-list.rest.now c.in-Some.next.now (statements c.loop-list.list.items) (one c.in-Some.stmt) c.loop-list.invariant some shorter)

pub for_statement-returns-in_err-first-clause-err : goal.for_statement-returns-in_err-first-clause-err
for_statement-returns-in_err-first-clause-err t c =
    on_residual _ c.in_err-first.field-0.0 (Fails for_from c.args.tokens.now) c.from_residual-in_err-first.ensures.1
    (for_fails_first c.args.tokens.now c.in_ok-rest.rest.now _ c.in_ok-rest.ensures.ok c.in_err-first.ensures.err)

pub for_statement-returns-in_err-condition-clause-err : goal.for_statement-returns-in_err-condition-clause-err
for_statement-returns-in_err-condition-clause-err t c =
    on_residual _ c.in_err-condition.field-0.0 (Fails for_from c.args.tokens.now) c.from_residual-in_err-condition.ensures.1
    (for_fails_test c.args.tokens.now c.in_ok-rest.rest.now c.in_ok-first.rest.now c.in_ok-first.first.at (phrases c.in_ok-first.first.index.items) (phrase c.in_ok-first.start) _ c.in_ok-rest.ensures.ok c.in_ok-first.ensures.ok c.in_err-condition.ensures.err)

pub for_statement-returns-in_err-then-clause-err : goal.for_statement-returns-in_err-then-clause-err
for_statement-returns-in_err-then-clause-err t c =
    on_residual _ c.in_err-then.field-0.0 (Fails for_from c.args.tokens.now) c.from_residual-in_err-then.ensures.1
    (for_fails_step c.args.tokens.now c.in_ok-rest.rest.now c.in_ok-first.rest.now c.in_ok-condition.rest.now c.in_ok-first.first.at (phrases c.in_ok-first.first.index.items) (phrase c.in_ok-first.start) (phrase c.in_ok-condition.condition) _ c.in_ok-rest.ensures.ok c.in_ok-first.ensures.ok c.in_ok-condition.ensures.ok c.in_err-then.ensures.err)

pub for_statement-returns-in_err-body-clause-err : goal.for_statement-returns-in_err-body-clause-err
for_statement-returns-in_err-body-clause-err t c =
    on_residual _ c.in_err-body.field-0.0 (Fails for_from c.args.tokens.now) c.from_residual-in_err-body.ensures.1
    (for_fails_body c.args.tokens.now c.in_ok-rest.rest.now c.in_ok-first.rest.now c.in_ok-condition.rest.now c.in_ok-then.rest.now c.in_ok-first.first.at c.in_ok-then.then.at (phrases c.in_ok-first.first.index.items) (phrases c.in_ok-then.then.index.items) (phrase c.in_ok-first.start) (phrase c.in_ok-condition.condition) (phrase c.in_ok-then.step) _ c.in_ok-rest.ensures.ok c.in_ok-first.ensures.ok c.in_ok-condition.ensures.ok c.in_ok-then.ensures.ok c.in_err-body.ensures.err)
