use Rattle.std.proofs.Common.{rules, ◌+◌, arith}
use Rattle.p3l_ast.specs.Tree.{phrase, phrases}
use Rattle.p3l_ast.proofs.Trees.{phrase_number, phrase_unary, phrase_binary, phrase_read, phrases_push}
use Rattle.p3l_reader.proofs.Tokens.{on_answer, on_error}
use Rattle.p3l_reader.proofs.Bodies.{follows_number, follows_place, fails_place, place_reads, follows_unary, follows_binary, index_more}
use Rattle.p3l_reader.proofs.expr.+expression.Goals as goal

pub unary-returns-clause-ok : goal.unary-returns-clause-ok
unary-returns-clause-ok t c =
    rw (phrase_unary c.args.op c.in_ok-new.field-0, c.in_ok-new.ensures.ok)
    (follows_unary c.args.op (phrase c.in_ok-inner.inner) c.args.tokens.now c.in_ok-inner.rest.now c.in_ok-inner.ensures.ok)

pub place-returns-clause-ok : goal.place-returns-clause-ok
place-returns-clause-ok t c =
    rw (phrase_read c.args.at c.in_ok-index.index)
    (place_reads c.args.tokens.now c.in_ok-index.rest.now c.args.at (phrases c.in_ok-index.index.items) c.in_ok-index.ensures.ok)

pub operand-returns-in-Some-2-clause-ok : goal.operand-returns-in-Some-2-clause-ok
operand-returns-in-Some-2-clause-ok t c =
    let b = rw c.in-Some-2.is at c.in_ok-at.ensures.some in
    on_answer c.place.result _ _ _ (λ x f l. follows_place c.args.tokens.now c.in-Some-2.rest.now x.1.now c.in-Some-2.at (phrase x.0) b f l) c.place.ensures.ok c.place.ensures.shorter

pub operand-returns-in-Some-2-clause-err : goal.operand-returns-in-Some-2-clause-err
operand-returns-in-Some-2-clause-err t c =
    let b = rw c.in-Some-2.is at c.in_ok-at.ensures.some in
    on_error c.place.result _ _ (λ e h. fails_place c.args.tokens.now c.in-Some-2.rest.now c.in-Some-2.at e b h) c.place.ensures.err

pub operand-returns-in-Some-digits_next-clause-ok : goal.operand-returns-in-Some-digits_next-clause-ok
operand-returns-in-Some-digits_next-clause-ok t c =
    rw (phrase_number _)
    (follows_number c.args.tokens.now c.in-Some-digits_next.rest.now c.in-Some-digits_next.value _ c.in-Some-digits_next.ensures.some (search rules))

pub index-loop-list-preserved : goal.index-loop-list-preserved
index-loop-list-preserved t c =
    let some = rw c.in-Some.is at c.in_ok-value.ensures.some in
    let shorter = rw c.in-Some.is at c.in_ok-value.ensures.shorter in
    rw (c.in_ok-push.ensures.items, phrases_push c.loop-list.list.items c.in-Some.value)
    (index_more c.args.tokens.now c.loop-list.rest.now c.in-Some.next.now (phrases c.loop-list.list.items) (phrase c.in-Some.value) c.loop-list.invariant some shorter)

pub expr-loop-op-preserved : goal.expr-loop-op-preserved
expr-loop-op-preserved t c =
    rw (phrase_binary c.in-Some.op c.in_ok-new.field-0 c.in_ok-new-2.field-0, c.in_ok-new.ensures.ok, c.in_ok-new-2.ensures.ok)
    (follows_binary c.args.least (c.level.result + 1) (phrase c.loop-op.left) (phrase c.in_ok-right.right) c.in-Some.op c.args.tokens.now c.loop-op.rest.now c.in-Some.after.now c.in_ok-right.next.now c.in-Some.ensures.tight (omega (arith, c.level.ensures)) c.loop-op.invariant c.in-Some.ensures.some c.in_ok-right.ensures.ok c.in_ok-right.ensures.stops)
