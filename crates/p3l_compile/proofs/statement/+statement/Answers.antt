use Rattle.std.proofs.Common.{◌≡◌, ◌+◌, List, ◌∷◌, ◌++◌, length, refl, sym, ap, ◌∙◌, arith, length-append, append_assoc, length-set}
use Rattle.std.proofs.lemmas.Result.{on_ok_weaker}
use Rattle.p3l_compile.proofs.Given.{given_weaker}
use Rattle.std.proofs.lemmas.List.{append-nil}
use Rattle.p3l_ast.specs.declared.statement.Stmt.{Stmt}
use Rattle.p3l_ast.specs.Tree.{phrase, phrases, statements, join, assign, done, while_}
use Rattle.p3l_compile.specs.Phrase.{phrase_size, phrase_code}
use Rattle.p3l_compile.specs.Statement.{assign_size, statement_size, statement_code, assign_code}
use Rattle.p3l_code.specs.declared.instr.Instr.TheVariants.{JumpZero, Jump}
use Rattle.p3l_compile.proofs.Phrases.{phrase_length}
use Rattle.p3l_compile.proofs.Statements.{statement_length}
use Rattle.p3l_compile.proofs.Joined.{size_join, statement_falls, statement_left, statement_emitted, branch_emitted, choice_emitted, loop_emitted, stepped_emitted}
use Rattle.p3l_compile.proofs.Choices.{assign_tree, if_tree, choice_tree, while_tree, for_tree, turns_size, turns_code}
use Rattle.p3l_compile.proofs.statement.+statement.Goals as goal

pub emit_stmt-emit_assign-requires : goal.emit_stmt-emit_assign-requires
emit_stmt-emit_assign-requires t c =
    let e = ap statement_size (assign_tree c.args.stmt.now c.in-Assign.target c.in-Assign.expr c.in-Assign.is) in
    omega arith

pub emit_stmt-emit_if-requires : goal.emit_stmt-emit_if-requires
emit_stmt-emit_if-requires t c =
    let e = ap statement_size (if_tree c.args.stmt.now c.in-If.condition c.in-If.then c.in-If.other c.deref-in-None.result.now c.in-If.is c.in-None.is c.deref-in-None.ensures.value) in
    (omega arith, omega arith)

pub emit_stmt-emit_choice-requires : goal.emit_stmt-emit_choice-requires
emit_stmt-emit_choice-requires t c =
    let e = ap statement_size (choice_tree c.args.stmt.now c.in-If.condition c.in-If.then c.in-Some.other c.in-If.other c.deref.result.now c.deref-in-Some.result.now c.in-If.is c.in-Some.is c.deref.ensures.value c.deref-in-Some.ensures.value) in
    (omega arith, omega arith)

pub emit_stmt-emit_while-requires : goal.emit_stmt-emit_while-requires
emit_stmt-emit_while-requires t c =
    let e = ap statement_size (while_tree c.args.stmt.now c.in-While.condition c.in-While.body c.deref-in-While.result.now c.in-While.is c.deref-in-While.ensures.value) in
    (omega arith, omega arith)

pub emit_stmt-emit_assign-requires-in-For : goal.emit_stmt-emit_assign-requires-in-For
emit_stmt-emit_assign-requires-in-For t c =
    let e = ap statement_size (for_tree c.args.stmt.now c.in-For.first c.in-For.next c.in-For.start c.in-For.condition c.in-For.step c.in-For.body c.in-For.body.items c.in-For.is refl) in
    omega arith

pub emit_stmt-emit_turns-requires : goal.emit_stmt-emit_turns-requires
emit_stmt-emit_turns-requires t c =
    let e = ap statement_size (for_tree c.args.stmt.now c.in-For.first c.in-For.next c.in-For.start c.in-For.condition c.in-For.step c.in-For.body c.in-For.body.items c.in-For.is refl) in
    let k = turns_size c.in-For.first c.in-For.next c.in-For.start c.in-For.condition c.in-For.step c.in-For.body.items in
    let d = ap (λ x. statement_size (statements x)) c.deref-in-For.ensures.value in
    let first = c.in_ok-emit_assign-in-For.ensures.size in
    let m = size_join (statements c.deref-in-For.result.now) (assign c.in-For.next.at (phrases c.in-For.next.index.items) (phrase c.in-For.step) done) in
    let n = size_join (statements c.in-For.body.items) (assign c.in-For.next.at (phrases c.in-For.next.index.items) (phrase c.in-For.step) done) in
    (omega arith, omega arith)

pub emit_stmt-returns-in-Assign-clause-code : goal.emit_stmt-returns-in-Assign-clause-code
emit_stmt-returns-in-Assign-clause-code t c =
    rw (assign_tree c.args.stmt.now c.in-Assign.target c.in-Assign.expr c.in-Assign.is) (given_weaker c.emit_assign.result (λ d. d ∙ ap (λ l. c.args.code.now.items ++ l) (sym (append-nil _))) c.emit_assign.ensures.code)

pub emit_stmt-returns-in-Assign-clause-size : goal.emit_stmt-returns-in-Assign-clause-size
emit_stmt-returns-in-Assign-clause-size t c =
    rw (assign_tree c.args.stmt.now c.in-Assign.target c.in-Assign.expr c.in-Assign.is) (on_ok_weaker c.emit_assign.result (λ d. omega arith) c.emit_assign.ensures.size)

pub emit_stmt-returns-in-None-clause-code : goal.emit_stmt-returns-in-None-clause-code
emit_stmt-returns-in-None-clause-code t c = rw (if_tree c.args.stmt.now c.in-If.condition c.in-If.then c.in-If.other c.deref-in-None.result.now c.in-If.is c.in-None.is c.deref-in-None.ensures.value) c.emit_if.ensures.code

pub emit_stmt-returns-in-None-clause-size : goal.emit_stmt-returns-in-None-clause-size
emit_stmt-returns-in-None-clause-size t c = rw (if_tree c.args.stmt.now c.in-If.condition c.in-If.then c.in-If.other c.deref-in-None.result.now c.in-If.is c.in-None.is c.deref-in-None.ensures.value) c.emit_if.ensures.size

pub emit_stmt-returns-in-Some-clause-code : goal.emit_stmt-returns-in-Some-clause-code
emit_stmt-returns-in-Some-clause-code t c = rw (choice_tree c.args.stmt.now c.in-If.condition c.in-If.then c.in-Some.other c.in-If.other c.deref.result.now c.deref-in-Some.result.now c.in-If.is c.in-Some.is c.deref.ensures.value c.deref-in-Some.ensures.value) c.emit_choice.ensures.code

pub emit_stmt-returns-in-Some-clause-size : goal.emit_stmt-returns-in-Some-clause-size
emit_stmt-returns-in-Some-clause-size t c = rw (choice_tree c.args.stmt.now c.in-If.condition c.in-If.then c.in-Some.other c.in-If.other c.deref.result.now c.deref-in-Some.result.now c.in-If.is c.in-Some.is c.deref.ensures.value c.deref-in-Some.ensures.value) c.emit_choice.ensures.size

pub emit_stmt-returns-in-While-clause-code : goal.emit_stmt-returns-in-While-clause-code
emit_stmt-returns-in-While-clause-code t c = rw (while_tree c.args.stmt.now c.in-While.condition c.in-While.body c.deref-in-While.result.now c.in-While.is c.deref-in-While.ensures.value) c.emit_while.ensures.code

pub emit_stmt-returns-in-While-clause-size : goal.emit_stmt-returns-in-While-clause-size
emit_stmt-returns-in-While-clause-size t c = rw (while_tree c.args.stmt.now c.in-While.condition c.in-While.body c.deref-in-While.result.now c.in-While.is c.deref-in-While.ensures.value) c.emit_while.ensures.size

pub emit_stmt-returns-in_ok-emit_assign-in-For-clause-size : goal.emit_stmt-returns-in_ok-emit_assign-in-For-clause-size
emit_stmt-returns-in_ok-emit_assign-in-For-clause-size t c =
    let k = turns_size c.in-For.first c.in-For.next c.in-For.start c.in-For.condition c.in-For.step c.in-For.body.items in
    let e = ap statement_size (for_tree c.args.stmt.now c.in-For.first c.in-For.next c.in-For.start c.in-For.condition c.in-For.step c.in-For.body c.in-For.body.items c.in-For.is refl) in
    let same = ap (λ x. statement_size (while_ (phrase c.in-For.condition) (join (statements x) (assign c.in-For.next.at (phrases c.in-For.next.index.items) (phrase c.in-For.step) done)) done)) c.deref-in-For.ensures.value in
    let first = c.in_ok-emit_assign-in-For.ensures.size in
    on_ok_weaker c.emit_turns.result (λ d. omega arith) c.emit_turns.ensures.size

pub emit_stmt-returns-in_ok-emit_assign-in-For-clause-code : goal.emit_stmt-returns-in_ok-emit_assign-in-For-clause-code
emit_stmt-returns-in_ok-emit_assign-in-For-clause-code t c =
    let turn = λ (x : List Stmt). while_ (phrase c.in-For.condition) (join (statements x) (assign c.in-For.next.at (phrases c.in-For.next.index.items) (phrase c.in-For.step) done)) done in
    let first = assign_code c.args.scope.now (length c.args.code.now.items) c.in-For.first.at.name (phrases c.in-For.first.index.items) (phrase c.in-For.start) in
    given_weaker c.emit_turns.result (λ d. d
    ∙ ap (λ l. l ++ statement_code c.args.scope.now (length c.emit_assign-in-For.new.code.items) (turn c.deref-in-For.result.now)) c.in_ok-emit_assign-in-For.ensures.code
    ∙ ap (λ n. (c.args.code.now.items ++ first) ++ statement_code c.args.scope.now n (turn c.deref-in-For.result.now)) c.in_ok-emit_assign-in-For.ensures.size
    ∙ ap (λ x. (c.args.code.now.items ++ first) ++ statement_code c.args.scope.now (length c.args.code.now.items + assign_size (phrases c.in-For.first.index.items) (phrase c.in-For.start)) (turn x)) c.deref-in-For.ensures.value
    ∙ append_assoc c.args.code.now.items first _
    ∙ ap (λ l. c.args.code.now.items ++ l) (sym (turns_code c.args.scope.now (length c.args.code.now.items) c.in-For.first c.in-For.next c.in-For.start c.in-For.condition c.in-For.step c.in-For.body.items))
    ∙ ap (λ x. c.args.code.now.items ++ statement_code c.args.scope.now (length c.args.code.now.items) x) (sym (for_tree c.args.stmt.now c.in-For.first c.in-For.next c.in-For.start c.in-For.condition c.in-For.step c.in-For.body c.in-For.body.items c.in-For.is refl))) c.emit_turns.ensures.code

pub emit_stmts-emit_stmt-requires : goal.emit_stmts-emit_stmt-requires
emit_stmts-emit_stmt-requires t c =
    let d = c.loop-stmt.stmt-index in
    let f = statement_falls c.args.scope.now c.args.stmts.now d c.stmt-item.result c.loop-stmt-test.true c.stmt-item.is in
    let l = statement_left c.args.stmts.now d in
    (omega (arith, c.loop-stmt.invariant.size), omega (arith, c.loop-stmt.invariant.size))

pub emit_stmts-loop-stmt-preserved : goal.emit_stmts-loop-stmt-preserved
emit_stmts-loop-stmt-preserved t c =
    let d = c.loop-stmt.stmt-index in
    let f = statement_falls c.args.scope.now c.args.stmts.now d c.stmt-item.result c.loop-stmt-test.true c.stmt-item.is in
    record {
      so_far = statement_emitted c.args.scope.now c.args.stmts.now d c.stmt-item.result c.loop-stmt.code.items c.emit_stmt.new.code.items _ c.loop-stmt-test.true c.stmt-item.is c.loop-stmt.invariant.so_far c.in_ok-emit_stmt.ensures.code c.in_ok-emit_stmt.ensures.size;
      size = omega (arith, c.loop-stmt.invariant.size, c.in_ok-emit_stmt.ensures.size);
    }

pub emit_if-returns-clause-code : goal.emit_if-returns-clause-code
emit_if-returns-clause-code t c =
    branch_emitted c.args.code.now.items _ (λ p. statement_code c.args.scope.now p (statements c.args.then.now)) (phrase_size (phrase c.args.condition.now)) (statement_size (statements c.args.then.now)) c.emit_expr.new.code.items c.put.new.code.items c.emit_stmts.new.code.items _ c.len-jump.result c.place.result
    c.in_ok-emit_expr.ensures.code c.in_ok-emit_expr.ensures.size (c.len-jump.ensures ∙ c.emit_expr.new.code.ok.0) c.in_ok-put.ensures.code c.in_ok-put.ensures.size c.in_ok-emit_stmts.ensures.code c.in_ok-emit_stmts.ensures.size c.place.ensures

pub emit_choice-returns-clause-code : goal.emit_choice-returns-clause-code
emit_choice-returns-clause-code t c =
    let test = phrase_code c.args.scope.now (length c.args.code.now.items) (phrase c.args.condition.now) in
    let a = statement_code c.args.scope.now (length c.put.new.code.items) (statements c.args.then.now) in
    let lt = phrase_length c.args.scope.now (length c.args.code.now.items) (phrase c.args.condition.now) in
    let la = statement_length c.args.scope.now (length c.put.new.code.items) (statements c.args.then.now) in
    let whole : length (c.args.code.now.items ++ (test ++ (JumpZero c.place.result ∷ a))) ≡ length c.emit_stmts.new.code.items =
    omega (arith, length-append c.args.code.now.items (test ++ (JumpZero c.place.result ∷ a)), length-append test (JumpZero c.place.result ∷ a), c.in_ok-emit_stmts.ensures.size, c.in_ok-put.ensures.size, c.in_ok-emit_expr.ensures.size) in
    choice_emitted c.args.code.now.items test (λ p. statement_code c.args.scope.now p (statements c.args.then.now)) (λ p. statement_code c.args.scope.now p (statements c.args.other.now)) (phrase_size (phrase c.args.condition.now)) (statement_size (statements c.args.then.now)) (statement_size (statements c.args.other.now))
    c.emit_expr.new.code.items c.put.new.code.items c.emit_stmts.new.code.items c.put-2.new.code.items _ c.emit_stmts-2.new.code.items _ _ c.len-jump.result c.len-skip.result c.place.result c.place-2.result
    c.in_ok-emit_expr.ensures.code c.in_ok-emit_expr.ensures.size (c.len-jump.ensures ∙ c.emit_expr.new.code.ok.0) c.in_ok-put.ensures.code c.in_ok-put.ensures.size c.in_ok-emit_stmts.ensures.code c.in_ok-emit_stmts.ensures.size (c.len-skip.ensures ∙ c.emit_stmts.new.code.ok.0)
    c.in_ok-put-2.ensures.code c.in_ok-put-2.ensures.size c.place.ensures refl (length-set c.put-2.new.code.items c.len-jump.result (JumpZero c.place.result)) c.in_ok-emit_stmts-2.ensures.code c.in_ok-emit_stmts-2.ensures.size c.place-2.ensures whole

pub emit_while-returns-clause-code : goal.emit_while-returns-clause-code
emit_while-returns-clause-code t c =
    given_weaker c.put-3.result (λ d.
    loop_emitted c.args.code.now.items (λ p. statement_code c.args.scope.now p (statements c.args.body.now)) (λ p. phrase_code c.args.scope.now p (phrase c.args.condition.now)) (statement_size (statements c.args.body.now)) (phrase_size (phrase c.args.condition.now))
    c.put.new.code.items c.put-2.new.code.items c.emit_stmts.new.code.items _ c.emit_expr.new.code.items c.put-3.new.code.items _ c.len-start.result c.place-top.result c.place.result
    (c.len-start.ensures ∙ c.args.code.now.ok.0) c.in_ok-put.ensures.code c.in_ok-put.ensures.size c.place-top.ensures c.in_ok-put-2.ensures.code c.in_ok-put-2.ensures.size c.in_ok-emit_stmts.ensures.code c.in_ok-emit_stmts.ensures.size c.place.ensures refl (length-set c.emit_stmts.new.code.items c.len-start.result (Jump c.place.result)) c.in_ok-emit_expr.ensures.code c.in_ok-emit_expr.ensures.size d) c.put-3.ensures.code

pub emit_turns-emit_stmts-requires : goal.emit_turns-emit_stmts-requires
emit_turns-emit_stmts-requires t c =
    let j = size_join (statements c.args.body.now) (assign c.args.next.now.at (phrases c.args.next.now.index.items) (phrase c.args.step.now) done) in
    (omega arith, omega (arith, c.in_ok-put.ensures.size, c.in_ok-put-2.ensures.size))

pub emit_turns-emit_assign-requires : goal.emit_turns-emit_assign-requires
emit_turns-emit_assign-requires t c =
    let j = size_join (statements c.args.body.now) (assign c.args.next.now.at (phrases c.args.next.now.index.items) (phrase c.args.step.now) done) in
    omega (arith, c.in_ok-put.ensures.size, c.in_ok-put-2.ensures.size, c.in_ok-emit_stmts.ensures.size)

pub emit_turns-place-requires : goal.emit_turns-place-requires
emit_turns-place-requires t c =
    let j = size_join (statements c.args.body.now) (assign c.args.next.now.at (phrases c.args.next.now.index.items) (phrase c.args.step.now) done) in
    omega (arith, c.in_ok-put.ensures.size, c.in_ok-put-2.ensures.size, c.in_ok-emit_stmts.ensures.size, c.in_ok-emit_assign.ensures.size)

pub emit_turns-emit_expr-requires : goal.emit_turns-emit_expr-requires
emit_turns-emit_expr-requires t c =
    let j = size_join (statements c.args.body.now) (assign c.args.next.now.at (phrases c.args.next.now.index.items) (phrase c.args.step.now) done) in
    let s = length-set c.emit_assign.new.code.items c.len-start.result (Jump c.place.result) in
    omega (arith, c.in_ok-put.ensures.size, c.in_ok-put-2.ensures.size, c.in_ok-emit_stmts.ensures.size, c.in_ok-emit_assign.ensures.size)

pub emit_turns-returns-clause-size : goal.emit_turns-returns-clause-size
emit_turns-returns-clause-size t c =
    let j = size_join (statements c.args.body.now) (assign c.args.next.now.at (phrases c.args.next.now.index.items) (phrase c.args.step.now) done) in
    let s = length-set c.emit_assign.new.code.items c.len-start.result (Jump c.place.result) in
    on_ok_weaker c.put-3.result (λ d. omega (arith, c.in_ok-put.ensures.size, c.in_ok-put-2.ensures.size, c.in_ok-emit_stmts.ensures.size, c.in_ok-emit_assign.ensures.size, c.in_ok-emit_expr.ensures.size)) c.put-3.ensures.size

pub emit_turns-returns-clause-code : goal.emit_turns-returns-clause-code
emit_turns-returns-clause-code t c =
    let j = size_join (statements c.args.body.now) (assign c.args.next.now.at (phrases c.args.next.now.index.items) (phrase c.args.step.now) done) in
    let body = stepped_emitted c.args.scope.now (statements c.args.body.now) c.args.next.now (phrase c.args.step.now) c.put-2.new.code.items c.emit_stmts.new.code.items c.emit_assign.new.code.items c.in_ok-emit_stmts.ensures.code c.in_ok-emit_stmts.ensures.size c.in_ok-emit_assign.ensures.code in
    let size : length c.emit_assign.new.code.items ≡ length c.put-2.new.code.items + statement_size (join (statements c.args.body.now) (assign c.args.next.now.at (phrases c.args.next.now.index.items) (phrase c.args.step.now) done)) = omega (arith, c.in_ok-emit_stmts.ensures.size, c.in_ok-emit_assign.ensures.size) in
    given_weaker c.put-3.result (λ d.
    loop_emitted c.args.code.now.items (λ p. statement_code c.args.scope.now p (join (statements c.args.body.now) (assign c.args.next.now.at (phrases c.args.next.now.index.items) (phrase c.args.step.now) done))) (λ p. phrase_code c.args.scope.now p (phrase c.args.condition.now)) (statement_size (join (statements c.args.body.now) (assign c.args.next.now.at (phrases c.args.next.now.index.items) (phrase c.args.step.now) done))) (phrase_size (phrase c.args.condition.now))
    c.put.new.code.items c.put-2.new.code.items c.emit_assign.new.code.items _ c.emit_expr.new.code.items c.put-3.new.code.items _ c.len-start.result c.place-top.result c.place.result
    (c.len-start.ensures ∙ c.args.code.now.ok.0) c.in_ok-put.ensures.code c.in_ok-put.ensures.size c.place-top.ensures c.in_ok-put-2.ensures.code c.in_ok-put-2.ensures.size body size c.place.ensures refl (length-set c.emit_assign.new.code.items c.len-start.result (Jump c.place.result)) c.in_ok-emit_expr.ensures.code c.in_ok-emit_expr.ensures.size d) c.put-3.ensures.code
