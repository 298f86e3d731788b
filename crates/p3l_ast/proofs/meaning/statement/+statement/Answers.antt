use Rattle.std.proofs.Common.{◌≡◌, ◌+◌, arith, List, true, false, Option, Ok, drop, sym, ap, ◌∙◌}
use Rattle.std.specs.declared.vec.Vec.{Vec}
use Rattle.std.specs.declared.alloc.Global.{Global}
use Rattle.std.proofs.lemmas.List.{drop_all}
use Rattle.p3l_ast.specs.declared.statement.Stmt.{Stmt}
use Rattle.p3l_ast.specs.declared.statement.Stmt.TheVariants.{If}
use Rattle.p3l_ast.specs.Tree.{phrase, phrases, one, statements}
use Rattle.p3l_ast.specs.Meaning.Statement.{assigned, loop_of, run_of}
use Rattle.p3l_ast.proofs.Runs.{holding, stepped, trap_handed, stop_handed, gives_same, stop_given, ok_given, run_none, run_next, run_assign, run_while, run_for, turned-sizes, loop_trap, loop_end, loop_spent, loop_stop, loop_again, loop_falls, body_stops, step_stops, step_goes, if_trap, if_so, if_none, if_otherwise}
use Rattle.p3l_ast.proofs.Weights.{weight, weight_at, then_weighs, else_weighs, while_weighs, for_weighs}
use Rattle.p3l_ast.proofs.meaning.statement.+statement.Goals as goal

pub run_while-returns-in_err-holds-clause-run : goal.run_while-returns-in_err-holds-clause-run
run_while-returns-in_err-holds-clause-run t c =
    trap_handed _ _ _ c.from_residual.ensures.1
    (loop_trap c.args.budget (phrase c.args.condition.now) (statements c.args.body.now) c.loop-valuation.valuation _ c.in_err-holds.ensures ∙ c.loop-valuation.invariant.so_far)

pub run_while-returns-in_err-valuation-clause-run : goal.run_while-returns-in_err-valuation-clause-run
run_while-returns-in_err-valuation-clause-run t c =
    let e = phrase c.args.condition.now in
    let so : Ok true ≡ holding e c.loop-valuation.valuation = ap (λ b. Ok b) (sym c.if-branch.true) ∙ c.in_ok-holds.ensures in
    trap_handed _ _ _ c.from_residual-in_err-valuation.ensures.1
    (loop_spent c.args.budget e (statements c.args.body.now) c.loop-valuation.valuation _ so c.in_err-valuation.ensures ∙ c.loop-valuation.invariant.so_far)

pub run_while-run_statements-requires : goal.run_while-run_statements-requires
run_while-run_statements-requires t c =
    (omega arith, turned-sizes c.args.budget c.loop-valuation.valuation c.in_ok-valuation.valuation c.in_ok-valuation.ensures c.loop-valuation.invariant.sizes)

pub run_while-returns-in_err-valuation-2-clause-run : goal.run_while-returns-in_err-valuation-2-clause-run
run_while-returns-in_err-valuation-2-clause-run t c =
    let e = phrase c.args.condition.now in
    let so : Ok true ≡ holding e c.loop-valuation.valuation = ap (λ b. Ok b) (sym c.if-branch.true) ∙ c.in_ok-holds.ensures in
    stop_handed _ _ _ _ c.from_residual-in_err-valuation-2.ensures.1 c.loop-valuation.invariant.so_far
    (loop_stop c.args.budget e (statements c.args.body.now) c.loop-valuation.valuation c.in_ok-valuation.valuation _ so c.in_ok-valuation.ensures c.in_err-valuation-2.ensures.run)

pub run_while-loop-valuation-smaller : goal.run_while-loop-valuation-smaller
run_while-loop-valuation-smaller t c =
    loop_falls c.args.budget (phrase c.args.condition.now) (statements c.args.body.now) c.loop-valuation.valuation c.in_ok-valuation.valuation c.in_ok-valuation-2.valuation c.in_ok-valuation.ensures c.in_ok-valuation-2.ensures.run

pub run_while-loop-valuation-preserved : goal.run_while-loop-valuation-preserved
run_while-loop-valuation-preserved t c =
    let e = phrase c.args.condition.now in
    let so : Ok true ≡ holding e c.loop-valuation.valuation = ap (λ b. Ok b) (sym c.if-branch.true) ∙ c.in_ok-holds.ensures in
    record {
      so_far = loop_again c.args.budget e (statements c.args.body.now) c.loop-valuation.valuation c.in_ok-valuation.valuation c.in_ok-valuation-2.valuation so c.in_ok-valuation.ensures c.in_ok-valuation-2.ensures.run
          ∙ c.loop-valuation.invariant.so_far;
      sizes = c.in_ok-valuation-2.ensures.sizes;
    }

pub run_while-returns-clause-run : goal.run_while-returns-clause-run
run_while-returns-clause-run t c =
    let e = phrase c.args.condition.now in
    let not : Ok false ≡ holding e c.loop-valuation.valuation = ap (λ b. Ok b) (sym c.if-branch.false) ∙ c.in_ok-holds.ensures in
    loop_end c.args.budget e (statements c.args.body.now) c.loop-valuation.valuation not ∙ c.loop-valuation.invariant.so_far

pub run_for-returns-in_err-holds-clause-run : goal.run_for-returns-in_err-holds-clause-run
run_for-returns-in_err-holds-clause-run t c =
    trap_handed _ _ _ c.from_residual.ensures.1
    (loop_trap c.args.budget (phrase c.args.condition.now) (stepped c.args.body.now c.args.next.now c.args.step.now) c.loop-valuation.valuation _ c.in_err-holds.ensures ∙ c.loop-valuation.invariant.so_far)

pub run_for-returns-in_err-valuation-clause-run : goal.run_for-returns-in_err-valuation-clause-run
run_for-returns-in_err-valuation-clause-run t c =
    let e = phrase c.args.condition.now in
    let so : Ok true ≡ holding e c.loop-valuation.valuation = ap (λ b. Ok b) (sym c.if-branch.true) ∙ c.in_ok-holds.ensures in
    trap_handed _ _ _ c.from_residual-in_err-valuation.ensures.1
    (loop_spent c.args.budget e (stepped c.args.body.now c.args.next.now c.args.step.now) c.loop-valuation.valuation _ so c.in_err-valuation.ensures ∙ c.loop-valuation.invariant.so_far)

pub run_for-run_statements-requires : goal.run_for-run_statements-requires
run_for-run_statements-requires t c =
    (omega arith, turned-sizes c.args.budget c.loop-valuation.valuation c.in_ok-valuation.valuation c.in_ok-valuation.ensures c.loop-valuation.invariant.sizes)

pub run_for-returns-in_err-valuation-2-clause-run : goal.run_for-returns-in_err-valuation-2-clause-run
run_for-returns-in_err-valuation-2-clause-run t c =
    let e = phrase c.args.condition.now in
    let body = c.args.body.now in
    let so : Ok true ≡ holding e c.loop-valuation.valuation = ap (λ b. Ok b) (sym c.if-branch.true) ∙ c.in_ok-holds.ensures in
    let stops = body_stops c.args.budget body c.args.next.now c.args.step.now c.in_ok-valuation.valuation _ c.in_err-valuation-2.ensures.run in
    stop_handed _ _ _ _ c.from_residual-in_err-valuation-2.ensures.1 c.loop-valuation.invariant.so_far
    (loop_stop c.args.budget e (stepped body c.args.next.now c.args.step.now) c.loop-valuation.valuation c.in_ok-valuation.valuation _ so c.in_ok-valuation.ensures stops)

pub run_for-returns-in_err-valuation-3-clause-run : goal.run_for-returns-in_err-valuation-3-clause-run
run_for-returns-in_err-valuation-3-clause-run t c =
    let e = phrase c.args.condition.now in
    let body = c.args.body.now in
    let so : Ok true ≡ holding e c.loop-valuation.valuation = ap (λ b. Ok b) (sym c.if-branch.true) ∙ c.in_ok-holds.ensures in
    let stops = step_stops c.args.budget body c.args.next.now c.args.step.now c.in_ok-valuation.valuation c.in_ok-valuation-2.valuation _ c.in_ok-valuation-2.ensures.run c.in_err-valuation-3.ensures.run in
    stop_handed _ _ _ _ c.from_residual-in_err-valuation-3.ensures.1 c.loop-valuation.invariant.so_far
    (loop_stop c.args.budget e (stepped body c.args.next.now c.args.step.now) c.loop-valuation.valuation c.in_ok-valuation.valuation _ so c.in_ok-valuation.ensures stops)

pub run_for-loop-valuation-smaller : goal.run_for-loop-valuation-smaller
run_for-loop-valuation-smaller t c =
    let body = c.args.body.now in
    let goes = step_goes c.args.budget body c.args.next.now c.args.step.now c.in_ok-valuation.valuation c.in_ok-valuation-2.valuation c.in_ok-valuation-3.valuation c.in_ok-valuation-2.ensures.run c.in_ok-valuation-3.ensures.run in
    loop_falls c.args.budget (phrase c.args.condition.now) (stepped body c.args.next.now c.args.step.now) c.loop-valuation.valuation c.in_ok-valuation.valuation c.in_ok-valuation-3.valuation c.in_ok-valuation.ensures goes

pub run_for-loop-valuation-preserved : goal.run_for-loop-valuation-preserved
run_for-loop-valuation-preserved t c =
    let e = phrase c.args.condition.now in
    let body = c.args.body.now in
    let so : Ok true ≡ holding e c.loop-valuation.valuation = ap (λ b. Ok b) (sym c.if-branch.true) ∙ c.in_ok-holds.ensures in
    let goes = step_goes c.args.budget body c.args.next.now c.args.step.now c.in_ok-valuation.valuation c.in_ok-valuation-2.valuation c.in_ok-valuation-3.valuation c.in_ok-valuation-2.ensures.run c.in_ok-valuation-3.ensures.run in
    record {
      so_far = loop_again c.args.budget e (stepped body c.args.next.now c.args.step.now) c.loop-valuation.valuation c.in_ok-valuation.valuation c.in_ok-valuation-3.valuation so c.in_ok-valuation.ensures goes
          ∙ c.loop-valuation.invariant.so_far;
      sizes = c.in_ok-valuation-3.ensures.sizes;
    }

pub run_for-returns-clause-run : goal.run_for-returns-clause-run
run_for-returns-clause-run t c =
    let e = phrase c.args.condition.now in
    let not : Ok false ≡ holding e c.loop-valuation.valuation = ap (λ b. Ok b) (sym c.if-branch.false) ∙ c.in_ok-holds.ensures in
    loop_end c.args.budget e (stepped c.args.body.now c.args.next.now c.args.step.now) c.loop-valuation.valuation not ∙ c.loop-valuation.invariant.so_far

pub run_statement-returns-in_err-holds-in-If-clause-run :
    goal.run_statement-returns-in_err-holds-in-If-clause-run
run_statement-returns-in_err-holds-in-If-clause-run t c =
    trap_handed _ _ _ c.from_residual.ensures.1
    (if_trap c.args.budget c.in-If.condition c.in-If.then c.args.valuation c.in-If.otherwise _ c.in_err-holds-in-If.ensures
    ∙ ap (λ (x : Stmt). run_of c.args.budget (one x) c.args.valuation) (sym c.in-If.is))

pub run_statement-returns-then-branch-clause-run : goal.run_statement-returns-then-branch-clause-run
run_statement-returns-then-branch-clause-run t c =
    let s = c.args.valuation in
    let so : Ok true ≡ holding (phrase c.in-If.condition) s = ap (λ b. Ok b) (sym c.if-branch.true) ∙ c.in_ok-holds-in-If.ensures in
    let whole = ap (λ (x : Stmt). run_of c.args.budget (one x) s) c.in-If.is ∙ if_so c.args.budget c.in-If.condition c.in-If.then s c.in-If.otherwise so
    ∙ ap (λ x. run_of c.args.budget (statements x) s) (sym c.deref.ensures.value) in
    gives_same _ _ _ (sym whole) c.run_statements.ensures.run

pub run_statement-returns-in-Some-clause-run : goal.run_statement-returns-in-Some-clause-run
run_statement-returns-in-Some-clause-run t c =
    let s = c.args.valuation in
    let not : Ok false ≡ holding (phrase c.in-If.condition) s = ap (λ b. Ok b) (sym c.if-branch.false) ∙ c.in_ok-holds-in-If.ensures in
    let whole = ap (λ (x : Stmt). run_of c.args.budget (one x) s) c.in-If.is
    ∙ ap (λ (o : Option (Vec Stmt Global)). run_of c.args.budget (one (If c.in-If.condition c.in-If.then o)) s) c.in-Some.is
    ∙ if_otherwise c.args.budget c.in-If.condition c.in-If.then s c.in-Some.otherwise not
    ∙ ap (λ x. run_of c.args.budget (statements x) s) (sym c.deref-in-Some.ensures.value) in
    gives_same _ _ _ (sym whole) c.run_statements-in-Some.ensures.run

pub run_statement-returns-in-None-clause-run : goal.run_statement-returns-in-None-clause-run
run_statement-returns-in-None-clause-run t c =
    let s = c.args.valuation in
    let not : Ok false ≡ holding (phrase c.in-If.condition) s = ap (λ b. Ok b) (sym c.if-branch.false) ∙ c.in_ok-holds-in-If.ensures in
    let whole = ap (λ (x : Stmt). run_of c.args.budget (one x) s) c.in-If.is
    ∙ ap (λ (o : Option (Vec Stmt Global)). run_of c.args.budget (one (If c.in-If.condition c.in-If.then o)) s) c.in-None.is
    ∙ if_none c.args.budget c.in-If.condition c.in-If.then s not in
    sym whole

pub run_statement-returns-in-Assign-clause-run : goal.run_statement-returns-in-Assign-clause-run
run_statement-returns-in-Assign-clause-run t c =
    let s = c.args.valuation in
    let whole = ap (λ (x : Stmt). run_of c.args.budget (one x) s) c.in-Assign.is ∙ run_assign c.args.budget c.in-Assign.target c.in-Assign.expr s in
    gives_same _ _ _ (sym whole) c.assigned.ensures.run

pub run_statement-returns-in-While-clause-run : goal.run_statement-returns-in-While-clause-run
run_statement-returns-in-While-clause-run t c =
    let s = c.args.valuation in
    let whole = ap (λ (x : Stmt). run_of c.args.budget (one x) s) c.in-While.is ∙ run_while c.args.budget c.in-While.condition c.in-While.body s
    ∙ ap (λ x. loop_of c.args.budget (phrase c.in-While.condition) (statements x) s) (sym c.deref-in-While.ensures.value) in
    gives_same _ _ _ (sym whole) c.run_while.ensures.run

pub run_statement-returns-in_err-valuation-in-For-clause-run :
    goal.run_statement-returns-in_err-valuation-in-For-clause-run
run_statement-returns-in_err-valuation-in-For-clause-run t c =
    let s = c.args.valuation in
    let arm = c.in-For in
    let whole = ap (λ (x : Stmt). run_of c.args.budget (one x) s) arm.is ∙ run_for c.args.budget arm.first arm.next arm.start arm.condition arm.step arm.body s in
    stop_handed _ _ _ _ c.from_residual-in_err-valuation-in-For.ensures.1 (sym whole)
    (stop_given _ (assigned arm.first.at.name (phrases arm.first.index.items) (phrase arm.start) s) (loop_of c.args.budget (phrase arm.condition) (stepped arm.body.items arm.next arm.step)) c.in_err-valuation-in-For.ensures.run)

pub run_statement-returns-in_ok-valuation-in-For-clause-run :
    goal.run_statement-returns-in_ok-valuation-in-For-clause-run
run_statement-returns-in_ok-valuation-in-For-clause-run t c =
    let s = c.args.valuation in
    let arm = c.in-For in
    let m = c.in_ok-valuation-in-For.valuation in
    let whole = ap (λ (x : Stmt). run_of c.args.budget (one x) s) arm.is ∙ run_for c.args.budget arm.first arm.next arm.start arm.condition arm.step arm.body s
    ∙ ok_given m (assigned arm.first.at.name (phrases arm.first.index.items) (phrase arm.start) s) (loop_of c.args.budget (phrase arm.condition) (stepped arm.body.items arm.next arm.step)) c.in_ok-valuation-in-For.ensures.run
    ∙ ap (λ x. loop_of c.args.budget (phrase arm.condition) (stepped x arm.next arm.step) m) (sym c.deref-in-For.ensures.value) in
    gives_same _ _ _ (sym whole) c.run_for.ensures.run

pub run_statements-returns-in_err-valuation-clause-run :
    goal.run_statements-returns-in_err-valuation-clause-run
run_statements-returns-in_err-valuation-clause-run t c =
    let i = c.loop-stmt.stmt-index in
    let next = run_next c.args.budget c.args.stmts.now i c.stmt-item.result c.loop-stmt.valuation c.loop-stmt-test.true c.stmt-item.is in
    stop_handed _ _ _ _ c.from_residual.ensures.1 (sym next ∙ c.loop-stmt.invariant.so_far)
    (stop_given _ (run_of c.args.budget (one c.stmt-item.result) c.loop-stmt.valuation) (run_of c.args.budget (statements (drop (i + 1) c.args.stmts.now))) c.in_err-valuation.ensures.run)

pub run_statements-loop-stmt-preserved : goal.run_statements-loop-stmt-preserved
run_statements-loop-stmt-preserved t c =
    let i = c.loop-stmt.stmt-index in
    let next = run_next c.args.budget c.args.stmts.now i c.stmt-item.result c.loop-stmt.valuation c.loop-stmt-test.true c.stmt-item.is
    ∙ ok_given c.in_ok-valuation.valuation (run_of c.args.budget (one c.stmt-item.result) c.loop-stmt.valuation) (run_of c.args.budget (statements (drop (i + 1) c.args.stmts.now))) c.in_ok-valuation.ensures.run in
    record { so_far = sym next ∙ c.loop-stmt.invariant.so_far; sizes = c.in_ok-valuation.ensures.sizes }

pub run_statements-returns-clause-run : goal.run_statements-returns-clause-run
run_statements-returns-clause-run t c =
    let s = c.loop-stmt.valuation in
    let past = drop_all c.loop-stmt.stmt-index c.args.stmts.now c.loop-stmt-test.false in
    sym (run_none c.args.budget s) ∙ ap (λ (x : List Stmt). run_of c.args.budget (statements x) s) (sym past) ∙ c.loop-stmt.invariant.so_far

pub run_statements-run_statement-requires : goal.run_statements-run_statement-requires
run_statements-run_statement-requires t c =
    let w = weight_at c.args.stmts.now c.loop-stmt.stmt-index c.stmt-item.result c.loop-stmt-test.true in
    let same = ap (λ (x : Stmt). weight (one x)) c.stmt-item.is in
    (omega arith, c.loop-stmt.invariant.sizes)

pub run_statement-run_statements-requires : goal.run_statement-run_statements-requires
run_statement-run_statements-requires t c =
    let w = then_weighs c.in-If.condition c.in-If.then c.in-If.otherwise in
    let whole = ap (λ (x : Stmt). weight (one x)) c.in-If.is in
    let part = ap (λ (x : List Stmt). weight (statements x)) c.deref.ensures.value in
    (omega arith, c.requires)

pub run_statement-run_statements-requires-in-Some :
    goal.run_statement-run_statements-requires-in-Some
run_statement-run_statements-requires-in-Some t c =
    let w = else_weighs c.in-If.condition c.in-If.then c.in-Some.otherwise in
    let whole = ap (λ (x : Stmt). weight (one x)) c.in-If.is in
    let other = ap (λ (o : Option (Vec Stmt Global)). weight (one (If c.in-If.condition c.in-If.then o))) c.in-Some.is in
    let part = ap (λ (x : List Stmt). weight (statements x)) c.deref-in-Some.ensures.value in
    (omega arith, c.requires)

pub run_statement-run_while-requires : goal.run_statement-run_while-requires
run_statement-run_while-requires t c =
    let w = while_weighs c.in-While.condition c.in-While.body in
    let whole = ap (λ (x : Stmt). weight (one x)) c.in-While.is in
    let part = ap (λ (x : List Stmt). weight (statements x)) c.deref-in-While.ensures.value in
    (omega arith, c.requires)

pub run_statement-run_for-requires : goal.run_statement-run_for-requires
run_statement-run_for-requires t c =
    let arm = c.in-For in
    let w = for_weighs arm.first arm.next arm.start arm.condition arm.step arm.body in
    let whole = ap (λ (x : Stmt). weight (one x)) arm.is in
    let part = ap (λ (x : List Stmt). weight (statements x)) c.deref-in-For.ensures.value in
    (omega arith, c.in_ok-valuation-in-For.ensures.sizes)
