use Rattle.std.proofs.Common.{◌≡◌, ℕ, ◌+◌, List, [], ◌∷◌, ◌++◌, drop, codes, Option, sym, ap, ◌∙◌, subst, arith, append_assoc, append-nil}
use Rattle.p3l_base.specs.Memory.{OnGiven}
use Rattle.std.proofs.lemmas.List.{drop_more, drop_all}
use Rattle.p3l_ast.specs.declared.statement.Stmt.{Stmt}
use Rattle.p3l_ast.specs.declared.statement.Stmt.TheVariants.{If}
use Rattle.p3l_ast.specs.Tree.{phrase, one, statements}
use Rattle.p3l_print.specs.Statement.{block_text, opening_text, deeper, statements_text}
use Rattle.p3l_print.proofs.Lines.{assign_lines, if_lines, if_else_lines, while_lines, for_lines, statements_text-join, done_lines, followed, then}
use Rattle.p3l_print.proofs.printer.Printer.+statement.Goals as goal

pub statement-returns-in-Assign : goal.statement-returns-in-Assign
statement-returns-in-Assign t c =
    let text = ap (λ (s : Stmt). statements_text c.args.margin.now (one s)) c.in-Assign.is ∙ assign_lines c.args.margin.now c.in-Assign.place c.in-Assign.value in
    subst (λ (x : List ℕ). OnGiven c.assignment_line.result (c.assignment_line.new.self ≡ c.args.self.now ++ x)) (sym text) c.assignment_line.ensures

pub statement-returns-in_ok-for_opening-in-For : goal.statement-returns-in_ok-for_opening-in-For
statement-returns-in_ok-for_opening-in-For t c =
    let arm = c.in-For in
    let text = ap (λ (s : Stmt). statements_text c.args.margin.now (one s)) arm.is ∙ for_lines c.args.margin.now arm.first arm.next arm.start arm.condition arm.step arm.body in
    let body = c.deref-in-For.ensures.value in
    followed _ _ _ _ _ _ _ c.in_ok-for_opening-in-For.ensures c.last_block-in-For.ensures (text ∙ cc)

pub statement-returns-in_ok-opening-in-While : goal.statement-returns-in_ok-opening-in-While
statement-returns-in_ok-opening-in-While t c =
    let text = ap (λ (s : Stmt). statements_text c.args.margin.now (one s)) c.in-While.is ∙ while_lines c.args.margin.now c.in-While.condition c.in-While.body in
    let body = c.deref-in-While.ensures.value in
    followed _ _ _ _ _ _ _ c.in_ok-opening-in-While.ensures c.last_block-in-While.ensures (text ∙ cc)

pub statements-loop-stmt-preserved : goal.statements-loop-stmt-preserved
statements-loop-stmt-preserved t c =
    let l = c.loop-stmt in
    let xs = c.args.stmts.now in
    let x = c.stmt-item.result in
    let later = statements (drop (l.stmt-index + 1) xs) in
    let here : drop l.stmt-index xs ≡ x ∷ drop (l.stmt-index + 1) xs = drop_more xs l.stmt-index x (omega arith) ∙ ap (λ y. y ∷ drop (l.stmt-index + 1) xs) (sym c.stmt-item.is) in
    let split : statements_text c.args.margin.now (statements (drop l.stmt-index xs)) ≡ statements_text c.args.margin.now (one x) ++ statements_text c.args.margin.now later =
    ap (λ ys. statements_text c.args.margin.now (statements ys)) here ∙ statements_text-join c.args.margin.now (one x) later in
    ap (λ y. y ++ statements_text c.args.margin.now later) c.in_ok-statement.ensures ∙ append_assoc l.self (statements_text c.args.margin.now (one x)) _ ∙ ap (λ y. l.self ++ y) (sym split) ∙ l.invariant

pub statement-returns-in-None : goal.statement-returns-in-None
statement-returns-in-None t c =
    let margin = c.args.margin.now in
    let test = c.in-If.condition in
    let text = ap (λ (s : Stmt). statements_text margin (one s)) c.in-If.is ∙ ap (λ (o : Option _). statements_text margin (one (If test c.in-If.then o))) c.in-None.is
    ∙ if_lines margin test c.in-If.then in
    let a = opening_text margin (codes "if") (phrase test) in
    let b = block_text margin (statements_text (deeper margin) (statements c.deref.result.now)) in
    let body : c.deref.result.now ≡ c.in-If.then.items = c.deref.ensures.value in
    let first : c.opening.new.self ≡ c.args.self.now ++ a = c.in_ok-opening-in-If.ensures in
    let second : c.block.new.self ≡ c.opening.new.self ++ b = c.in_ok-block-in-If.ensures in
    let third : OnGiven c.put.result (c.put.new.self ≡ c.block.new.self ++ codes "\n") = c.put.ensures in
    let whole : statements_text margin (one c.args.stmt.now) ≡ a ++ b ++ codes "\n" = text ∙ cc in
    followed c.put.result c.args.self.now c.block.new.self c.put.new.self (a ++ b) (codes "\n") (statements_text margin (one c.args.stmt.now))
    (then c.args.self.now c.opening.new.self c.block.new.self a b first second) third whole

pub statement-returns-in_ok-put-in-Some : goal.statement-returns-in_ok-put-in-Some
statement-returns-in_ok-put-in-Some t c =
    let margin = c.args.margin.now in
    let test = c.in-If.condition in
    let text = ap (λ (s : Stmt). statements_text margin (one s)) c.in-If.is ∙ ap (λ (o : Option _). statements_text margin (one (If test c.in-If.then o))) c.in-Some.is
    ∙ if_else_lines margin test c.in-If.then c.in-Some.otherwise in
    let a = opening_text margin (codes "if") (phrase test) in
    let b = block_text margin (statements_text (deeper margin) (statements c.deref.result.now)) in
    let d = block_text margin (statements_text (deeper margin) (statements c.deref-in-Some.result.now)) ++ codes "\n" in
    let body : c.deref.result.now ≡ c.in-If.then.items = c.deref.ensures.value in
    let other : c.deref-in-Some.result.now ≡ c.in-Some.otherwise.items = c.deref-in-Some.ensures.value in
    let first : c.opening.new.self ≡ c.args.self.now ++ a = c.in_ok-opening-in-If.ensures in
    let second : c.block.new.self ≡ c.opening.new.self ++ b = c.in_ok-block-in-If.ensures in
    let third : c.put-in-Some.new.self ≡ c.block.new.self ++ codes " else " = c.in_ok-put-in-Some.ensures in
    let last : OnGiven c.last_block.result (c.last_block.new.self ≡ c.put-in-Some.new.self ++ d) = c.last_block.ensures in
    let whole : statements_text margin (one c.args.stmt.now) ≡ a ++ b ++ codes " else " ++ d = text ∙ cc in
    followed c.last_block.result c.args.self.now c.put-in-Some.new.self c.last_block.new.self (a ++ b ++ codes " else ") d (statements_text margin (one c.args.stmt.now))
    (then c.args.self.now c.block.new.self c.put-in-Some.new.self (a ++ b) (codes " else ") (then c.args.self.now c.opening.new.self c.block.new.self a b first second) third) last whole

pub statements-returns : goal.statements-returns
statements-returns t c =
    let past : drop c.loop-stmt.stmt-index c.args.stmts.now ≡ [] = drop_all c.loop-stmt.stmt-index c.args.stmts.now c.loop-stmt-test.false in
    let none : statements_text c.args.margin.now (statements (drop c.loop-stmt.stmt-index c.args.stmts.now)) ≡ [] = ap (λ ys. statements_text c.args.margin.now (statements ys)) past ∙ done_lines c.args.margin.now in
    sym (append-nil c.loop-stmt.self) ∙ ap (λ y. c.loop-stmt.self ++ y) (sym none) ∙ c.loop-stmt.invariant
