use Rattle.std.proofs.Common.{◌≡◌, ◌+◌, ◌-◌, ◌*◌, drop}
use Rattle.p3l_ast.specs.Tree.{phrase, phrases, one, statements, join, assign, done}
use Rattle.p3l_ast.specs.Meaning.Valuation.{HasSizes}
use Rattle.p3l_ast.specs.Meaning.Statement.{loop_of, run_of}
use Rattle.p3l_ast.proofs.Weights.{weight}
use Rattle.p3l_ast.proofs.meaning.statement.+statement.Given as goal

-- a loop is above its body, and statements above each of them
abbrev pub decreases-run_statements : goal.decreases-run_statements
decreases-run_statements l = 3 * weight (statements l.stmts.now) + 1

abbrev pub decreases-run_statement : goal.decreases-run_statement
decreases-run_statement l = 3 * weight (one l.stmt.now)

abbrev pub decreases-run_while : goal.decreases-run_while
decreases-run_while l = 3 * weight (statements l.body.now) + 2

abbrev pub decreases-run_for : goal.decreases-run_for
decreases-run_for l = 3 * weight (statements l.body.now) + 2

-- the statements that are left make of the valuation what all make of the first
abbrev pub invariant-run_statements-loop-stmt : goal.invariant-run_statements-loop-stmt
invariant-run_statements-loop-stmt l = record {
  so_far : run_of l.budget (statements (drop l.stmt-index l.stmts)) l.valuation ≡ run_of l.budget (statements l.stmts) l.initial.valuation;
  sizes : HasSizes l.valuation;
}

-- the loop makes of the valuation what it makes of the first
abbrev pub invariant-run_while-loop-valuation : goal.invariant-run_while-loop-valuation
invariant-run_while-loop-valuation l = record {
  so_far : loop_of l.budget (phrase l.condition) (statements l.body) l.valuation ≡ loop_of l.budget (phrase l.condition) (statements l.body) l.initial.valuation;
  sizes : HasSizes l.valuation;
}

-- the turns that are left
abbrev pub decreases-run_while-loop-valuation : goal.decreases-run_while-loop-valuation
decreases-run_while-loop-valuation l = l.budget - l.valuation.turns

abbrev pub invariant-run_for-loop-valuation : goal.invariant-run_for-loop-valuation
invariant-run_for-loop-valuation l =
    let turn = join (statements l.body) (assign l.next.at (phrases l.next.index.items) (phrase l.step) done) in
    record {
      so_far : loop_of l.budget (phrase l.condition) turn l.valuation ≡ loop_of l.budget (phrase l.condition) turn l.initial.valuation;
      sizes : HasSizes l.valuation;
    }

abbrev pub decreases-run_for-loop-valuation : goal.decreases-run_for-loop-valuation
decreases-run_for-loop-valuation l = l.budget - l.valuation.turns
