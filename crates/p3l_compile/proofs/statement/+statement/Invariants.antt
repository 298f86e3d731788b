use Rattle.std.proofs.Common.{◌≡◌, ◌+◌, ◌*◌, drop, length, ◌++◌}
use Rattle.p3l_ast.specs.Tree.{one, statements}
use Rattle.p3l_compile.specs.Statement.{statement_size, statement_code}
use Rattle.p3l_compile.proofs.statement.+statement.Given as goal

abbrev pub decreases-emit_stmts : goal.decreases-emit_stmts
decreases-emit_stmts l = 3 * statement_size (statements l.stmts.now) + 1

abbrev pub decreases-emit_stmt : goal.decreases-emit_stmt
decreases-emit_stmt l = 3 * statement_size (one l.stmt.now)

abbrev pub decreases-emit_if : goal.decreases-emit_if
decreases-emit_if l = 3 * statement_size (statements l.then.now) + 2

abbrev pub decreases-emit_choice : goal.decreases-emit_choice
decreases-emit_choice l = 3 * (statement_size (statements l.then.now) + statement_size (statements l.other.now)) + 2

abbrev pub decreases-emit_while : goal.decreases-emit_while
decreases-emit_while l = 3 * statement_size (statements l.body.now) + 2

abbrev pub decreases-emit_turns : goal.decreases-emit_turns
decreases-emit_turns l = 3 * statement_size (statements l.body.now) + 2

-- the code so far with that of the statements that are left is the whole
abbrev pub invariant-emit_stmts-loop-stmt : goal.invariant-emit_stmts-loop-stmt
invariant-emit_stmts-loop-stmt l = record {
  so_far : l.code.items ++ statement_code l.scope (length l.code.items) (statements (drop l.stmt-index l.stmts)) ≡ l.fn.code.items ++ statement_code l.scope (length l.fn.code.items) (statements l.stmts);
  size : length l.code.items + statement_size (statements (drop l.stmt-index l.stmts)) ≡ length l.fn.code.items + statement_size (statements l.stmts);
}
