use Rattle.std.proofs.Common.{◌≡◌, ◌+◌, ◌*◌, ◌++◌, drop, max, string_bytes}
use Rattle.p3l_ast.specs.Tree.{one, statements}
use Rattle.p3l_c.specs.Temps.{temps_of}
use Rattle.p3l_c_print.specs.Value.{code_text}
use Rattle.p3l_c_print.proofs.Sizes.{size_of}
use Rattle.p3l_c_print.proofs.names.Names.+statement.Given as goal

abbrev pub decreases-put_statement : goal.decreases-put_statement
decreases-put_statement l = 6 * size_of (one l.stmt.now)

abbrev pub decreases-put_statements : goal.decreases-put_statements
decreases-put_statements l = 6 * size_of (statements l.stmts.now) + 1

abbrev pub decreases-block : goal.decreases-block
decreases-block l = 6 * size_of (statements l.stmts.now) + 2

abbrev pub decreases-inner_block : goal.decreases-inner_block
decreases-inner_block l = 6 * size_of (statements l.stmts.now) + 3

abbrev pub decreases-put_round : goal.decreases-put_round
decreases-put_round l = 6 * size_of (statements l.body.now) + 2

abbrev pub decreases-put_if : goal.decreases-put_if
decreases-put_if l = 6 * size_of (statements l.then.now) + 4

abbrev pub decreases-put_if_else : goal.decreases-put_if_else
decreases-put_if_else l = 6 * (size_of (statements l.then.now) + size_of (statements l.other.now)) + 4

abbrev pub decreases-put_while : goal.decreases-put_while
decreases-put_while l = 6 * size_of (statements l.body.now) + 4

abbrev pub decreases-put_for : goal.decreases-put_for
decreases-put_for l = 6 * size_of (statements l.body.now) + 4

-- the lines and temps so far, with those of the statements that are left
abbrev pub invariant-put_statements-loop-stmt : goal.invariant-put_statements-loop-stmt
invariant-put_statements-loop-stmt l = record {
  lines : string_bytes l.out ++ code_text l.self l.margin l.budget (statements (drop l.stmt-index l.stmts)) ≡ string_bytes l.initial.out ++ code_text l.self l.margin l.budget (statements l.stmts);
  temps : max l.temps (temps_of (statements (drop l.stmt-index l.stmts))) ≡ temps_of (statements l.stmts);
}
