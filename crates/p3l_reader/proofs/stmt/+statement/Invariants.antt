use Rattle.std.proofs.Common.{◌+◌, ◌*◌, length}
use Rattle.p3l_ast.specs.Tree.{statements}
use Rattle.p3l_reader.proofs.Lists.{ExtendsStmts}
use Rattle.p3l_reader.proofs.stmt.+statement.Given as goal

abbrev pub decreases-if_statement : goal.decreases-if_statement
decreases-if_statement l = 2 * length l.tokens.now + 1

abbrev pub decreases-while_statement : goal.decreases-while_statement
decreases-while_statement l = 2 * length l.tokens.now + 1

abbrev pub decreases-for_statement : goal.decreases-for_statement
decreases-for_statement l = 2 * length l.tokens.now + 1

abbrev pub decreases-block : goal.decreases-block
decreases-block l = 2 * length l.tokens.now

abbrev pub decreases-next_stmt : goal.decreases-next_stmt
decreases-next_stmt l = 2 * length l.tokens.now

abbrev pub decreases-stmts : goal.decreases-stmts
decreases-stmts l = 2 * length l.tokens.now + 1

abbrev pub invariant-stmts-loop-list : goal.invariant-stmts-loop-list
invariant-stmts-loop-list l = ExtendsStmts l.tokens (statements l.list.items) l.rest

abbrev pub decreases-stmts-loop-list : goal.decreases-stmts-loop-list
decreases-stmts-loop-list l = length l.rest
