use Rattle.std.proofs.Common.{◌+◌, ◌*◌, length}
use Rattle.p3l_ast.specs.Tree.{phrase, phrases}
use Rattle.p3l_reader.specs.Reading.{Follows}
use Rattle.p3l_reader.proofs.Lists.{ExtendsIndex}
use Rattle.p3l_reader.proofs.expr.+expression.Given as goal

abbrev pub decreases-operand : goal.decreases-operand
decreases-operand l = 4 * length l.tokens.now

abbrev pub decreases-unary : goal.decreases-unary
decreases-unary l = 4 * length l.tokens.now + 1

abbrev pub decreases-place : goal.decreases-place
decreases-place l = 4 * length l.tokens.now + 2

abbrev pub decreases-next_index : goal.decreases-next_index
decreases-next_index l = 4 * length l.tokens.now

abbrev pub decreases-index : goal.decreases-index
decreases-index l = 4 * length l.tokens.now + 1

abbrev pub decreases-upto : goal.decreases-upto
decreases-upto l = 4 * length l.tokens.now + 2

abbrev pub decreases-expr : goal.decreases-expr
decreases-expr l = 4 * length l.tokens.now + 1

abbrev pub invariant-expr-loop-op : goal.invariant-expr-loop-op
invariant-expr-loop-op l = Follows l.least l.tokens (phrase l.left) l.rest

abbrev pub decreases-expr-loop-op : goal.decreases-expr-loop-op
decreases-expr-loop-op l = length l.rest

abbrev pub invariant-index-loop-list : goal.invariant-index-loop-list
invariant-index-loop-list l = ExtendsIndex l.tokens (phrases l.list.items) l.rest

abbrev pub decreases-index-loop-list : goal.decreases-index-loop-list
decreases-index-loop-list l = length l.rest
