use Rattle.std.proofs.Common.{◌≡◌, ◌+◌, ◌*◌, ◌++◌, drop, string_bytes}
use Rattle.p3l_ast.specs.Tree.{phrase, phrases}
use Rattle.p3l_c.specs.Translate.{next_all, spots}
use Rattle.p3l_c_print.specs.Text.{spots_text}
use Rattle.p3l_c_print.specs.Value.{index_text}
use Rattle.p3l_c_print.proofs.Weights.{weight, weight_all}
use Rattle.p3l_c_print.proofs.names.Names.+expression.Given as goal

abbrev pub decreases-put_value : goal.decreases-put_value
decreases-put_value l = 5 * weight (phrase l.expr.now)

abbrev pub decreases-put_operand : goal.decreases-put_operand
decreases-put_operand l = 5 * weight (phrase l.expr.now) + 1

abbrev pub decreases-put_truth_of : goal.decreases-put_truth_of
decreases-put_truth_of l = 5 * weight (phrase l.expr.now) + 2

abbrev pub decreases-put_combined : goal.decreases-put_combined
decreases-put_combined l = 5 * (weight (phrase l.left.now) + weight (phrase l.right.now)) + 3

abbrev pub decreases-put_decided : goal.decreases-put_decided
decreases-put_decided l = 5 * (weight (phrase l.left.now) + weight (phrase l.right.now)) + 3

abbrev pub decreases-put_binary : goal.decreases-put_binary
decreases-put_binary l = 5 * (weight (phrase l.left.now) + weight (phrase l.right.now)) + 4

abbrev pub decreases-put_indices : goal.decreases-put_indices
decreases-put_indices l = 5 * weight_all (phrases l.index.now) + 1

abbrev pub decreases-put_read : goal.decreases-put_read
decreases-put_read l = 5 * weight_all (phrases l.target.now.index.items) + 2

-- the lines, the temps and the next temp so far, with those of the indices that are left
abbrev pub invariant-put_indices-loop-expr : goal.invariant-put_indices-loop-expr
invariant-put_indices-loop-expr l = record {
  lines : string_bytes l.out ++ index_text l.self l.margin l.after l.rest (phrases (drop l.expr-index l.index)) ≡ string_bytes l.fn.out ++ index_text l.self l.margin l.first l.sizes (phrases l.index);
  spots : string_bytes l.text ++ spots_text (spots l.after (phrases (drop l.expr-index l.index))) ≡ spots_text (spots l.first (phrases l.index));
  after : next_all l.after (phrases (drop l.expr-index l.index)) ≡ next_all l.first (phrases l.index);
}
