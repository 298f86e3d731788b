use Rattle.std.proofs.Common.{◌≡◌, ◌+◌, ◌++◌, drop, true, false, FitsSigned, sym, ap, ◌∙◌, arith, rules, string_bytes}
use Rattle.std.specs.Int.{w64}
use Rattle.std.proofs.lemmas.Int.{to_z-of_z}
use Rattle.p3l_ast.specs.Tree.{phrase, phrases}
use Rattle.p3l_c.specs.Translate.{is_steady, next_all, spots}
use Rattle.p3l_c_print.specs.Name.{literal_text}
use Rattle.p3l_c_print.specs.Line.{set_line}
use Rattle.p3l_c_print.specs.Text.{temp_text, spots_text}
use Rattle.p3l_c_print.specs.Value.{number_value, index_text, signed_of, bound_line, own_temp}
use Rattle.p3l_c_print.proofs.Joined.{given_weaker, given_as, given_so, given_both}
use Rattle.p3l_c_print.proofs.Expressions.{read_tree, unary_tree, binary_tree, number_lines, number_held, read_lines, read_held, operand_lines, operand_held, truth_lines, unary_lines, unary_held, combined_front, combined_held, decided_front, decided_held}
use Rattle.p3l_c_print.proofs.Indices.{first_left, lines_step, spots_step, after_step, lines_all, spots_all}
use Rattle.p3l_c_print.proofs.Weights.{weight, weight_at}
use Rattle.p3l_c_print.proofs.names.Names.+expression.Goals as goal

-- each call is of a lighter expression

pub put_value-put_read-requires : goal.put_value-put_read-requires
put_value-put_read-requires t c = let e = ap weight (read_tree c.args.expr.now c.in-Read.target c.in-Read.is) in (omega arith, tt)

pub put_value-put_operand-requires : goal.put_value-put_operand-requires
put_value-put_operand-requires t c =
    let e = ap weight (unary_tree c.args.expr.now c.deref.result.now _ _ c.in-Unary.is c.deref.ensures) in
    (omega arith, tt)

pub put_value-put_binary-requires : goal.put_value-put_binary-requires
put_value-put_binary-requires t c =
    let e = ap weight (binary_tree c.args.expr.now c.deref-in-Binary.result.now c.deref-in-Binary-2.result.now _ _ _ c.in-Binary.is c.deref-in-Binary.ensures c.deref-in-Binary-2.ensures) in
    (omega arith, tt)

pub put_indices-put_value-requires : goal.put_indices-put_value-requires
put_indices-put_value-requires t c =
    let e = weight_at c.args.index.now c.loop-expr.expr-index c.expr-item.result c.loop-expr-test.true c.expr-item.is in
    (omega arith, tt)

-- a number, and an operator before its operand

pub put_value-returns-in_ok-literal-in-Number : goal.put_value-returns-in_ok-literal-in-Number
put_value-returns-in_ok-literal-in-Number t c =
    let z = c.in-Number.number in
    let fits : FitsSigned w64 z = search rules in
    let text = c.in_ok-literal-in-Number.ensures ∙ ap literal_text (to_z-of_z w64 z fits) in
    record {
      lines = number_lines c.args.self.now c.args.margin.now (string_bytes c.args.out.now) c.args.first c.args.expr.now z c.in-Number.is;
      value = c.number_value.ensures ∙ ap (λ text. number_value text c.args.first 0) text ∙ number_held c.args.self.now c.args.first c.args.expr.now z c.in-Number.is;
    }

pub put_value-returns-in-Read : goal.put_value-returns-in-Read
put_value-returns-in-Read t c = rw (read_tree c.args.expr.now c.in-Read.target c.in-Read.is) c.put_read.ensures

pub put_value-returns-in_ok-value-in-Unary : goal.put_value-returns-in_ok-value-in-Unary
put_value-returns-in_ok-value-in-Unary t c =
    let operand = c.in_ok-value-in-Unary in
    given_so c.applied.result _ _
    (λ it is. record {
      lines = unary_lines c.args.self.now c.args.margin.now c.args.first c.args.expr.now c.deref.result.now c.in-Unary.op c.in-Unary.operand (string_bytes c.args.out.now) (string_bytes c.put_operand.new.out) c.in-Unary.is c.deref.ensures operand.ensures.lines;
      value = is ∙ unary_held c.args.self.now c.args.first c.args.expr.now c.deref.result.now c.in-Unary.op c.in-Unary.operand operand.value c.in-Unary.is c.deref.ensures operand.ensures.value;
    })
    c.applied.ensures

pub put_value-returns-in-Binary : goal.put_value-returns-in-Binary
put_value-returns-in-Binary t c =
    rw (binary_tree c.args.expr.now c.deref-in-Binary.result.now c.deref-in-Binary-2.result.now _ _ _ c.in-Binary.is c.deref-in-Binary.ensures c.deref-in-Binary-2.ensures) c.put_binary.ensures

-- an object

pub put_read-returns : goal.put_read-returns
put_read-returns t c =
    let x = c.args.target.now.at in
    let items = c.args.target.now.index.items in
    record {
      lines = read_lines c.args.self.now c.args.margin.now c.args.first x (string_bytes c.args.out.now) (string_bytes c.put_indices.new.out) c.sizes-sizes.result.now items c.as_slice.result.now
          c.sizes-sizes.ensures c.as_slice.ensures.value c.in_ok-spots.ensures.lines;
      value = c.number_value.ensures
          ∙ read_held c.args.self.now c.args.first x items c.as_slice.result.now c.in_ok-spots.spots c.in_ok-text.text c.as_slice.ensures.value c.in_ok-spots.ensures.spots c.in_ok-text.ensures;
    }

-- indices

pub put_indices-loop-expr-preserved : goal.put_indices-loop-expr-preserved
put_indices-loop-expr-preserved t c =
    let names = c.args.self.now in
    let margin = c.args.margin.now in
    let items = c.args.index.now in
    let i = c.loop-expr.expr-index in
    let n = c.loop-expr.after in
    let sizes = c.loop-expr.rest.now in
    let e = phrase c.expr-item.result in
    let is = phrases (drop (i + 1) items) in
    let v = c.in_ok-value.value in
    let first = first_left items i c.expr-item.result c.loop-expr-test.true c.expr-item.is in
    let next = c.in_ok-after.ensures in
    record {
      lines = ap (λ k. string_bytes c.put_index.new.out ++ index_text names margin k c.other_sizes-rest.result.now is) next
          ∙ ap (λ z. string_bytes c.put_index.new.out ++ index_text names margin (v.after + 1) z is) c.other_sizes-rest.ensures
          ∙ lines_step names margin n sizes e is (string_bytes c.loop-expr.out) (string_bytes c.put_value.new.out) (string_bytes c.put_index.new.out) v c.in_ok-value.ensures.lines c.in_ok-value.ensures.value (c.in_ok-put_index.ensures ∙ ap (λ size. string_bytes c.put_value.new.out ++ (set_line margin (temp_text v.after) (signed_of v) ++ bound_line names margin v.after size)) c.first_size.ensures)
          ∙ ap (λ js. string_bytes c.loop-expr.out ++ index_text names margin n sizes js) (sym first)
          ∙ c.loop-expr.invariant.lines;
      spots = ap (λ k. string_bytes c.put_spot.new.text ++ spots_text (spots k is)) next
          ∙ spots_step names n e is (string_bytes c.loop-expr.text) (string_bytes c.put_spot.new.text) v c.in_ok-value.ensures.value c.in_ok-put_spot.ensures
          ∙ ap (λ js. string_bytes c.loop-expr.text ++ spots_text (spots n js)) (sym first)
          ∙ c.loop-expr.invariant.spots;
      after = ap (λ k. next_all k is) next ∙ after_step names n e is v c.in_ok-value.ensures.value ∙ ap (next_all n) (sym first) ∙ c.loop-expr.invariant.after;
    }

pub put_indices-returns-clause-lines : goal.put_indices-returns-clause-lines
put_indices-returns-clause-lines t c =
    lines_all c.args.self.now c.args.margin.now c.loop-expr.after c.loop-expr.rest.now c.args.index.now c.loop-expr.expr-index (string_bytes c.loop-expr.out) _ c.loop-expr-test.false c.loop-expr.invariant.lines

pub put_indices-returns-clause-spots : goal.put_indices-returns-clause-spots
put_indices-returns-clause-spots t c =
    spots_all c.args.first c.loop-expr.after c.args.index.now c.loop-expr.expr-index (string_bytes c.loop-expr.text) c.of.result c.loop-expr-test.false c.of.ensures c.loop-expr.invariant.spots c.loop-expr.invariant.after

-- operands

pub put_operand-returns-clause-lines : goal.put_operand-returns-clause-lines
put_operand-returns-clause-lines t c =
    given_weaker c.kept.result (operand_lines c.args.self.now c.args.margin.now c.args.first (phrase c.args.expr.now) (string_bytes c.args.out.now) (string_bytes c.put_value.new.out) (string_bytes c.kept.new.out) c.in_ok-value.value c.in_ok-value.ensures.lines c.in_ok-value.ensures.value) c.kept.ensures.lines

pub put_operand-returns-clause-value : goal.put_operand-returns-clause-value
put_operand-returns-clause-value t c =
    given_as c.kept.result _ _ (operand_held c.args.self.now c.args.first (phrase c.args.expr.now) c.in_ok-value.value c.in_ok-value.ensures.value) c.kept.ensures.value

pub put_truth_of-returns-clause-lines : goal.put_truth_of-returns-clause-lines
put_truth_of-returns-clause-lines t c =
    truth_lines c.args.self.now c.args.margin.now c.args.temp c.args.first (phrase c.args.expr.now) (string_bytes c.args.out.now) (string_bytes c.put_operand.new.out) (string_bytes c.put_truth.new.out) c.in_ok-value.value
    c.in_ok-value.ensures.lines c.in_ok-value.ensures.value c.in_ok-put_truth.ensures

-- operators between operands

pub put_combined-returns : goal.put_combined-returns
put_combined-returns t c =
    let own : own_temp c.args.op (is_steady (phrase c.args.right.now)) ≡ false = search rules in
    let names = c.args.self.now in
    let e = phrase c.args.left.now in
    let f = phrase c.args.right.now in
    let one = c.in_ok-one in
    let two = c.in_ok-two in
    given_both c.combined.result _ _ _
    (λ it lines is. record {
      lines = combined_front names c.args.margin.now c.args.first c.args.op e f (string_bytes c.args.out.now) (string_bytes c.put_operand.new.out) (string_bytes c.put_operand-2.new.out) (string_bytes c.combined.new.out) one.one two.two
          own one.ensures.lines one.ensures.value two.ensures.lines two.ensures.value lines;
      value = is ∙ combined_held names c.args.first c.args.op e f one.one two.two own one.ensures.value two.ensures.value;
    })
    c.combined.ensures.lines c.combined.ensures.value

pub put_decided-returns : goal.put_decided-returns
put_decided-returns t c =
    let own : own_temp c.args.op (is_steady (phrase c.args.right.now)) ≡ true = search rules in
    let names = c.args.self.now in
    let e = phrase c.args.left.now in
    let f = phrase c.args.right.now in
    let one = c.in_ok-one in
    let two = c.in_ok-two in
    given_so c.decided.result _ _
    (λ it is. record {
      lines = decided_front names c.args.margin.now c.args.first c.args.op e f (string_bytes c.args.out.now) (string_bytes c.put_truth_of.new.out) (string_bytes c.put_undecided.new.out)
          c.as_str.result.now (string_bytes c.new-inner.result) c.as_str-2.result.now c.in_ok-start.start one.one own c.in_ok-start.ensures (c.as_str.ensures ∙ c.in_ok-inside.ensures) c.new-inner.ensures.bytes
          one.ensures.lines one.ensures.value (c.as_str-2.ensures.value ∙ two.ensures.lines) c.in_ok-put_undecided.ensures;
      value = is ∙ decided_held names c.args.first c.args.op e f c.in_ok-start.start one.one two.two own c.in_ok-start.ensures one.ensures.value two.ensures.value;
    })
    c.decided.ensures
