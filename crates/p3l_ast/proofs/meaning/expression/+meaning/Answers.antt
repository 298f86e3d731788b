use Rattle.std.proofs.Common.{◌+◌, ◌≤◌, Ok, FitsSigned, drop, length, get_or, arith, rules, ap, sym, ◌∙◌, refl}
use Rattle.std.specs.Int.{w64}
use Rattle.std.proofs.lemmas.Int.{to_z-of_z}
use Rattle.std.proofs.lemmas.Result.{err_from_is_err_and}
use Rattle.p3l_ast.specs.Tree.{phrase, phrases}
use Rattle.p3l_ast.specs.Meaning.Operator.{unary_of}
use Rattle.p3l_ast.specs.Meaning.Expression.{combined, indexed, value_of, place_of}
use Rattle.p3l_ast.proofs.Values.{number_value, exit_given, pass_given, read_value, unary_value, binary_value, combined_exit, combined_pass, same_place, place_step, place_end, indexed_exit, indexed_pass, two_small, small_step, drop_next}
use Rattle.p3l_ast.proofs.meaning.expression.+meaning.Goals as goal

pub value-returns-in_err-place-in-Read : goal.value-returns-in_err-place-in-Read
value-returns-in_err-place-in-Read t c =
    let p = err_from_is_err_and c.from_residual.result c.from_residual.ensures.1 in
    rw (p.1, p.2) (exit_given _ _ _ _ c.in_err-place-in-Read.ensures (read_value _ _ _ c.in-Read.is))

pub value-returns-in_err-operand-in-Unary : goal.value-returns-in_err-operand-in-Unary
value-returns-in_err-operand-in-Unary t c =
    let p = err_from_is_err_and c.from_residual-in_err-operand-in-Unary.result c.from_residual-in_err-operand-in-Unary.ensures.1 in
    rw (p.1, p.2) (exit_given _ _ _ _ c.in_err-operand-in-Unary.ensures (unary_value _ _ _ _ _ c.in-Unary.is c.deref.ensures))

pub value-returns-in_err-left-in-Binary : goal.value-returns-in_err-left-in-Binary
value-returns-in_err-left-in-Binary t c =
    let p = err_from_is_err_and c.from_residual-in_err-left-in-Binary.result c.from_residual-in_err-left-in-Binary.ensures.1 in
    rw (p.1, p.2) (combined_exit _ _ _ _ _ c.in_err-left-in-Binary.ensures (binary_value _ _ _ c.in-Binary.right.value _ _ _ c.in-Binary.is c.deref-in-Binary.ensures refl))

pub value-returns-in-Number : goal.value-returns-in-Number
value-returns-in-Number t c =
    let fits : FitsSigned w64 c.in-Number.number = search rules in
    ap Ok (to_z-of_z w64 c.in-Number.number fits) ∙ sym (number_value _ _ _ c.in-Number.is)

pub value-returns-in_ok-place-in-Read : goal.value-returns-in_ok-place-in-Read
value-returns-in_ok-place-in-Read t c =
    let fits : FitsSigned w64 c.word.result = search rules in
    ap Ok (to_z-of_z w64 c.word.result fits ∙ c.word.ensures) ∙ pass_given _ _ _ _ c.in_ok-place-in-Read.ensures (read_value _ _ _ c.in-Read.is)

pub value-returns-in_ok-operand-in-Unary : goal.value-returns-in_ok-operand-in-Unary
value-returns-in_ok-operand-in-Unary t c =
    let fits : FitsSigned w64 c.unary.result = search rules in
    let operand : FitsSigned w64 c.in_ok-operand-in-Unary.operand = search rules in
    ap Ok (to_z-of_z w64 c.unary.result fits ∙ c.unary.ensures ∙ ap (unary_of c.in-Unary.op) (to_z-of_z w64 c.in_ok-operand-in-Unary.operand operand))
    ∙ pass_given _ (λ x. Ok (unary_of c.in-Unary.op x)) _ _ c.in_ok-operand-in-Unary.ensures (unary_value _ _ _ _ _ c.in-Unary.is c.deref.ensures)

pub value-returns-in_ok-left-in-Binary : goal.value-returns-in_ok-left-in-Binary
value-returns-in_ok-left-in-Binary t c =
    let fits : FitsSigned w64 c.in_ok-left-in-Binary.left = search rules in
    let both = c.both.ensures ∙ ap (λ x. combined c.in-Binary.op (Ok x) (value_of c.args.valuation.now (phrase c.deref-in-Binary-2.result.now))) (to_z-of_z w64 c.in_ok-left-in-Binary.left fits) in
    combined_pass _ _ _ _ _ _ c.in_ok-left-in-Binary.ensures both (binary_value _ _ _ _ _ _ _ c.in-Binary.is c.deref-in-Binary.ensures c.deref-in-Binary-2.ensures)

pub place-element-requires : goal.place-element-requires
place-element-requires t c =
    λ h. two_small c.loop-dimension.dimension c.loop-dimension.place
    (let few : length c.sizes-sizes.result.now ≤ 3 = rw c.sizes-sizes.ensures (c.requires.few c.args.target.now.at.name) in omega arith)
    c.loop-dimension.invariant.small

pub place-returns-in_err-index : goal.place-returns-in_err-index
place-returns-in_err-index t c =
    let p = err_from_is_err_and c.from_residual.result c.from_residual.ensures.1 in
    let whole = same_place c.args.valuation.now _ _ _ _ c.deref-index-items.ensures.value c.sizes-sizes.ensures in
    let step = place_step c.args.valuation.now c.deref-index-items.result.now (drop c.loop-dimension.dimension c.sizes-sizes.result.now) c.loop-dimension.dimension c.loop-dimension.place c.index-item.result c.loop-dimension-test.true c.index-item.is in
    rw (p.1, p.2) (exit_given _ _ _ _ c.in_err-index.ensures (sym whole ∙ c.loop-dimension.invariant.same ∙ step))

pub place-returns-in_err-place : goal.place-returns-in_err-place
place-returns-in_err-place t c =
    let p = err_from_is_err_and c.from_residual-in_err-place.result c.from_residual-in_err-place.ensures.1 in
    let fits : FitsSigned w64 c.in_ok-index.index = search rules in
    let whole = same_place c.args.valuation.now _ _ _ _ c.deref-index-items.ensures.value c.sizes-sizes.ensures in
    let step = place_step c.args.valuation.now c.deref-index-items.result.now (drop c.loop-dimension.dimension c.sizes-sizes.result.now) c.loop-dimension.dimension c.loop-dimension.place c.index-item.result c.loop-dimension-test.true c.index-item.is in
    let found = c.in_err-place.ensures.value ∙ ap (indexed (drop c.loop-dimension.dimension c.sizes-sizes.result.now) c.loop-dimension.place (λ rest next. Ok next)) (to_z-of_z w64 c.in_ok-index.index fits) in
    rw (p.1, p.2) (indexed_exit (drop c.loop-dimension.dimension c.sizes-sizes.result.now) c.loop-dimension.place (place_of c.args.valuation.now (phrases (drop (c.loop-dimension.dimension + 1) c.deref-index-items.result.now))) c.in_ok-index.index _ found ∙ pass_given _ _ _ _ c.in_ok-index.ensures (sym whole ∙ c.loop-dimension.invariant.same ∙ step))

pub place-loop-dimension-preserved : goal.place-loop-dimension-preserved
place-loop-dimension-preserved t c =
    let fits : FitsSigned w64 c.in_ok-index.index = search rules in
    let step = place_step c.args.valuation.now c.deref-index-items.result.now (drop c.loop-dimension.dimension c.sizes-sizes.result.now) c.loop-dimension.dimension c.loop-dimension.place c.index-item.result c.loop-dimension-test.true c.index-item.is in
    let found = c.in_ok-place.ensures.value ∙ ap (indexed (drop c.loop-dimension.dimension c.sizes-sizes.result.now) c.loop-dimension.place (λ rest next. Ok next)) (to_z-of_z w64 c.in_ok-index.index fits) in
    let size : get_or c.sizes-sizes.result.now c.loop-dimension.dimension 0 ≤ 65536 = rw c.sizes-sizes.ensures (c.requires.small c.args.target.now.at.name c.loop-dimension.dimension) in
    record {
      dimensions = omega (arith, c.in_ok-place.ensures.within);
      small = small_step c.loop-dimension.dimension c.loop-dimension.place (get_or c.sizes-sizes.result.now c.loop-dimension.dimension 0) c.in_ok-place.place c.loop-dimension.invariant.small size c.in_ok-place.ensures.below;
      same =
          c.loop-dimension.invariant.same ∙ sym (pass_given _ _ _ _ c.in_ok-index.ensures step) ∙ indexed_pass (drop c.loop-dimension.dimension c.sizes-sizes.result.now) c.loop-dimension.place c.in_ok-place.place (place_of c.args.valuation.now (phrases (drop (c.loop-dimension.dimension + 1) c.deref-index-items.result.now))) c.in_ok-index.index found
          ∙ ap (λ z. place_of c.args.valuation.now (phrases (drop (c.loop-dimension.dimension + 1) c.deref-index-items.result.now)) z c.in_ok-place.place) (drop_next c.sizes-sizes.result.now c.loop-dimension.dimension);
    }

pub place-returns : goal.place-returns
place-returns t c =
    let whole = same_place c.args.valuation.now _ _ _ _ c.deref-index-items.ensures.value c.sizes-sizes.ensures in
    sym (place_end c.args.valuation.now c.deref-index-items.result.now (drop c.loop-dimension.dimension c.sizes-sizes.result.now) c.loop-dimension.dimension c.loop-dimension.place c.loop-dimension-test.false) ∙ sym c.loop-dimension.invariant.same ∙ whole
