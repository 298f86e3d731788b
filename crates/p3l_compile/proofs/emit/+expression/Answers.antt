use Rattle.std.proofs.Common.{rules, pos, ◌+◌, [], ◌∷◌, ◌++◌, length, FitsSigned, sym, ap, ◌∙◌, arith}
use Rattle.std.specs.Prelude.{slice_set}
use Rattle.std.specs.Int.{w64}
use Rattle.std.proofs.lemmas.Int.{to_z-of_z}
use Rattle.p3l_ast.specs.declared.expression.BinOp.TheVariants as operators
use Rattle.p3l_ast.specs.Tree.{phrase, phrases}
use Rattle.p3l_code.specs.declared.instr.Instr.TheVariants.{Push, Binary, Jump}
use Rattle.p3l_compile.specs.Phrase.{phrase_size, index_size, skip_code, decided, phrase_code, index_code, sizes_in}
use Rattle.p3l_compile.specs.Scope.{found}
use Rattle.p3l_compile.proofs.Trees.{number_tree, read_tree, unary_tree, binary_tree}
use Rattle.p3l_compile.proofs.Emitted.{short_emitted, read_falls, index_falls, index_left, index_emitted, index_end, size_end, read_emitted, read_sized, operator_some, not_empty, not_one, many_falls}
use Rattle.std.proofs.lemmas.Result.{on_ok_weaker}
use Rattle.p3l_compile.proofs.Given.{given_weaker}
use Rattle.p3l_compile.proofs.emit.+expression.Goals as goal

pub emit_expr-emit_read-requires : goal.emit_expr-emit_read-requires
emit_expr-emit_read-requires t c =
    let e = ap phrase_size (read_tree c.args.expr.now c.in-Read.target c.in-Read.is) in
    let f = read_falls (phrases c.in-Read.target.index.items) in
    (omega arith, omega arith)

pub emit_expr-emit_unary-requires : goal.emit_expr-emit_unary-requires
emit_expr-emit_unary-requires t c =
    let e = ap phrase_size (unary_tree c.args.expr.now c.deref.result.now _ _ c.in-Unary.is c.deref.ensures) in
    (omega arith, omega arith)

pub emit_expr-emit_binary-requires : goal.emit_expr-emit_binary-requires
emit_expr-emit_binary-requires t c =
    let e = ap phrase_size (binary_tree c.args.expr.now c.deref-in-Binary.result.now c.deref-in-Binary-2.result.now _ _ _ c.in-Binary.is c.deref-in-Binary.ensures c.deref-in-Binary-2.ensures) in
    let o = operator_some c.in-Binary.op in
    (omega arith, omega arith)

pub emit_expr-returns-in-Number-clause-code : goal.emit_expr-returns-in-Number-clause-code
emit_expr-returns-in-Number-clause-code t c =
    let fits : FitsSigned w64 c.in-Number.number = search rules in
    rw (number_tree c.args.expr.now _ c.in-Number.is) (simp to_z-of_z at c.put.ensures.code)

pub emit_expr-returns-in-Number-clause-size : goal.emit_expr-returns-in-Number-clause-size
emit_expr-returns-in-Number-clause-size t c = rw (number_tree c.args.expr.now _ c.in-Number.is) c.put.ensures.size

pub emit_expr-returns-in-Read-clause-code : goal.emit_expr-returns-in-Read-clause-code
emit_expr-returns-in-Read-clause-code t c = rw (read_tree c.args.expr.now c.in-Read.target c.in-Read.is) c.emit_read.ensures.code

pub emit_expr-returns-in-Read-clause-size : goal.emit_expr-returns-in-Read-clause-size
emit_expr-returns-in-Read-clause-size t c = rw (read_tree c.args.expr.now c.in-Read.target c.in-Read.is) c.emit_read.ensures.size

pub emit_expr-returns-in-Unary-clause-code : goal.emit_expr-returns-in-Unary-clause-code
emit_expr-returns-in-Unary-clause-code t c =
    rw (unary_tree c.args.expr.now c.deref.result.now _ _ c.in-Unary.is c.deref.ensures) c.emit_unary.ensures.code

pub emit_expr-returns-in-Unary-clause-size : goal.emit_expr-returns-in-Unary-clause-size
emit_expr-returns-in-Unary-clause-size t c =
    rw (unary_tree c.args.expr.now c.deref.result.now _ _ c.in-Unary.is c.deref.ensures) c.emit_unary.ensures.size

pub emit_expr-returns-in-Binary-clause-code : goal.emit_expr-returns-in-Binary-clause-code
emit_expr-returns-in-Binary-clause-code t c =
    rw (binary_tree c.args.expr.now c.deref-in-Binary.result.now c.deref-in-Binary-2.result.now _ _ _ c.in-Binary.is c.deref-in-Binary.ensures c.deref-in-Binary-2.ensures) c.emit_binary.ensures.code

pub emit_expr-returns-in-Binary-clause-size : goal.emit_expr-returns-in-Binary-clause-size
emit_expr-returns-in-Binary-clause-size t c =
    rw (binary_tree c.args.expr.now c.deref-in-Binary.result.now c.deref-in-Binary-2.result.now _ _ _ c.in-Binary.is c.deref-in-Binary.ensures c.deref-in-Binary-2.ensures) c.emit_binary.ensures.size

pub emit_short-returns-clause-code : goal.emit_short-returns-clause-code
emit_short-returns-clause-code t c =
    let fits : FitsSigned w64 c.decided.result = search rules in
    let truth = c.in_ok-put_truth.ensures.code
    ∙ ap (λ v. c.emit_expr-2.new.code.items ++ Push (pos 0) ∷ Binary operators.Ne ∷ Jump (length c.emit_expr-2.new.code.items + 4) ∷ Push v ∷ []) (to_z-of_z w64 c.decided.result fits ∙ c.decided.ensures) in
    ap (λ i. slice_set c.put_truth.new.code.items c.len-jump.result i) c.skip-2.ensures
    ∙ short_emitted (skip_code c.args.op) (Push (decided c.args.op)) c.args.code.now.items _ (λ p. phrase_code c.args.scope.now p (phrase c.args.right.now)) (phrase_size (phrase c.args.left.now)) (phrase_size (phrase c.args.right.now)) c.emit_expr.new.code.items c.put.new.code.items c.emit_expr-2.new.code.items c.put_truth.new.code.items _ c.len-jump.result c.place.result
    c.in_ok-emit_expr.ensures.code c.in_ok-emit_expr.ensures.size (c.len-jump.ensures ∙ c.emit_expr.new.code.ok.0) c.in_ok-put.ensures.code c.in_ok-put.ensures.size c.in_ok-emit_expr-2.ensures.code c.in_ok-emit_expr-2.ensures.size truth c.in_ok-put_truth.ensures.size c.place.ensures

pub emit_read-emit_index-requires : goal.emit_read-emit_index-requires
emit_read-emit_index-requires t c =
    let some = not_empty c.is_empty.result _ c.args.target.now.index.items c.is_empty.ensures c.if-is_empty.false c.args.target.now.index.ok.0 in
    let many = not_one c.len.result _ c.args.target.now.index.items c.len.ensures c.if-len-eq1.false c.args.target.now.index.ok.0 in
    let f = many_falls c.args.target.now.index.items some many in
    (omega arith, omega (arith, c.in_ok-put.ensures.size))

pub emit_read-returns-clause-code : goal.emit_read-returns-clause-code
emit_read-returns-clause-code t c =
    let some = not_empty c.is_empty.result _ c.args.target.now.index.items c.is_empty.ensures c.if-is_empty.false c.args.target.now.index.ok.0 in
    let many = not_one c.len.result _ c.args.target.now.index.items c.len.ensures c.if-len-eq1.false c.args.target.now.index.ok.0 in
    given_weaker c.put-3.result (λ d.
    read_emitted c.args.scope.now c.args.target.now.at.name _ c.args.target.now.index.items _ c.args.code.now.items c.put-2.new.code.items c.emit_index.new.code.items c.put-3.new.code.items c.element.result
    some many c.in_ok-put.ensures.code c.in_ok-put.ensures.size c.in_ok-emit_index.ensures.code c.element.ensures d) c.put-3.ensures.code

pub emit_read-returns-clause-size : goal.emit_read-returns-clause-size
emit_read-returns-clause-size t c =
    let some = not_empty c.is_empty.result _ c.args.target.now.index.items c.is_empty.ensures c.if-is_empty.false c.args.target.now.index.ok.0 in
    let many = not_one c.len.result _ c.args.target.now.index.items c.len.ensures c.if-len-eq1.false c.args.target.now.index.ok.0 in
    on_ok_weaker c.put-3.result (λ d.
    read_sized c.args.target.now.index.items (length c.args.code.now.items) (length c.put-2.new.code.items) (length c.emit_index.new.code.items) (length c.put-3.new.code.items)
    some many c.in_ok-put.ensures.size c.in_ok-emit_index.ensures.size d) c.put-3.ensures.size

pub emit_index-emit_expr-requires : goal.emit_index-emit_expr-requires
emit_index-emit_expr-requires t c =
    let items = c.deref-index-items.result.now in
    let d = c.loop-dimension.dimension in
    let f = index_falls items d c.index-item.result c.loop-dimension-test.true c.index-item.is in
    let l = index_left items d in
    let same = ap (λ x. index_size (phrases x)) c.deref-index-items.ensures.value in
    (omega (arith, c.loop-dimension.invariant.size), omega (arith, c.loop-dimension.invariant.size))

pub emit_index-loop-dimension-preserved : goal.emit_index-loop-dimension-preserved
emit_index-loop-dimension-preserved t c =
    let items = c.deref-index-items.result.now in
    let sizes = c.sizes-sizes.result.now in
    let d = c.loop-dimension.dimension in
    let f = index_falls items d c.index-item.result c.loop-dimension-test.true c.index-item.is in
    record {
      so_far = index_emitted c.args.scope.now items sizes d c.index-item.result c.loop-dimension.code.items c.emit_expr.new.code.items c.put.new.code.items _ c.size_at.result
          c.loop-dimension-test.true c.index-item.is c.loop-dimension.invariant.so_far c.in_ok-emit_expr.ensures.code c.in_ok-emit_expr.ensures.size c.size_at.ensures c.in_ok-put.ensures.code c.in_ok-put.ensures.size;
      size = omega (arith, c.loop-dimension.invariant.size, c.in_ok-emit_expr.ensures.size, c.in_ok-put.ensures.size);
    }

pub emit_index-returns-clause-code : goal.emit_index-returns-clause-code
emit_index-returns-clause-code t c =
    let items = c.deref-index-items.result.now in
    let sizes = c.sizes-sizes.result.now in
    sym (index_end c.args.scope.now items sizes c.loop-dimension.dimension c.loop-dimension.code.items c.loop-dimension-test.false)
    ∙ c.loop-dimension.invariant.so_far
    ∙ ap (λ z. c.args.code.now.items ++ index_code c.args.scope.now (length c.args.code.now.items) z (phrases items)) c.sizes-sizes.ensures
    ∙ ap (λ z. c.args.code.now.items ++ index_code c.args.scope.now (length c.args.code.now.items) (sizes_in (found c.args.scope.now c.args.target.now.at.name)) (phrases z)) c.deref-index-items.ensures.value

pub emit_index-returns-clause-size : goal.emit_index-returns-clause-size
emit_index-returns-clause-size t c =
    let items = c.deref-index-items.result.now in
    let e = size_end items c.loop-dimension.dimension c.loop-dimension-test.false in
    let same = ap (λ x. index_size (phrases x)) c.deref-index-items.ensures.value in
    omega (arith, c.loop-dimension.invariant.size)
