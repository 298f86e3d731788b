use Rattle.std.proofs.Common.{◌≡◌, ◌-◌, ◌/◌, length, arith, ap, ap₂, sym, ◌∙◌, subst}
use Rattle.p3l_base.specs.declared.outcome.Outcome.TheVariants.{Value}
use Rattle.p3l_skel.specs.Item.{elements, item}
use Rattle.p3l_scan.specs.Scan.{both, in_words, merged, scan}
use Rattle.p3l_scan.proofs.Combining.{combines}
use Rattle.p3l_scan.proofs.Dividing.{back-less, back-length, back-trap, both-values, front-less, front-length, front-trap, halves-at, one-block, scan-words, several}
use Rattle.p3l_scan.proofs.Merging.{elements-are, elements-count}
use Rattle.p3l_scan.proofs.Scans.{Fits, scan-fits}
use Rattle.p3l_scan.proofs.Running.{given-same}
use Rattle.p3l_scan.proofs.block.+scan.Goals as goal

pub returns-then-block-size : goal.returns-then-block-size
returns-then-block-size g t c =
    let operator = item (g.U.Units.tree c.args.units.now) (g.U.Units.leaf c.args.units.now) c.args.op in
    let is = c.if-block-size.true in
    ap Value c.in_ok-copy.ensures ∙ one-block operator c.args.elem c.args.block.now c.requires.operator.some (omega (arith, is))

pub scan-requires : goal.scan-requires
scan-requires g t c κs within =
    let n = c.requires.block in
    let some = c.requires.operator.some in
    let more = c.if-block-size.false in
    let many = several n.0 c.args.elem (length c.args.block.now) n.1 n.2 (λ e. absurd (omega (arith, more, e))) in
    let front = ap (λ ws. length ws) c.split_at.ensures.front in (
      omega (arith, front, front-less n.0 c.args.elem some c.args.block.now n.2 many),
      (within, (c.requires.operator, (n.0 / 2, omega (arith, many), front ∙ front-length n.0 c.args.elem some c.args.block.now n.2 many))),
    )

pub scan-requires-2 : goal.scan-requires-2
scan-requires-2 g t c κs within =
    let n = c.requires.block in
    let some = c.requires.operator.some in
    let more = c.if-block-size.false in
    let many = several n.0 c.args.elem (length c.args.block.now) n.1 n.2 (λ e. absurd (omega (arith, more, e))) in
    let back = ap (λ ws. length ws) c.split_at.ensures.back in (
      omega (arith, back, back-less n.0 c.args.elem some c.args.block.now n.2 many),
      (within, (c.requires.operator, (n.0 - n.0 / 2, omega (arith, many), back ∙ back-length n.0 c.args.elem some c.args.block.now n.2 many))),
    )

pub returns-in-Trapped : goal.returns-in-Trapped
returns-in-Trapped g t c =
    let operator = item (g.U.Units.tree c.args.units.now) (g.U.Units.leaf c.args.units.now) c.args.op in
    let n = c.requires.block in
    let some = c.requires.operator.some in
    let more = c.if-block-size.false in
    let many = several n.0 c.args.elem (length c.args.block.now) n.1 n.2 (λ e. absurd (omega (arith, more, e))) in
    let keeps = combines (g.U.Units.tree c.args.units.now) (g.U.Units.leaf c.args.units.now)
    (g.met.U.Units.gives_outs c.args.units.now) c.args.op c.args.elem c.requires.operator in
    let front = c.split_at.result.0.now in
    let back = c.split_at.result.1.now in
    let front_length = ap (λ ws. length ws) c.split_at.ensures.front ∙ front-length n.0 c.args.elem some c.args.block.now n.2 many in
    let back_length = ap (λ ws. length ws) c.split_at.ensures.back ∙ back-length n.0 c.args.elem some c.args.block.now n.2 many in
    let halves : scan operator (elements c.args.elem c.args.block.now)
    ≡ both operator (scan operator (elements c.args.elem front)) (scan operator (elements c.args.elem back)) =
    halves-at n.0 c.args.elem some c.args.block.now n.2 many operator
    ∙ sym (ap₂ (λ xs ys. both operator (scan operator (elements c.args.elem xs)) (scan operator (elements c.args.elem ys)))
    c.split_at.ensures.front c.split_at.ensures.back) in
    front-trap operator _ (scan operator (elements c.args.elem back)) c.in-Trapped.trap (sym c.in-Trapped.is ∙ c.in_ok-left.ensures)
    ∙ sym (ap in_words halves)

pub merge-requires-clause-front : goal.merge-requires-clause-front
merge-requires-clause-front g t c =
    let operator = item (g.U.Units.tree c.args.units.now) (g.U.Units.leaf c.args.units.now) c.args.op in
    let n = c.requires.block in
    let some = c.requires.operator.some in
    let more = c.if-block-size.false in
    let many = several n.0 c.args.elem (length c.args.block.now) n.1 n.2 (λ e. absurd (omega (arith, more, e))) in
    let keeps = combines (g.U.Units.tree c.args.units.now) (g.U.Units.leaf c.args.units.now)
    (g.met.U.Units.gives_outs c.args.units.now) c.args.op c.args.elem c.requires.operator in
    let front = c.split_at.result.0.now in
    let back = c.split_at.result.1.now in
    let front_length = ap (λ ws. length ws) c.split_at.ensures.front ∙ front-length n.0 c.args.elem some c.args.block.now n.2 many in
    let back_length = ap (λ ws. length ws) c.split_at.ensures.back ∙ back-length n.0 c.args.elem some c.args.block.now n.2 many in
    let halves : scan operator (elements c.args.elem c.args.block.now)
    ≡ both operator (scan operator (elements c.args.elem front)) (scan operator (elements c.args.elem back)) =
    halves-at n.0 c.args.elem some c.args.block.now n.2 many operator
    ∙ sym (ap₂ (λ xs ys. both operator (scan operator (elements c.args.elem xs)) (scan operator (elements c.args.elem ys)))
    c.split_at.ensures.front c.split_at.ensures.back) in
    let left_are = scan-words (n.0 / 2) c.args.elem (scan operator (elements c.args.elem front)) c.in-Value.left some
    (subst (λ k. Fits k c.args.elem (scan operator (elements c.args.elem front)))
    (elements-count (n.0 / 2) c.args.elem front some front_length)
    (scan-fits c.args.elem operator keeps (elements c.args.elem front)
    (let are = elements-are (n.0 / 2) c.args.elem front some front_length in are.1)))
    (sym c.in-Value.is ∙ c.in_ok-left.ensures) in
    (n.0 / 2, omega (arith, many), ap (λ ws. length ws) c.as_slice.ensures ∙ left_are.1)

pub merge-requires-clause-back : goal.merge-requires-clause-back
merge-requires-clause-back g t c =
    let operator = item (g.U.Units.tree c.args.units.now) (g.U.Units.leaf c.args.units.now) c.args.op in
    let n = c.requires.block in
    let some = c.requires.operator.some in
    let more = c.if-block-size.false in
    let many = several n.0 c.args.elem (length c.args.block.now) n.1 n.2 (λ e. absurd (omega (arith, more, e))) in
    let keeps = combines (g.U.Units.tree c.args.units.now) (g.U.Units.leaf c.args.units.now)
    (g.met.U.Units.gives_outs c.args.units.now) c.args.op c.args.elem c.requires.operator in
    let front = c.split_at.result.0.now in
    let back = c.split_at.result.1.now in
    let front_length = ap (λ ws. length ws) c.split_at.ensures.front ∙ front-length n.0 c.args.elem some c.args.block.now n.2 many in
    let back_length = ap (λ ws. length ws) c.split_at.ensures.back ∙ back-length n.0 c.args.elem some c.args.block.now n.2 many in
    let halves : scan operator (elements c.args.elem c.args.block.now)
    ≡ both operator (scan operator (elements c.args.elem front)) (scan operator (elements c.args.elem back)) =
    halves-at n.0 c.args.elem some c.args.block.now n.2 many operator
    ∙ sym (ap₂ (λ xs ys. both operator (scan operator (elements c.args.elem xs)) (scan operator (elements c.args.elem ys)))
    c.split_at.ensures.front c.split_at.ensures.back) in
    let right_are = scan-words (n.0 - n.0 / 2) c.args.elem (scan operator (elements c.args.elem back)) c.in-Value-2.right some
    (subst (λ k. Fits k c.args.elem (scan operator (elements c.args.elem back)))
    (elements-count (n.0 - n.0 / 2) c.args.elem back some back_length)
    (scan-fits c.args.elem operator keeps (elements c.args.elem back)
    (let are = elements-are (n.0 - n.0 / 2) c.args.elem back some back_length in are.1)))
    (sym c.in-Value-2.is ∙ c.in_ok-right.ensures) in
    (n.0 - n.0 / 2, omega (arith, many), ap (λ ws. length ws) c.as_slice-in-Value-2.ensures ∙ right_are.1)

pub returns-in-Value-2 : goal.returns-in-Value-2
returns-in-Value-2 g t c =
    let operator = item (g.U.Units.tree c.args.units.now) (g.U.Units.leaf c.args.units.now) c.args.op in
    let n = c.requires.block in
    let some = c.requires.operator.some in
    let more = c.if-block-size.false in
    let many = several n.0 c.args.elem (length c.args.block.now) n.1 n.2 (λ e. absurd (omega (arith, more, e))) in
    let keeps = combines (g.U.Units.tree c.args.units.now) (g.U.Units.leaf c.args.units.now)
    (g.met.U.Units.gives_outs c.args.units.now) c.args.op c.args.elem c.requires.operator in
    let front = c.split_at.result.0.now in
    let back = c.split_at.result.1.now in
    let front_length = ap (λ ws. length ws) c.split_at.ensures.front ∙ front-length n.0 c.args.elem some c.args.block.now n.2 many in
    let back_length = ap (λ ws. length ws) c.split_at.ensures.back ∙ back-length n.0 c.args.elem some c.args.block.now n.2 many in
    let halves : scan operator (elements c.args.elem c.args.block.now)
    ≡ both operator (scan operator (elements c.args.elem front)) (scan operator (elements c.args.elem back)) =
    halves-at n.0 c.args.elem some c.args.block.now n.2 many operator
    ∙ sym (ap₂ (λ xs ys. both operator (scan operator (elements c.args.elem xs)) (scan operator (elements c.args.elem ys)))
    c.split_at.ensures.front c.split_at.ensures.back) in
    let left_are = scan-words (n.0 / 2) c.args.elem (scan operator (elements c.args.elem front)) c.in-Value.left some
    (subst (λ k. Fits k c.args.elem (scan operator (elements c.args.elem front)))
    (elements-count (n.0 / 2) c.args.elem front some front_length)
    (scan-fits c.args.elem operator keeps (elements c.args.elem front)
    (let are = elements-are (n.0 / 2) c.args.elem front some front_length in are.1)))
    (sym c.in-Value.is ∙ c.in_ok-left.ensures) in
    let right_are = scan-words (n.0 - n.0 / 2) c.args.elem (scan operator (elements c.args.elem back)) c.in-Value-2.right some
    (subst (λ k. Fits k c.args.elem (scan operator (elements c.args.elem back)))
    (elements-count (n.0 - n.0 / 2) c.args.elem back some back_length)
    (scan-fits c.args.elem operator keeps (elements c.args.elem back)
    (let are = elements-are (n.0 - n.0 / 2) c.args.elem back some back_length in are.1)))
    (sym c.in-Value-2.is ∙ c.in_ok-right.ensures) in
    given-same _ c.merge.result _ _
    (ap₂ (λ xs ys. in_words (merged operator (elements c.args.elem xs) (elements c.args.elem ys))) c.as_slice.ensures
    c.as_slice-in-Value-2.ensures
    ∙ both-values operator _ _ _ _ left_are.0 right_are.0 ∙ sym (ap in_words halves))
    c.merge.ensures

pub returns : goal.returns
returns g t c =
    let operator = item (g.U.Units.tree c.args.units.now) (g.U.Units.leaf c.args.units.now) c.args.op in
    let n = c.requires.block in
    let some = c.requires.operator.some in
    let more = c.if-block-size.false in
    let many = several n.0 c.args.elem (length c.args.block.now) n.1 n.2 (λ e. absurd (omega (arith, more, e))) in
    let keeps = combines (g.U.Units.tree c.args.units.now) (g.U.Units.leaf c.args.units.now)
    (g.met.U.Units.gives_outs c.args.units.now) c.args.op c.args.elem c.requires.operator in
    let front = c.split_at.result.0.now in
    let back = c.split_at.result.1.now in
    let front_length = ap (λ ws. length ws) c.split_at.ensures.front ∙ front-length n.0 c.args.elem some c.args.block.now n.2 many in
    let back_length = ap (λ ws. length ws) c.split_at.ensures.back ∙ back-length n.0 c.args.elem some c.args.block.now n.2 many in
    let halves : scan operator (elements c.args.elem c.args.block.now)
    ≡ both operator (scan operator (elements c.args.elem front)) (scan operator (elements c.args.elem back)) =
    halves-at n.0 c.args.elem some c.args.block.now n.2 many operator
    ∙ sym (ap₂ (λ xs ys. both operator (scan operator (elements c.args.elem xs)) (scan operator (elements c.args.elem ys)))
    c.split_at.ensures.front c.split_at.ensures.back) in
    back-trap operator (scan operator (elements c.args.elem front)) (scan operator (elements c.args.elem back)) c.in-Value.left
    c.in-Trapped-2.trap (sym c.in-Value.is ∙ c.in_ok-left.ensures) (sym c.in-Trapped-2.is ∙ c.in_ok-right.ensures)
    ∙ sym (ap in_words halves)
