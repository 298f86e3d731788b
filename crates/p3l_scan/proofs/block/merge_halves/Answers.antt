use Rattle.std.proofs.Common.{length, ap, ap₂, ◌∙◌}
use Rattle.p3l_skel.specs.Item.{elements, item}
use Rattle.p3l_scan.specs.Scan.{in_words, merged}
use Rattle.p3l_scan.proofs.Dividing.{back-half, front-half, half-merged}
use Rattle.p3l_scan.proofs.Running.{given-same}
use Rattle.p3l_scan.proofs.block.merge_halves.Goals as goal

pub merge-requires-clause-front : goal.merge-requires-clause-front
merge-requires-clause-front g c =
    let n = c.requires.block in
    (n.0, n.1, ap (λ ws. length ws) c.split_at.ensures.front ∙ front-half n.0 c.args.elem c.requires.operator.some c.args.block.now n.2)

pub merge-requires-clause-back : goal.merge-requires-clause-back
merge-requires-clause-back g c =
    let n = c.requires.block in
    (n.0, n.1, ap (λ ws. length ws) c.split_at.ensures.back ∙ back-half n.0 c.args.elem c.requires.operator.some c.args.block.now n.2)

pub returns : goal.returns
returns g c =
    let operator = item (g.U.Units.tree c.args.units.now) (g.U.Units.leaf c.args.units.now) c.args.op in
    let n = c.requires.block in
    given-same _ c.merge.result _ _
    (ap₂ (λ xs ys. in_words (merged operator (elements c.args.elem xs) (elements c.args.elem ys))) c.split_at.ensures.front
    c.split_at.ensures.back
    ∙ half-merged n.0 c.args.elem c.requires.operator.some c.args.block.now n.2 operator)
    c.merge.ensures
