use Rattle.std.proofs.Common.{ap, ◌∙◌, neg_ℤ, to_z, of_z}
use Rattle.std.specs.Int.{w64, int_wrap, int_wrapping_neg}
use Rattle.std.proofs.lemmas.Int.{wrapping_neg_is, to_z-of_z, SFits-int_wrap}
use Rattle.p3l_ast.proofs.meaning.operator.unary.Goals as goal

pub returns-in-Neg : goal.returns-in-Neg
returns-in-Neg c =
    let negated = c.wrapping_neg.ensures ∙ ap (int_wrapping_neg w64) (to_z-of_z w64 c.args.value c.ranges.value) ∙ wrapping_neg_is w64 c.args.value c.ranges.value in
    rw c.in-Neg.is
    (ap (λ z. to_z w64 (of_z w64 z)) negated ∙ to_z-of_z w64 (int_wrap w64 (neg_ℤ c.args.value)) (SFits-int_wrap w64 (neg_ℤ c.args.value)))
