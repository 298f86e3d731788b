use Rattle.std.proofs.Common.{◌/◌, ◌%◌, arith, eq-eqb, eqb-true, ap, ◌∙◌}
use Rattle.std.proofs.Math.Nat.{div-add-mod, mul-mod_right}
use Rattle.p3l_scan.proofs.plan.divides.Goals as goal

pub returns-then-is_power_of_two : goal.returns-then-is_power_of_two
returns-then-is_power_of_two c = (
  λ same. (
    c.is_power_of_two.ensures.0 c.if-is_power_of_two.true,
    (
      c.args.len / c.args.segments,
      omega (arith, div-add-mod c.args.len c.args.segments, eqb-true _ _ same),
    ),
  ),
  λ both. let h = both.1 in
      eq-eqb _ _ (ap (λ n. n % c.args.segments) h.1 ∙ mul-mod_right c.args.segments h.0),
)
