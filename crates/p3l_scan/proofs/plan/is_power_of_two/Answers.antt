use Rattle.std.proofs.Common.{◌≡◌, ◌*◌, ◌^◌, ◌%◌, ◌<◌, ◌≤◌, arith, eq-eqb, eqb-true, ap, ◌∙◌}
use Rattle.std.proofs.Math.Nat.{mod-eq_of_lt}
use Rattle.p3l_skel.proofs.Powers.{log-unique}
use Rattle.p3l_scan.proofs.plan.is_power_of_two.Goals as goal

pub returns-then-n-ne0 : goal.returns-then-n-ne0
returns-then-n-ne0 c =
    let below : 1 * 2 ^ c.ilog2.result < 4294967296 = omega (arith, c.ranges.n.fits) in
    let small : 1 * 2 ^ c.ilog2.result % 4294967296 ≡ 1 * 2 ^ c.ilog2.result = mod-eq_of_lt below in (
      λ same. (c.ilog2.result, omega (arith, small, eqb-true _ _ same)),
      λ (k, e). let low : 2 ^ c.ilog2.result ≤ 2 ^ k = omega arith in
          let high : 2 ^ k < 2 * 2 ^ c.ilog2.result = omega arith in
          eq-eqb _ _ (small ∙ omega (arith, ap (λ j. 2 ^ j) (log-unique _ k low high))),
    )
