use Rattle.std.proofs.Common.{arith, ap, sym, ◌∙◌, ◌≤◌, ◌^◌}
use Rattle.p3l_skel.proofs.Powers.{small_exponent}
use Rattle.p3l_scan.proofs.plan.can_scan.Goals as goal

pub returns-then-divides-clause-can : goal.returns-then-divides-clause-can
returns-then-divides-clause-can c =
    let d = c.divides.ensures.0 c.if-divides.true in
    let power = d.0 in
    let size = d.1 in
    let small : 2 ^ power.0 ≤ 512 = omega (arith, power.1, c.requires.few) in
    record {
      clause = c.in-Reduce.workers;
      len = c.in-Reduce.len;
      elem = c.in-Reduce.elem;
      form = ap (λ n. n.form) (sym c.in-Some.ensures.found) ∙ c.in-Reduce.is;
      levels = power.0;
      few = small_exponent power.0 small;
      power = power.1;
      size = size.0;
      sized = size.1;
    }
