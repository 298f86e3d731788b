use Rattle.std.proofs.Common.{◌*◌, arith, ap}
use Rattle.p3l_scan.proofs.Running.{block-small}
use Rattle.p3l_scan.proofs.units.ScanUnits.stage.Goals as goal

pub overflow_mul-size : goal.overflow_mul-size
overflow_mul-size g c =
    let kept = c.self.invariant in
    let s = c.self.inside in
    let levels = ap (λ v. v.levels) c.self.view_is in
    let small = block-small s.levels c.args.stage s.words (omega (arith, c.requires.there, levels)) kept.small in
    let power = c.power_of_two.ensures in
    omega (arith, small, ap (λ n. n * s.words) power)
