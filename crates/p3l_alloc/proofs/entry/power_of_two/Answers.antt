use Rattle.std.proofs.Common.{◌*◌, ◌^◌, ◌<◌, ◌≤◌, ◌∙◌, arith}
use Rattle.std.proofs.Math.Nat.{mod-eq_of_lt}
use Rattle.std.proofs.Math.Pow.{pow_mono}
use Rattle.p3l_alloc.proofs.entry.power_of_two.Goals as goal

pub returns : goal.returns
returns c =
    let few : 2 ^ c.args.level ≤ 2 ^ 9 = pow_mono c.requires in
    let small : 1 * 2 ^ c.args.level < 4294967296 = omega arith in
    mod-eq_of_lt small ∙ omega arith
