use Rattle.std.proofs.Common.{◌*◌, ◌≤◌, arith}
use Rattle.std.proofs.Math.Nat.{mul-le-mul}
use Rattle.p3l_cert.proofs.rule.workers_step.Goals as goal

pub overflow_mul-workers : goal.overflow_mul-workers
overflow_mul-workers c =
    let small = c.in_ok-least.ensures.small.1 in
    let product : c.args.workers * c.in_ok-least.least ≤ 512 * 513 = mul-le-mul c.requires.workers small in omega arith

pub overflow_add-workers : goal.overflow_add-workers
overflow_add-workers c =
    let small = c.in_ok-least.ensures.small.1 in
    let product : c.args.workers * c.in_ok-least.least ≤ 512 * 513 = mul-le-mul c.requires.workers small in omega arith
