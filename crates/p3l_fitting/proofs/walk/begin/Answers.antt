use Rattle.std.proofs.Common.{arith}
use Rattle.p3l_fitting.proofs.walk.begin.Goals as goal

pub overflow_add-survey : goal.overflow_add-survey
overflow_add-survey c = omega (arith, c.requires.room, c.proc_count.ensures c.args.place.now)
