use Rattle.std.proofs.Common.{sym}
use Rattle.p3l_reduce.proofs.Placing.{tee_low}
use Rattle.p3l_reduce.proofs.tree.tee.Goals as goal
use Rattle.p3l_reduce.specs.laws.ReduceLaw.{tee_above}

pub returns-then-q-lt2 : goal.returns-then-q-lt2
returns-then-q-lt2 c = tee_low c.args.output c.args.from c.args.q c.if-q-lt2.true

pub returns-else-q-lt2 : goal.returns-else-q-lt2
returns-else-q-lt2 c = sym (tee_above c.args.output c.args.from c.args.q c.if-q-lt2.false)
