use Rattle.std.proofs.Common.{arith}
use Rattle.p3l_opts.proofs.Numbers.{not_greater}
use Rattle.p3l_opts.proofs.value.number_in.Goals as goal

pub returns-in_default-clause-none : goal.returns-in_default-clause-none
returns-in_default-clause-none c = λ n low same.
    not_greater n c.in-Some.number c.args.word.now (omega (arith, c.if-number-from.false, c.from.ensures)) c.in-Some.ensures.some.0 same c.in-Some.ensures.some.1
