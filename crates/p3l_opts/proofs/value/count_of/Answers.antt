use Rattle.std.proofs.Common.{arith}
use Rattle.p3l_opts.proofs.Numbers.{not_greater}
use Rattle.p3l_opts.proofs.value.count_of.Goals as goal

pub returns-in_default-clause-none : goal.returns-in_default-clause-none
returns-in_default-clause-none c = λ n low high same.
    not_greater n c.in-Some.count c.args.word.now (omega arith) c.in-Some.ensures.some.1 same c.in-Some.ensures.some.2
