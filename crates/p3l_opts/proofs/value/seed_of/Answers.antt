use Rattle.std.proofs.Common.{refl}
use Rattle.p3l_opts.proofs.Numbers.{no_number, zero_digit}
use Rattle.p3l_opts.proofs.value.seed_of.Goals as goal

pub returns-then-is_word-clause-some : goal.returns-then-is_word-clause-some
returns-then-is_word-clause-some c = zero_digit c.args.word.now (c.if-is_word.ensures.0 refl)

pub returns-else-is_word-clause-none : goal.returns-else-is_word-clause-none
returns-else-is_word-clause-none c = no_number c.number_of.result c.args.word.now c.number_of.ensures.none (λ e. (let q = c.if-is_word.ensures.1 e in cc))
