use Rattle.std.proofs.Common.{refl}
use Rattle.p3l_opts.proofs.Numbers.{parsed, unparsed, first_digit}
use Rattle.p3l_opts.proofs.value.number_of.Goals as goal

pub returns-then-begins_with_digit-clause-some : goal.returns-then-begins_with_digit-clause-some
returns-then-begins_with_digit-clause-some c = parsed c.args.word.now _ _ c.parse.ensures.value.0 (c.if-begins_with_digit.ensures.0 refl).0 c.ok.ensures.value

pub returns-then-begins_with_digit-clause-none : goal.returns-then-begins_with_digit-clause-none
returns-then-begins_with_digit-clause-none c = unparsed c.args.word.now _ _ c.parse.ensures.value.0 c.ok.ensures.value

pub returns-else-begins_with_digit-clause-none : goal.returns-else-begins_with_digit-clause-none
returns-else-begins_with_digit-clause-none c = λ n low high same. (let q = c.if-begins_with_digit.ensures.1 (first_digit n c.args.word.now low high same) in cc)
