use Rattle.std.proofs.Common.{◌≡◌, ◌<◌, get_or, sym, ◌∙◌, arith}
use Rattle.std.specs.Char.{digit_value, is_ascii_digit}
use Rattle.std.proofs.lemmas.Bool.{and_from}
use Rattle.std.proofs.lemmas.Bool.Decides.{nat_tests}
use Rattle.std.proofs.lemmas.Int.Digits.{digits_value_more}
use Rattle.std.proofs.lemmas.List.Folds.{list_all_more}
use Rattle.p3l_stream.proofs.Numerals.{below_top, digit_more}
use Rattle.p3l_stream.proofs.numeral.front_digits.Goals as goal

pub overflow_mul-value : goal.overflow_mul-value
overflow_mul-value c =
    omega (arith, c.loop-count.invariant.small, below_top c.loop-count.count (omega arith))

pub overflow_add-value : goal.overflow_add-value
overflow_add-value c =
    omega (arith, c.from.ensures, c.loop-count.invariant.small, below_top c.loop-count.count (omega arith))

pub loop-count-preserved : goal.loop-count-preserved
loop-count-preserved c =
    let digit : digit_value (get_or c.args.bytes.now c.loop-count.count 0) ≡ c.from.result = grind (arith, nat_tests) in
    let small : c.from.result < 10 = grind (arith, nat_tests) in
    record {
      within = omega arith;
      few = omega arith;
      digits = list_all_more is_ascii_digit c.args.bytes.now c.loop-count.count 0 c.if-count-bytes.true ∙ and_from _ _ c.loop-count.invariant.digits (sym c.is_ascii_digit.ensures.value ∙ c.if-is_ascii_digit.true);
      value = omega (arith, digits_value_more 10 c.args.bytes.now c.loop-count.count c.if-count-bytes.true, c.loop-count.invariant.value, digit);
      small = digit_more _ _ _ c.loop-count.invariant.small small;
    }

pub returns-else-is_ascii_digit-clause-small : goal.returns-else-is_ascii_digit-clause-small
returns-else-is_ascii_digit-clause-small c = omega (arith, c.loop-count.invariant.small, below_top c.loop-count.count c.loop-count.invariant.few)

pub returns-else-count-bytes-clause-small : goal.returns-else-count-bytes-clause-small
returns-else-count-bytes-clause-small c = omega (arith, c.loop-count.invariant.small, below_top c.loop-count.count c.loop-count.invariant.few)
