use Rattle.p3l_format.specs.laws.Decimal.{digits_front}
use Rattle.p3l_format.proofs.decimal.read_number.Goals as goal

pub number_of-requires : goal.number_of-requires
number_of-requires c = rw (c.split_at.ensures.front, c.count_digits.ensures.len) (digits_front c.args.bytes.now)
