use Rattle.std.proofs.Common.{length, unwrap_or, ap, ◌∙◌}
use Rattle.p3l_format.specs.laws.Decimal.{digits_by_position}
use Rattle.p3l_format.proofs.decimal.count_digits.Goals as goal

pub returns : goal.returns
returns c =
    let h = digits_by_position c.args.bytes.now c.unwrap_or.result (c.unwrap_or.ensures ∙ ap (λ found. unwrap_or found (length c.args.bytes.now)) c.first_other.ensures) in
    record { len = h.0; within = h.1 }
