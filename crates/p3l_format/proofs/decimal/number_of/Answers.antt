use Rattle.std.proofs.Common.{sym, ◌∙◌}
use Rattle.p3l_format.specs.laws.Decimal.{number_not_plain, number_parsed, number_refused, plain_says, IsUtf8-digits}
use Rattle.p3l_format.proofs.decimal.number_of.Goals as goal

pub returns-then-not-is_plain : goal.returns-then-not-is_plain
returns-then-not-is_plain c = sym (number_not_plain c.args.digits.now (sym c.is_plain.ensures ∙ c.if-not-is_plain.true))

pub returns-in-Ok-parse : goal.returns-in-Ok-parse
returns-in-Ok-parse c =
    let says = plain_says c.args.digits.now (sym c.is_plain.ensures ∙ c.if-not-is_plain.false) in
    sym (number_parsed c.args.digits.now c.parse.result c.in-Ok-parse.number c.in-Ok-parse.is c.requires says.0 says.1 (rw (← c.in-Ok.ensures.cases.0) c.parse.ensures.value.0))

pub returns-in-Err-parse : goal.returns-in-Err-parse
returns-in-Err-parse c =
    let says = plain_says c.args.digits.now (sym c.is_plain.ensures ∙ c.if-not-is_plain.false) in
    sym (number_refused c.args.digits.now c.in-Err-parse.field-0 c.requires says.0 (rw (← c.in-Ok.ensures.cases.0) c.in-Err-parse.ensures.value.0))

pub returns-in-Err : goal.returns-in-Err
returns-in-Err c = absurd (c.in-Err.ensures.cases.0 (IsUtf8-digits c.args.digits.now c.requires))
