use Rattle.std.proofs.Common.{sym, ◌∙◌}
use Rattle.p3l_stream.proofs.Numbers.{IsUtf8-numeral, number_of-refused}
use Rattle.p3l_stream.proofs.word.read_number.Goals as goal

pub returns-in-Err-parse : goal.returns-in-Err-parse
returns-in-Err-parse c =
    number_of-refused c.args.word.now c.in-Err-parse.field-0 (sym c.has_form.ensures ∙ c.if-not-has_form.false)
    (rw (← c.in-Ok.ensures.cases.0) c.in-Err-parse.ensures.value.0)

pub returns-in-Err : goal.returns-in-Err
returns-in-Err c =
    absurd (c.in-Err.ensures.cases.0 (IsUtf8-numeral c.args.word.now (sym c.has_form.ensures ∙ c.if-not-has_form.false)))
