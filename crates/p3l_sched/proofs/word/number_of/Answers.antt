use Rattle.std.proofs.Common.{sym, ◌∙◌}
use Rattle.p3l_sched.proofs.Numbers.{IsUtf8-digits, parsed}
use Rattle.p3l_sched.proofs.word.number_of.Goals as goal

pub returns-in-Ok : goal.returns-in-Ok
returns-in-Ok c =
    parsed c.args.word.now _ _ (sym c.are_digits.ensures ∙ c.if-not-are_digits.false) c.requires
    (rw (← c.in-Ok.ensures.cases.0) c.parse.ensures.value.0) c.ok.ensures.value

pub returns-in-Err : goal.returns-in-Err
returns-in-Err c =
    absurd (c.in-Err.ensures.cases.0 (IsUtf8-digits c.args.word.now (sym c.are_digits.ensures ∙ c.if-not-are_digits.false)))
