use Rattle.std.proofs.Common.{◌≡◌, ◌-◌, ℕ, length, length-drop, drop, take, get_or, arith}
use Rattle.std.proofs.lemmas.List.{take_all}
use Rattle.p3l_stream.proofs.Numerals.{front-minus}
use Rattle.p3l_stream.proofs.numeral.front_numeral.Goals as goal

pub returns-else-count-eq0-clause-number : goal.returns-else-count-eq0-clause-number
returns-else-count-eq0-clause-number c =
    let bytes = c.args.bytes.now in
    let minus : get_or bytes 0 0 ≡ 45 = omega arith in
    let found = c.front_digits-count.ensures in
    front-minus bytes (take (length bytes - 1) (drop 1 bytes)) _ _ c.in-45.len_at_least minus (take_all _ _ (omega (arith, length-drop {A = ℕ}))) c.if-count-eq0.false found.within found.digits found.value found.small
