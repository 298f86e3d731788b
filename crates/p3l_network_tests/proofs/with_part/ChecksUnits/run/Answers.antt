use Rattle.std.proofs.Common.{◌≡◌, sym, ◌∙◌, true}
use Rattle.p3l_network_tests.proofs.Given.{given_or}
use Rattle.p3l_network_tests.proofs.Parts.{checks_is}
use Rattle.p3l_network_tests.proofs.with_part.ChecksUnits.run.Goals as goal

pub returns-then-len-eq1 : goal.returns-then-len-eq1
returns-then-len-eq1 c =
    given_or _ (true ≡ true) c.checked_word.result (checks_is c.args.node c.args.words.now c.checked_word.result c.if-node-eq1.true (sym c.len.ensures ∙ c.if-len-eq1.true) c.checked_word.ensures)
