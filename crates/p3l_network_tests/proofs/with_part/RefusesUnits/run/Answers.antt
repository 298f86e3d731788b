use Rattle.std.proofs.Common.{◌≡◌, sym, ◌∙◌, true}
use Rattle.p3l_network_tests.proofs.Given.{given_or}
use Rattle.p3l_network_tests.proofs.Parts.{refused_pair, alone_is}
use Rattle.p3l_network_tests.proofs.with_part.RefusesUnits.run.Goals as goal

pub returns-then-len-eq2 : goal.returns-then-len-eq2
returns-then-len-eq2 c = refused_pair c.args.node c.args.words.now c.requires.sequential (sym c.len.ensures ∙ c.if-len-eq2.true)

pub returns-then-len-eq1 : goal.returns-then-len-eq1
returns-then-len-eq1 c =
    given_or _ (true ≡ true) c.first_value.result (alone_is c.args.node c.args.words.now c.first_value.result c.if-node-eq0.true (sym c.len-then-node-eq0.ensures ∙ c.if-len-eq1.true) c.first_value.ensures)
