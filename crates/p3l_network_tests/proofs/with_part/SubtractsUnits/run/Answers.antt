use Rattle.std.proofs.Common.{sym, ◌∙◌}
use Rattle.p3l_network_tests.proofs.Given.{own_or}
use Rattle.p3l_network_tests.proofs.Parts.{pair_is, triple_is}
use Rattle.p3l_network_tests.proofs.with_part.SubtractsUnits.run.Goals as goal

pub returns-then-len-eq2 : goal.returns-then-len-eq2
returns-then-len-eq2 c =
    own_or _ c.difference.result (pair_is c.args.node c.args.words.now c.difference.result c.requires.sequential (sym c.len.ensures ∙ c.if-len-eq2.true) c.difference.ensures)

pub returns-then-len-eq3 : goal.returns-then-len-eq3
returns-then-len-eq3 c =
    own_or _ c.difference_of_three.result (triple_is c.args.node c.args.words.now c.difference_of_three.result c.if-node-eq0.true (sym c.len-then-node-eq0.ensures ∙ c.if-len-eq3.true) c.difference_of_three.ensures)
