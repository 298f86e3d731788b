use Rattle.std.proofs.Common.{◌≡◌, true}
use Rattle.p3l_network_tests.proofs.Given.{given_or, own_or}
use Rattle.p3l_network_tests.proofs.Loops.{body_is, test_is}
use Rattle.p3l_network_tests.proofs.looped.CountsDownUnits.run.Goals as goal

pub returns-in-1 : goal.returns-in-1
returns-in-1 c =
    own_or _ c.counted.result (body_is c.args.node c.args.words.now c.counted.result c.in-1.is c.counted.ensures)

pub returns-in-2 : goal.returns-in-2
returns-in-2 c =
    given_or _ (true ≡ true) c.first_value.result (test_is c.args.node c.args.words.now c.first_value.result c.in-2.is c.first_value.ensures)
