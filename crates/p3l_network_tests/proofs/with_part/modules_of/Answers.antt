use Rattle.p3l_network_tests.proofs.Parts.{modules_are}
use Rattle.p3l_network_tests.proofs.with_part.modules_of.Goals as goal

pub returns : goal.returns
returns c = modules_are c.args.kind _ _ _ c.new-modules.ensures c.in_ok-add.ensures.ok c.in_ok-add-2.ensures.ok
