use Rattle.p3l_network_tests.proofs.Loops.{modules_are}
use Rattle.p3l_network_tests.proofs.looped.modules.Goals as goal

pub returns : goal.returns
returns c = modules_are _ _ _ _ c.new-modules.ensures c.in_ok-add.ensures.ok c.in_ok-add-2.ensures.ok c.in_ok-add-3.ensures.ok
