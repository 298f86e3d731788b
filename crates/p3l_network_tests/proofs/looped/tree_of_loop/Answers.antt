use Rattle.std.proofs.Common.{◌∙◌}
use Rattle.p3l_network_tests.proofs.Loops.{tree_is}
use Rattle.p3l_network_tests.proofs.looped.tree_of_loop.Goals as goal

pub returns : goal.returns
returns c =
    tree_is _ _ _ _ _ _ _ _ (c.from_vec.ensures ∙ c.in_ok-from_slice.ensures.items) c.new-nodes.ensures c.in_ok-push.ensures.ok c.seq_node.ensures c.in_ok-push-2.ensures.ok c.seq_node-2.ensures c.in_ok-push-3.ensures.ok c.in_ok-modules.ensures
