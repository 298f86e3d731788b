use Rattle.p3l_sketch.proofs.OneNode.{tree_is}
use Rattle.p3l_sketch.proofs.one_node.tree_of_one.Goals as goal

pub returns : goal.returns
returns c =
    tree_is _ _ _ _ _ _ c.new-nodes.ensures c.new.ensures c.in_ok-push.ensures.ok c.new-modules.ensures c.in_ok-from_text.ensures c.in_ok-push-2.ensures.ok
