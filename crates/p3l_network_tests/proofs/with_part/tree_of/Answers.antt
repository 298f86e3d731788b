use Rattle.std.proofs.Common.{◌∙◌}
use Rattle.p3l_network_tests.proofs.Parts.{tree_is}
use Rattle.p3l_network_tests.proofs.with_part.tree_of.Goals as goal

pub returns : goal.returns
returns c =
    tree_is c.args.form c.args.kind c.args.root.0 c.args.root.1 c.args.part.0 c.args.part.1 _ _ _ _ _ _ c.new-nodes.ensures
    (c.from_vec.ensures ∙ c.in_ok-from_slice.ensures.items) c.new.ensures c.in_ok-push.ensures.ok c.in_ok-push-2.ensures.ok c.in_ok-modules.ensures
