use Rattle.std.proofs.Common.{◌∙◌}
use Rattle.p3l_sketch.proofs.OneNode.{value_is}
use Rattle.p3l_sketch.proofs.one_node.EchoUnits.run.Goals as goal

pub returns : goal.returns
returns c = value_is c.args._node c.args.words.now _ c.requires.sequential (c.from_vec.ensures ∙ c.in_ok-copy.ensures.items_if_clones_equal (λ x y e. e) ∙ c.as_slice.ensures)
