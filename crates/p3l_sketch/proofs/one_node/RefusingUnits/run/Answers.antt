use Rattle.p3l_sketch.proofs.OneNode.{refused_is}
use Rattle.p3l_sketch.proofs.one_node.RefusingUnits.run.Goals as goal

pub returns : goal.returns
returns c = refused_is c.args._node c.args._words.now c.requires.sequential
