use Rattle.std.proofs.Common.{map}
use Rattle.p3l_body.specs.Seq.{seq_tree}
use Rattle.p3l_compile.proofs.units.units_of.Goals as goal

pub table_of-requires-clause-bodies : goal.table_of-requires-clause-bodies
table_of-requires-clause-bodies c =
    record { seqs = map seq_tree c.args.seqs.now; bodies = c.requires.bodies; compiled = c.in_ok-codes.ensures }

pub returns-clause-leaf : goal.returns-clause-leaf
returns-clause-leaf c = c.table_of.ensures.leaf (map seq_tree c.args.seqs.now) c.requires.bodies c.in_ok-codes.ensures
