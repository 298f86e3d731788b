use Rattle.std.proofs.Common.{map, refl}
use Rattle.p3l_body.specs.Seq.{seq_tree}
use Rattle.p3l_program.proofs.source.tree_of.Goals as goal

pub returns-in-Ok-clause-kept : goal.returns-in-Ok-clause-kept
returns-in-Ok-clause-kept c = record {
  accepted = record {
    whole = record { tree = c.in-Ok.resolved.tree; seqs = map seq_tree c.in-Ok.resolved.seqs };
    resolves = c.in-Ok.ensures.resolved;
    lawful = c.in-Ok.ensures.lawful;
  };
  tree_is = refl;
}
