use Rattle.std.proofs.Common.{map, refl}
use Rattle.p3l_body.specs.Seq.{seq_tree}
use Rattle.p3l_rewrite.proofs.serving.accepted_tree.Goals as goal

pub returns-in-Ok : goal.returns-in-Ok
returns-in-Ok c = record {
  accepted = record {
    whole = record { tree = c.in-Ok.resolved.tree; seqs = map seq_tree c.in-Ok.resolved.seqs };
    resolves = c.in-Ok.ensures.resolved;
    lawful = c.in-Ok.ensures.lawful;
  };
  tree_is = refl;
}
