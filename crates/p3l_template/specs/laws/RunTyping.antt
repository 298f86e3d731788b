-- The typing law of run: a node of one process is between channels of its words, and keeps the
-- tags.
use Rattle.std.proofs.Common.{◌≡◌, ℕ, [], refl, sym, subst, ◌∙◌, arith}
use Rattle.p3l_skel.specs.declared.tree.Tree.{Tree}
use Rattle.p3l_skel.specs.Tree.{node_at}
use Rattle.p3l_firing.specs.kinds.Run.{Takes}
use Rattle.p3l_template.specs.Run.{run_shape}
use Rattle.p3l_template.specs.Shape.{numbers_from}
use Rattle.p3l_template.specs.Typing.{IsTypedShape, IsRunNode}

pub run_typed : (tree : Tree) (node : ℕ) → IsRunNode tree node → IsTypedShape tree node (run_shape node)
unfolding numbers_from
run_typed tree node is = record {
  widths = λ t. [];
  deeper = 0;
  shallow = omega arith;
  count = λ t base. refl;
  tags = λ t k. omega arith;
  credits = λ cap base t k l. absurd (omega arith);
  reads = λ base c. refl;
  writes = λ base c. refl;
  inner = λ base. (tt, tt);
  procs = λ w base t s. (
    record {
      node = is.there;
      ins = refl;
      outs = refl;
      takes = subst (Takes (node_at tree node).form (node_at tree node).ins 0) (sym s.input.words) is.takes;
      gives = record { words = s.output.words; tags = s.output.tags ∙ sym s.input.tags };
    },
    tt,
  );
  slots = λ w base t s v l. absurd (omega arith);
}

pub run_serves : (tree : Tree) (own node : ℕ) → (own ≡ node) × IsRunNode tree node → IsTypedShape tree node (run_shape own)
run_serves tree own node s = subst (λ k. IsTypedShape tree node (run_shape k)) (sym s.0) (run_typed tree node s.1)
