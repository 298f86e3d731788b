-- The widths of a loop's channels.
use Rattle.std.proofs.Common.{◌≡◌, ℕ, ◌+◌, ◌≤◌, refl, inl, inr, arith}
use Rattle.p3l_skel.specs.declared.tree.Tree.{Tree}
use Rattle.p3l_template.specs.Tagged.{IsTagged}
use Rattle.p3l_loop.specs.LoopKind.{loop_kind}

pub loop_tagged : (node tokens : ℕ) (tree : Tree) (k : ℕ) → IsTagged (loop_kind node tokens).deeper ((loop_kind node tokens).widths tree k)
loop_tagged node tokens tree k = record {
  shallow = omega arith;
  near = λ t. ((inr (omega arith), omega arith), ((inr (omega arith), omega arith), ((inr (omega arith), omega arith), ((inl refl, omega arith), tt))));
}
