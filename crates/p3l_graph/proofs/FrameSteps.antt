-- Frames, a level at a time.
use Rattle.std.proofs.Common.{◌≡◌, ℕ, zero, suc, ◌-◌, ◌<◌, [], refl, arith}
use Rattle.std.specs.Prelude.{slice_get}
use Rattle.p3l_skel.specs.declared.tree.Tree.{Tree}
use Rattle.p3l_skel.specs.Tree.{by_parts}
use Rattle.p3l_firing.specs.declared.net.Net.{Net}
use Rattle.p3l_graph.specs.Frames.{frame_row, frame_to}

pub frame_to-zero : (tree : Tree) (net : Net) (k : ℕ) → frame_to tree net 0 k ≡ []
unfolding frame_to by_parts
frame_to-zero tree net k = refl

frame_to-suc : (tree : Tree) (net : Net) (d k : ℕ) → frame_to tree net (suc d) k ≡ frame_row tree net (frame_to tree net d) k (slice_get tree.nodes k)
unfolding frame_to by_parts
frame_to-suc tree net d k = refl

-- a node is framed round the frames of its parts
pub frame_to-step : (tree : Tree) (net : Net) (d k : ℕ) → 0 < d → frame_to tree net d k ≡ frame_row tree net (frame_to tree net (d - 1)) k (slice_get tree.nodes k)
frame_to-step tree net zero k some = absurd (omega arith)
frame_to-step tree net (suc d) k some = let e : suc d - 1 ≡ d = omega arith in rw e (frame_to-suc tree net d k)
