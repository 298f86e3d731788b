-- The widths of a reduce's channels.
use Rattle.std.proofs.Common.{ℕ, zero, suc, ◌+◌, ◌-◌, ◌^◌, ◌≤◌, map, replicate, inr, arith}
use Rattle.std.specs.List.{AllByRecursion}
use Rattle.p3l_skel.specs.declared.tree.Tree.{Tree}
use Rattle.p3l_firing.specs.Segments.{segment_lengths}
use Rattle.p3l_template.specs.Tagged.{IsNear, IsTagged}
use Rattle.p3l_template.specs.Width.{outs_width}
use Rattle.p3l_template.specs.declared.width.Width.{Width}
use Rattle.p3l_template.specs.laws.Widths.{near_append, near_map, near_same}
use Rattle.p3l_reduce.specs.ReduceKind.{reduce_kind, reduce_widths, segment_width}

reduce_near : (elem len t : ℕ) (a : Width) (level : ℕ) → IsNear t a → AllByRecursion (IsNear t) (reduce_widths elem len t a level)
unfolding reduce_widths
reduce_near elem len t a zero near = tt
reduce_near elem len t a (suc d) near =
    near_append t (map (segment_width elem t) (segment_lengths (suc d) len)) (replicate (2 ^ suc d + 2 ^ suc d - 2) a)
    (near_map t (segment_width elem t) (λ l. (inr (omega arith), omega arith)) (segment_lengths (suc d) len))
    (near_same t (2 ^ suc d + 2 ^ suc d - 2) a near)

pub reduce_tagged : (node len level : ℕ) (tree : Tree) (k : ℕ) →
    IsTagged (reduce_kind node len level).deeper ((reduce_kind node len level).widths tree k)
reduce_tagged node len level tree k = record {
  shallow = omega arith;
  near = λ t. reduce_near _ len t (outs_width tree k t) level (inr (omega arith), omega arith);
}
