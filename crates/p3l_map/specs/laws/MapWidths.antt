-- The widths of a map's channels.
use Rattle.std.proofs.Common.{ℕ, ◌+◌, ◌≤◌, inr, arith}
use Rattle.p3l_skel.specs.declared.tree.Tree.{Tree}
use Rattle.p3l_skel.specs.Tree.{part_at}
use Rattle.p3l_template.specs.Tagged.{IsTagged}
use Rattle.p3l_template.specs.Width.{ins_width, outs_width}
use Rattle.p3l_template.specs.laws.Widths.{workers_near}
use Rattle.p3l_map.specs.MapKind.{map_kind}

pub map_tagged : (node n : ℕ) (tree : Tree) (k : ℕ) → IsTagged (map_kind node n).deeper ((map_kind node n).widths tree k)
map_tagged node n tree k = record {
  shallow = omega arith;
  near = λ t. workers_near t n (ins_width tree (part_at tree k 0) t) (outs_width tree (part_at tree k 0) t) (inr (omega arith), omega arith)
      (inr (omega arith), omega arith);
}
