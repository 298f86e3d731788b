-- The widths of a farm's channels.
use Rattle.std.proofs.Common.{ℕ, ◌+◌, ◌≤◌, inr, arith}
use Rattle.p3l_skel.specs.declared.tree.Tree.{Tree}
use Rattle.p3l_template.specs.Tagged.{IsTagged}
use Rattle.p3l_template.specs.Width.{ins_width, outs_width}
use Rattle.p3l_template.specs.laws.Widths.{workers_near}
use Rattle.p3l_farm.specs.FarmKind.{farm_kind}

pub farm_tagged : (node n : ℕ) (tree : Tree) (k : ℕ) → IsTagged (farm_kind node n).deeper ((farm_kind node n).widths tree k)
farm_tagged node n tree k = record {
  shallow = omega arith;
  near = λ t. workers_near t n (ins_width tree k (t + 1)) (outs_width tree k (t + 1)) (inr (omega arith), omega arith) (inr (omega arith), omega arith);
}
