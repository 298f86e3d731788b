-- The root is outside units.
use Rattle.std.proofs.Common.{refl, arith}
use Rattle.std.specs.List.{Contains}
use Rattle.p3l_skel.specs.declared.tree.Tree.{Tree}
use Rattle.p3l_skel.specs.Tree.{by_parts}
use Rattle.p3l_skel.specs.Counts.{outside, outside_from}

pub root_outside : (tree : Tree) → Contains (outside tree) 0
unfolding outside_from by_parts
root_outside tree = (0, omega arith, refl)
