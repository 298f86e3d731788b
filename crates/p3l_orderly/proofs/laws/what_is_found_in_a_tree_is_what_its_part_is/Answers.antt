use Rattle.std.proofs.Common.{sym, ◌∙◌}
use Rattle.p3l_skel.specs.Counts.{count_of}
use Rattle.p3l_skel.specs.Tree.{nesting}
use Rattle.p3l_link.specs.Net.{root_base}
use Rattle.p3l_link.specs.Part.{root_part}
use Rattle.p3l_orderly.proofs.WalkLaw.{node_is_found}
use Rattle.p3l_orderly.proofs.laws.what_is_found_in_a_tree_is_what_its_part_is.Goals as goal

pub returns-clause-root : goal.returns-clause-root
unfolding root_part
returns-clause-root c = λ units counts cap s. node_is_found s units (count_of units.tree counts) cap nesting 0 root_base

pub returns-clause-leaf : goal.returns-clause-leaf
unfolding root_part
returns-clause-leaf c = λ tree one other counts s.
    node_is_found s (record { tree = tree; leaf = one }) (count_of tree counts) 1 nesting 0 root_base
    ∙ sym (node_is_found s (record { tree = tree; leaf = other }) (count_of tree counts) 1 nesting 0 root_base)
