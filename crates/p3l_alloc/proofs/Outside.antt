-- Nodes outside units, and the lines of those that are still to come.
use Rattle.std.proofs.Common.{◌≡◌, ℕ, zero, suc, ◌+◌, ◌-◌, ◌<◌, List, [], ◌++◌, drop, get_or, length, sym, ap, ◌∙◌, arith, append_assoc}
use Rattle.std.specs.List.{Contains, flat_map}
use Rattle.std.proofs.lemmas.List.{drop_more}
use Rattle.std.proofs.lemmas.List.Concat.{flat_map-append}
use Rattle.p3l_skel.specs.declared.tree.Tree.{Tree}
use Rattle.p3l_skel.specs.Counts.{outside, outside_from, outside_parts}
use Rattle.p3l_skel.specs.Lawful.{IsLawfulTree, IsSubtree}
use Rattle.p3l_skel.specs.Tree.{node_at}
use Rattle.p3l_skel.proofs.Below.{outside_from-step, outside_from-zero}
use Rattle.p3l_cost.specs.declared.costs.Costs.{Costs}
use Rattle.p3l_model.proofs.Members.{Contains-flat_map, Contains-head, Contains-tail}
use Rattle.p3l_model.proofs.Nested.{outside_roots}
use Rattle.p3l_alloc.specs.Explanation.{node_line, node_lines}

root_inside : (d : ℕ) (tree : Tree) (k next : ℕ) → IsSubtree d tree k next → k < length tree.nodes
unfolding IsSubtree
root_inside zero tree k next subtree = absurd subtree
root_inside (suc d) tree k next subtree = subtree.0

-- a node outside units is there
pub outside_inside : (tree : Tree) (k : ℕ) → IsLawfulTree tree → Contains (outside tree) k → k < length tree.nodes
outside_inside tree k lawful there =
    let root = outside_roots 6 6 tree 0 (length tree.nodes) k (omega arith) lawful.preorder lawful.few_nodes there in
    root_inside 6 tree k root.0 root.1

-- a node is the first of those from it on
pub first_outside : (tree : Tree) (d k : ℕ) → Contains (outside_from tree d k) k
first_outside tree zero k = rw outside_from-zero (Contains-head k [])
first_outside tree (suc d) k = rw (outside_from-step tree (suc d) k (omega arith)) (Contains-head k _)

-- those below a part are below the node
pub part_outside : (tree : Tree) (d k i node : ℕ) (parts : List ℕ) → 0 < d → parts ≡ outside_parts (node_at tree k).form (node_at tree k).parts → i < length parts →
    Contains (outside_from tree (d - 1) (get_or parts i 0)) node → Contains (outside_from tree d k) node
part_outside tree d k i node parts some are inside there =
    rw (outside_from-step tree d k some, ← are) (Contains-tail k (flat_map (outside_from tree (d - 1)) parts) node (Contains-flat_map (outside_from tree (d - 1)) parts i 0 node inside there))

module _ (tree : Tree) (costs : Costs) (counts : List ℕ) where
  -- the lines of these parts, and of what is outside units below them
  abbrev pub parts_lines : (below : ℕ → List ℕ) → List ℕ → List ℕ
  parts_lines below parts = node_lines tree costs counts (flat_map below parts)

  pub parts_lines-step : (below : ℕ → List ℕ) (parts : List ℕ) (i d : ℕ) (text : List ℕ) → i < length parts →
      (text ++ node_lines tree costs counts (below (get_or parts i d))) ++ parts_lines below (drop (i + 1) parts) ≡ text ++ parts_lines below (drop i parts)
  parts_lines-step below parts i d text inside =
      let p : ℕ = get_or parts i d in
      let rest : List ℕ = flat_map below (drop (i + 1) parts) in
      rw (drop_more parts i d inside)
      (append_assoc text (node_lines tree costs counts (below p)) (node_lines tree costs counts rest)
      ∙ ap (λ lines. text ++ lines) (sym (flat_map-append (node_line tree costs counts) (below p) rest)))
