-- The body of the tree of one node gives as many words as the node has outs.
use Rattle.std.proofs.Common.{◌≡◌, ℕ, ℤ, zero, suc, ◌<◌, List, length, arith}
use Rattle.p3l_skel.specs.declared.tree.Form.TheVariants.{Seq}
use Rattle.p3l_skel.specs.Tree.{GivesOuts, HasLength, node_at}
use Rattle.p3l_sketch.specs.OneNode.{one_node, given_back}

-- one word for one word
pub gives_back : GivesOuts one_node given_back
unfolding one_node
gives_back = at_node
  where
    at_node : (node : ℕ) (words : List ℤ) → node < 1 → (node_at one_node node).form ≡ Seq
        → length words ≡ (node_at one_node node).ins
        → HasLength (node_at one_node node).outs (given_back (node_at one_node node).module words)
    at_node zero words low form one = one
    at_node (suc node) words low form one = absurd (omega arith)
