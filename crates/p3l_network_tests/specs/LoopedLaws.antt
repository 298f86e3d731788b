-- The body and the condition of the loop give as many words as their nodes have outs.
use Rattle.std.proofs.Common.{◌≡◌, ℕ, ℤ, zero, suc, ◌<◌, List, length, refl, arith}
use Rattle.p3l_skel.specs.declared.tree.Form.TheVariants.{Seq}
use Rattle.p3l_skel.specs.Tree.{GivesOuts, HasLength, node_at}
use Rattle.p3l_network_tests.specs.Looped.{counting_loop, counts_down}

pub counts_give : GivesOuts counting_loop counts_down
unfolding counting_loop
counts_give = at_node
  where
    at_node : (node : ℕ) (words : List ℤ) → node < 3 → (node_at counting_loop node).form ≡ Seq
        → length words ≡ (node_at counting_loop node).ins
        → HasLength (node_at counting_loop node).outs (counts_down (node_at counting_loop node).module words)
    at_node zero words low form long = cc
    at_node (suc zero) words low form long = refl
    at_node (suc (suc zero)) words low form long = refl
    at_node (suc (suc (suc node))) words low form long = absurd (omega (arith, low))
