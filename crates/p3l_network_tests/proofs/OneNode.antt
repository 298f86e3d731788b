-- The net of the tree of one node fits it.
use Rattle.std.proofs.Common.{◌≡◌, ℕ, ◌<◌, length, sym, subst, arith}
use Rattle.p3l_skel.specs.declared.tree.Form.TheVariants.{Seq}
use Rattle.p3l_skel.specs.declared.tree.Tree.{Tree}
use Rattle.p3l_skel.specs.Lawful.{IsLawfulTree}
use Rattle.p3l_skel.specs.Tree.{node_at}
use Rattle.p3l_firing.specs.declared.net.Net.{Net}
use Rattle.p3l_firing.specs.Single.{unit_net}
use Rattle.p3l_firing.specs.Typed.{IsTyped}
use Rattle.p3l_sketch.specs.OneNode.{one_node}
use Rattle.p3l_sketch.proofs.OneNode.{node_is_seq, node_there}

pub typed_there : (tree : Tree) (net : Net) → ((tree : Tree) (cap : ℕ) → 0 < cap → IsLawfulTree tree → 0 < length tree.nodes → (node_at tree 0).form ≡ Seq → IsTyped tree (unit_net cap)) →
    IsLawfulTree tree → tree ≡ one_node → net ≡ unit_net 4 → IsTyped tree net
typed_there tree net law lawful is same =
    subst (λ n. IsTyped tree n) (sym same) (law tree 4 (omega arith) lawful (node_there tree is) (node_is_seq tree is))
