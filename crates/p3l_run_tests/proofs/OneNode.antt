-- The network of the tree of one node is sound, whatever its body does.
use Rattle.std.proofs.Common.{◌≡◌, ℕ, ℤ, ◌<◌, List, [], length, sym, subst, refl, arith}
use Rattle.p3l_base.specs.declared.outcome.Outcome.{Outcome}
use Rattle.p3l_skel.specs.declared.tree.Form.TheVariants.{Seq}
use Rattle.p3l_skel.specs.declared.tree.Tree.{Tree}
use Rattle.p3l_skel.specs.Lawful.{IsLawfulTree}
use Rattle.p3l_skel.specs.Numbers.{firings}
use Rattle.p3l_skel.specs.Tree.{node_at}
use Rattle.p3l_firing.specs.declared.net.Net.{Net}
use Rattle.p3l_firing.specs.NetInvariants.{Invariants, HasInvariants}
use Rattle.p3l_firing.specs.Single.{unit_net}
use Rattle.p3l_firing.specs.Typed.{IsTyped}
use Rattle.p3l_run.specs.Network.{IsSound, network}
use Rattle.p3l_sketch.specs.OneNode.{one_node}
use Rattle.p3l_sketch.proofs.OneNode.{one_lawful, three_firings}

pub one_sound : (tree : Tree) (net : Net) (leaf : ℕ → List ℤ → Outcome) → ((tree : Tree) (cap : ℕ) → 0 < cap → IsLawfulTree tree → 0 < length tree.nodes → (node_at tree 0).form ≡ Seq → IsTyped tree (unit_net cap)) →
    ((tree : Tree) (leaf : ℕ → List ℤ → Outcome) (cap : ℕ) (counts : List ℕ) → 0 < cap → (node_at tree 0).form ≡ Seq → (invariants : Invariants) × HasInvariants tree leaf (unit_net cap) (firings tree counts) invariants) →
    tree ≡ one_node → net ≡ unit_net 4 → IsSound (network tree leaf net 3)
unfolding one_node
one_sound tree net leaf typed has_invariants is same =
    let unit = has_invariants one_node leaf 4 [] (omega arith) refl in
    let sound : IsSound (network one_node leaf (unit_net 4) 3) = record {
      typed = typed one_node 4 (omega arith) one_lawful (omega arith) refl;
      has_invariants = (unit.0, subst (λ n. HasInvariants one_node leaf (unit_net 4) n unit.0) three_firings unit.1);
      begins = tt;
    } in
    subst (λ t. IsSound (network t leaf net 3)) (sym is) (subst (λ k. IsSound (network one_node leaf k 3)) (sym same) sound)

pub one_typed : (tree : Tree) (net : Net) → ((tree : Tree) (cap : ℕ) → 0 < cap → IsLawfulTree tree → 0 < length tree.nodes → (node_at tree 0).form ≡ Seq → IsTyped tree (unit_net cap)) →
    tree ≡ one_node → net ≡ unit_net 4 → IsTyped tree net
unfolding one_node
one_typed tree net typed is same =
    let sound = typed one_node 4 (omega arith) one_lawful (omega arith) refl in
    subst (λ t. IsTyped t net) (sym is) (subst (λ k. IsTyped one_node k) (sym same) sound)
