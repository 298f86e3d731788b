-- The tree of one node: it is lawful and fires three times for an item, and what its bodies give.
use Rattle.std.proofs.Common.{◌≡◌, ℕ, ℤ, zero, suc, ◌<◌, List, [], ◌∷◌, ◌++◌, None, length, refl, arith}
use Rattle.std.specs.List.{All}
use Rattle.p3l_base.specs.declared.outcome.Outcome.TheVariants.{Value, Trapped}
use Rattle.p3l_base.specs.declared.outcome.TrapKind.TheVariants.{DivZero}
use Rattle.p3l_skel.specs.declared.tree.Form.TheVariants.{Seq}
use Rattle.p3l_skel.specs.declared.tree.ModuleKind.TheVariants as kind
use Rattle.p3l_skel.specs.declared.tree.Node.{Node}
use Rattle.p3l_skel.specs.declared.tree.ModuleInfo.{ModuleInfo}
use Rattle.p3l_skel.specs.declared.tree.Tree.{Tree}
use Rattle.p3l_skel.specs.Tree as Trees
use Rattle.p3l_skel.specs.Tree.{HasFittingLength, IsUnit, by_parts, node_at}
use Rattle.p3l_skel.specs.Item.{item, item_to}
use Rattle.p3l_skel.specs.Lawful.{AgreesWithAll, HasLawfulRescue, IsLawfulNode, IsLawfulTree, IsSubtree}
use Rattle.p3l_skel.specs.Numbers.{firings, firings_by, runs_to}
use Rattle.p3l_skel.specs.Work.{IsLight}
use Rattle.p3l_sketch.specs.OneNode.{one_node, given_back}
use Rattle.p3l_sketch.specs.Refusing.{refusing}

one_nodes : All (IsLawfulNode one_node) one_node.nodes
unfolding one_node
one_nodes zero d inside =
    record { kind = refl; ins = (omega arith, omega arith); outs = (omega arith, omega arith); workers = tt; form = refl }
one_nodes (suc i) d inside = absurd (omega (arith, inside))

one_agrees : All (AgreesWithAll one_node.nodes) one_node.nodes
unfolding one_node
one_agrees zero d inside zero e there same = record { form = refl; ins = refl; outs = refl }
one_agrees zero d inside (suc j) e there same = absurd (omega (arith, there))
one_agrees (suc i) d inside j e there same = absurd (omega (arith, inside))

one_subtree : IsSubtree 6 one_node 0 1
unfolding one_node IsSubtree
one_subtree = (omega arith, refl)

one_light : IsLight one_node
unfolding one_node firings_by runs_to by_parts
one_light = record { flat = omega arith; joined = omega arith; bodies = omega arith }

one_rescues : All HasLawfulRescue one_node.modules
unfolding one_node
one_rescues zero d inside = tt
one_rescues (suc i) d inside = absurd (omega (arith, inside))

pub one_lawful : IsLawfulTree one_node
unfolding one_node
one_lawful = record {
  few_modules = omega arith;
  rescues = one_rescues;
  few_nodes = omega arith;
  preorder = one_subtree;
  nodes = one_nodes;
  agree = one_agrees;
  light = one_light;
}

pub three_firings : firings one_node [] ≡ 3
unfolding one_node firings_by by_parts
three_firings = refl

-- the tree is its one node and its one module
pub tree_is : (nodes nodes' : List Node) (parts : List ℕ) (modules modules' : List ModuleInfo) (name : List ℕ) →
    nodes ≡ [] → parts ≡ [] → nodes' ≡ nodes ++ record { form = Seq; «module» = 0; ins = 1; outs = 1; parts = parts } ∷ [] →
    modules ≡ [] → name ≡ 109 ∷ 97 ∷ 105 ∷ 110 ∷ [] → modules' ≡ modules ++ record { name = name; kind = kind.Seq; rescue = None } ∷ [] →
    let tree : Tree = record { nodes = nodes'; modules = modules' } in tree ≡ one_node
unfolding one_node
tree_is nodes nodes' parts modules modules' name a b c d e f = cc

-- the node is there
pub node_there : (tree : Tree) → tree ≡ one_node → 0 < length tree.nodes
unfolding one_node
node_there tree is = rw is (omega arith)

-- and it is sequential
pub node_is_seq : (tree : Tree) → tree ≡ one_node → (node_at tree 0).form ≡ Seq
unfolding one_node
node_is_seq tree is = rw is refl

-- one word is what it takes
pub takes_one : (tree : Tree) → tree ≡ one_node → 1 ≡ (node_at tree 0).ins
unfolding one_node
takes_one tree is = rw is refl

pub word_fits : (tree : Tree) (words : List ℤ) → tree ≡ one_node → length words ≡ 1 → HasFittingLength tree 0 (length words)
unfolding one_node
word_fits tree words is one = rw is one

pub root_takes_one : (tree : Tree) (words : List ℤ) (word : ℤ) → tree ≡ one_node → words ≡ word ∷ [] → length words ≡ (node_at tree 0).ins
unfolding one_node
root_takes_one tree words word is one = rw (is, one) refl

-- the body gives back its words
pub value_is : (node : ℕ) (words copy : List ℤ) → IsUnit one_node node → copy ≡ words → Value copy ≡ item one_node given_back node words
unfolding one_node item_to Trees.by_parts
value_is (suc node) words copy unit same = absurd (omega (arith, unit.in_tree))
value_is zero words copy unit same = rw same refl

-- the body traps
pub refused_is : (node : ℕ) (words : List ℤ) → IsUnit one_node node → Trapped (record { kind = DivZero; «module» = 0 }) ≡ item one_node refusing node words
unfolding one_node item_to Trees.by_parts
refused_is (suc node) words unit = absurd (omega (arith, unit.in_tree))
refused_is zero words unit = refl
