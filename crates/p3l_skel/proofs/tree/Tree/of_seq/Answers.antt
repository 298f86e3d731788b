use Rattle.std.proofs.Common.{◌≡◌, ℕ, None, List, [], ◌∷◌, ◌++◌}
use Rattle.p3l_skel.specs.declared.tree.Form.TheVariants.{Seq}
use Rattle.p3l_skel.specs.declared.tree.ModuleKind.TheVariants as kind
use Rattle.p3l_skel.specs.declared.tree.ModuleInfo.{ModuleInfo}
use Rattle.p3l_skel.specs.declared.tree.Node.{Node}
use Rattle.p3l_skel.specs.declared.tree.Tree.{Tree}
use Rattle.p3l_skel.specs.Tree.{seq_tree}
use Rattle.p3l_skel.proofs.tree.Tree.of_seq.Goals as goal

-- the tree is its one node and its one module
tree_is : (none nodes : List Node) (parts : List ℕ) (empty modules : List ModuleInfo) (name : List ℕ) (ins outs : ℕ) →
    none ≡ [] → parts ≡ [] → nodes ≡ none ++ record { form = Seq; «module» = 0; ins = ins; outs = outs; parts = parts } ∷ [] →
    empty ≡ [] → modules ≡ empty ++ record { name = name; kind = kind.Seq; rescue = None } ∷ [] →
    let tree : Tree = record { nodes = nodes; modules = modules } in tree ≡ seq_tree name ins outs
unfolding seq_tree
tree_is none nodes parts empty modules name ins outs a b c d e = cc

pub returns : goal.returns
returns c =
    tree_is _ _ _ _ _ _ _ _ c.new-nodes.ensures c.new.ensures c.in_ok-push.ensures.ok c.new-modules.ensures c.in_ok-push-2.ensures.ok
