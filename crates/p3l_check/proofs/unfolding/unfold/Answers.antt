use Rattle.std.proofs.Common.{◌≡◌, ◌≤◌, List, true, length, ap, sym, ◌∙◌, subst, arith}
use Rattle.p3l_skel.specs.declared.tree.Node.{Node}
use Rattle.p3l_skel.specs.declared.tree.Tree.{Tree}
use Rattle.p3l_skel.specs.Tree.{nesting}
use Rattle.p3l_skel.specs.Lawful.{IsLawfulTree}
use Rattle.p3l_skel.specs.Work.{IsLight}
use Rattle.p3l_check.specs.Unfolding.{instance, tree_of}
use Rattle.p3l_check.specs.Refusing.{is_nested_within}
use Rattle.p3l_check.proofs.Lawful.{lawful_unfolded}
use Rattle.p3l_check.proofs.unfolding.unfold.Goals as goal

pub returns-then-is_light-clause-tree : goal.returns-then-is_light-clause-tree
returns-then-is_light-clause-tree c =
    let callables = c.args.callables.now in
    let nodes_are : c.from_vec.result ≡ instance callables nesting c.args.root 0 = c.from_vec.ensures ∙ c.in_ok-nodes.ensures.nodes in
    let tree_is : (let t : Tree = record { nodes = c.from_vec.result; modules = c.args.infos } in t) ≡ tree_of c.args.infos callables c.args.root = ap (λ (ns : List Node). let t : Tree = record { nodes = ns; modules = c.args.infos } in t) nodes_are in
    let nested : is_nested_within callables nesting c.args.root ≡ true = sym c.in_ok-is_nested.ensures ∙ c.if-not-branch.false in
    let few : length (instance callables nesting c.args.root 0) ≤ 128 = subst (λ ns. length ns ≤ 128) c.in_ok-nodes.ensures.nodes (omega (arith, c.in_ok-nodes.ensures.few)) in
    let light : IsLight (tree_of c.args.infos callables c.args.root) = subst IsLight tree_is (c.is_light.ensures.0 c.if-is_light.true) in
    record {
      tree_is = tree_is;
      nested = nested;
      lawful = subst IsLawfulTree (sym tree_is) (lawful_unfolded c.args.infos callables c.args.root c.requires.wiring c.requires.root nested few light);
    }
