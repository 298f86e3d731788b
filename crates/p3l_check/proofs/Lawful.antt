-- The tree of a module whose nesting, instances and work are within the limits is lawful.
use Rattle.std.proofs.Common.{◌≡◌, ℕ, ◌+◌, ◌<◌, ◌≤◌, true, List, [], ◌++◌, length, refl, ap, sym, ◌∙◌, subst, arith}
use Rattle.std.proofs.lemmas.List.Elements.{All-from_recursion, All-weaker}
use Rattle.std.specs.List.{All}
use Rattle.p3l_skel.specs.declared.tree.ModuleInfo.{ModuleInfo}
use Rattle.p3l_skel.specs.declared.tree.Node.{Node}
use Rattle.p3l_skel.specs.Tree.{nesting}
use Rattle.p3l_skel.specs.Lawful.{IsSubtree, IsLawfulNode, AgreesWith, IsLawfulTree}
use Rattle.p3l_skel.specs.Work.{IsLight}
use Rattle.p3l_check.specs.declared.callables.Callable.{Callable}
use Rattle.p3l_check.specs.Wiring.{module_at, IsWiring}
use Rattle.p3l_check.specs.Unfolding.{instance, tree_of}
use Rattle.p3l_check.specs.Refusing.{is_nested_within}
use Rattle.p3l_check.proofs.Placed.{IsOf, IsSoundNode, whole_stands, is_subtree, sound_nodes}

-- nodes that are what their modules say agree where they have one module
agree : (callables : List Callable) (a b : Node) → IsOf callables a → IsOf callables b → a.module ≡ b.module → AgreesWith a b
agree callables a b is_a is_b same = record {
  form = is_a.form ∙ (ap (λ m. (module_at callables m).form) same ∙ sym is_b.form);
  ins = is_a.ins ∙ (ap (λ m. (module_at callables m).ins) same ∙ sym is_b.ins);
  outs = is_a.outs ∙ (ap (λ m. (module_at callables m).outs) same ∙ sym is_b.outs);
}

pub lawful_unfolded : (infos : List ModuleInfo) (callables : List Callable) (root : ℕ) → IsWiring infos callables → root < length callables → is_nested_within callables nesting root ≡ true
    → length (instance callables nesting root 0) ≤ 128 → IsLight (tree_of infos callables root) → IsLawfulTree (tree_of infos callables root)
lawful_unfolded infos callables root wiring inside nested few light =
    let tree = tree_of infos callables root in
    let stands = whole_stands infos callables root inside nested in
    let sound : All (IsSoundNode tree callables) tree.nodes = All-from_recursion (IsSoundNode tree callables) tree.nodes (sound_nodes infos callables wiring tree refl nesting root 0 (omega arith) stands) in
    record {
      few_modules = wiring.few;
      rescues = wiring.rescues;
      few_nodes = few;
      preorder = let e : 0 + length tree.nodes ≡ length tree.nodes = omega arith in subst (IsSubtree nesting tree 0) e (is_subtree infos callables wiring tree refl nesting root 0 stands);
      nodes = All-weaker (IsSoundNode tree callables) (IsLawfulNode tree) (λ n h. h.lawful) tree.nodes sound;
      agree = λ i d i_in j e j_in same. agree callables _ _ (sound i d i_in).is_of (sound j e j_in).is_of same;
      light = light;
    }
