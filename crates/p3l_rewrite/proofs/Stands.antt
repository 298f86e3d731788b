-- The places of the instances of modules in a tree.
use Rattle.std.proofs.Common.{◌≡◌, ℕ, zero, suc, ◌+◌, ◌<◌, true, false, refl, List, [], ◌∷◌, ◌++◌, length, slice_index_or, sym, ap, ◌∙◌, subst, append_assoc, length-append}
use Rattle.std.proofs.Math.Seq.{get_or-append_seam}
use Rattle.std.proofs.lemmas.List.{append-nil}
use Rattle.p3l_skel.specs.declared.tree.ModuleInfo.{ModuleInfo}
use Rattle.p3l_skel.specs.declared.tree.Node.{Node}
use Rattle.p3l_skel.specs.declared.tree.Tree.{Tree}
use Rattle.p3l_skel.specs.Tree.{no_node, node_at, nesting}
use Rattle.p3l_check.specs.declared.callables.Callable.{Callable}
use Rattle.p3l_check.specs.Wiring.{module_at}
use Rattle.p3l_check.specs.Unfolding.{instances_of, first_node, instance, tree_of}
use Rattle.p3l_check.specs.Refusing.{is_nested_within}
use Rattle.p3l_check.proofs.Instances.{instance-step}
use Rattle.p3l_check.proofs.Nested.{nested-none}

pub no_levels : (callables : List Callable) (k : ℕ) → is_nested_within callables zero k ≡ true → ⊥
no_levels callables k nested = let e : false ≡ true = sym (nested-none callables k) ∙ nested in cc

-- these nodes stand in a tree from the number `at` on
pub record Stand (tree : Tree) (at : ℕ) (nodes : List Node) : Type 0 where
  before : List Node
  after : List Node
  nodes_are : tree.nodes ≡ before ++ (nodes ++ after)
  at_is : length before ≡ at

stand_first : (tree : Tree) (at : ℕ) (n : Node) (ns : List Node) → Stand tree at (n ∷ ns) → node_at tree at ≡ n
stand_first tree at n ns s =
    subst (λ k. slice_index_or tree.nodes k no_node ≡ n) s.at_is (ap (λ ms. slice_index_or ms (length s.before) no_node) s.nodes_are ∙ get_or-append_seam s.before n (ns ++ s.after) no_node)

stand_rest : (tree : Tree) (at : ℕ) (n : Node) (ns : List Node) → Stand tree at (n ∷ ns) → Stand tree (at + 1) ns
stand_rest tree at n ns s = record {
  before = s.before ++ n ∷ [];
  after = s.after;
  nodes_are = s.nodes_are ∙ sym (append_assoc s.before (n ∷ []) (ns ++ s.after));
  at_is = length-append s.before (n ∷ []) ∙ ap (λ k. k + 1) s.at_is;
}

pub stand_left : (tree : Tree) (at : ℕ) (xs ys : List Node) → Stand tree at (xs ++ ys) → Stand tree at xs
stand_left tree at xs ys s = record {
  before = s.before;
  after = ys ++ s.after;
  nodes_are = s.nodes_are ∙ ap (λ r. s.before ++ r) (append_assoc xs ys s.after);
  at_is = s.at_is;
}

pub stand_right : (tree : Tree) (at : ℕ) (xs ys : List Node) → Stand tree at (xs ++ ys) → Stand tree (at + length xs) ys
stand_right tree at xs ys s = record {
  before = s.before ++ xs;
  after = s.after;
  nodes_are = s.nodes_are ∙ (ap (λ r. s.before ++ r) (append_assoc xs ys s.after) ∙ sym (append_assoc s.before xs (ys ++ s.after)));
  at_is = length-append s.before xs ∙ ap (λ k. k + length xs) s.at_is;
}

-- the instance of a module that is nested no deeper than d stands in a tree
pub record Stands (tree : Tree) (callables : List Callable) (d k at : ℕ) : Type 0 where
  pub inside : k < length callables
  pub nested : is_nested_within callables d k ≡ true
  pub stand : Stand tree at (instance callables d k at)

-- the instance of the root is the whole tree
pub whole_stands : (infos : List ModuleInfo) (callables : List Callable) (root : ℕ) → root < length callables → is_nested_within callables nesting root ≡ true → Stands (tree_of infos callables root) callables nesting root 0
whole_stands infos callables root inside nested = record {
  inside = inside;
  nested = nested;
  stand = record { before = []; after = []; nodes_are = sym (append-nil (instance callables nesting root 0)); at_is = refl };
}

module _ (tree : Tree) (callables : List Callable) (d k at : ℕ) (s : Stands tree callables (suc d) k at) where
  opened : Stand tree at (first_node callables (instance callables d) k at ∷ instances_of (instance callables d) (module_at callables k).calls (at + 1))
  opened = subst (Stand tree at) (instance-step callables d k at) s.stand

  pub node_is : node_at tree at ≡ first_node callables (instance callables d) k at
  node_is = stand_first tree at _ _ opened

  pub below_stand : Stand tree (at + 1) (instances_of (instance callables d) (module_at callables k).calls (at + 1))
  below_stand = stand_rest tree at _ _ opened
