-- The root of a module's tree does what the module means.
use Rattle.std.proofs.Common.{◌≡◌, ℕ, ℤ, zero, suc, ◌+◌, ◌<◌, ◌≤◌, true, List, [], ◌∷◌, length, refl, ap, sym, ◌∙◌, arith}
use Rattle.std.specs.List.{AllByRecursion}
use Rattle.p3l_base.specs.declared.outcome.Outcome.{Outcome}
use Rattle.p3l_skel.specs.declared.tree.ModuleInfo.{ModuleInfo}
use Rattle.p3l_skel.specs.declared.tree.Node.{Node}
use Rattle.p3l_skel.specs.declared.tree.Tree.{Tree}
use Rattle.p3l_skel.specs.Tree.{nesting, rescue_of}
use Rattle.p3l_skel.specs.Item.{rescued, item_row, item_to}
use Rattle.p3l_skel.proofs.Depth.{item_to-step}
use Rattle.p3l_check.specs.declared.callables.Callable.{Callable}
use Rattle.p3l_check.specs.Wiring.{module_at, IsWiring, IsCallableModule}
use Rattle.p3l_check.specs.Unfolding.{instances_of, firsts_of, instance, tree_of}
use Rattle.p3l_check.specs.Refusing.{is_nested_within}
use Rattle.p3l_rewrite.specs.Meant.{rescue_at, rescued_by, meant_to, meant}
use Rattle.p3l_rewrite.proofs.Stands.{Stand, Stands, no_levels, whole_stands, node_is, below_stand, stand_left, stand_right}
use Rattle.p3l_rewrite.proofs.Rows.{AllMean, rows-mean}
use Rattle.p3l_rewrite.proofs.Depth.{meant-step, enough, Fits, calls_fit}

module _ (infos : List ModuleInfo) (callables : List Callable) (wiring : IsWiring infos callables) (tree : Tree) (modules_are : tree.modules ≡ infos) (leaf : ℕ → List ℤ → Outcome) where
  -- the parts of a node do what the calls of its module do
  parts_mean : (d e : ℕ) → ((k at : ℕ) → Stands tree callables d k at → item_to tree leaf e at ≡ meant_to infos callables leaf d k) → (cs : List ℕ) (at : ℕ) → AllByRecursion (Fits infos callables wiring d) cs
      → Stand tree at (instances_of (instance callables d) cs at) → AllMean (item_to tree leaf e) (meant_to infos callables leaf d) (firsts_of (instance callables d) cs at) cs
  unfolding AllMean Fits
  parts_mean d e one [] at fit s = tt
  parts_mean d e one (c ∷ cs) at fit s = (
    one c at (record { inside = fit.0.0; nested = fit.0.1; stand = stand_left tree at (instance callables d c at) _ s }),
    parts_mean d e one cs (at + length (instance callables d c at)) fit.1 (stand_right tree at (instance callables d c at) _ s),
  )

  -- a node that stands for a module does what the module means
  pub node_means : (d e k at : ℕ) → d ≤ e → Stands tree callables d k at → item_to tree leaf e at ≡ meant_to infos callables leaf d k
  node_means zero e k at le s = absurd (no_levels callables k s.nested)
  node_means (suc d) zero k at le s = absurd (omega (arith, le))
  node_means (suc d) (suc e) k at le s =
      let m : IsCallableModule infos callables k (module_at callables k) = wiring.each k s.inside in
      let calls = (module_at callables k).calls in
      let parts = firsts_of (instance callables d) calls (at + 1) in
      item_to-step tree leaf e at
      ∙ ap (λ (n : Node). item_row (rescued (rescue_of tree n.module) n.outs) leaf n.module n.form n.parts (item_to tree leaf e)) (node_is tree callables d k at s)
      ∙ ap (λ ms. item_row (rescued (rescue_at ms k) (module_at callables k).outs) leaf k (module_at callables k).form parts (item_to tree leaf e)) modules_are
      ∙ rows-mean callables (rescued_by infos callables k) (rescued_by infos callables k) leaf leaf k (item_to tree leaf e) (meant_to infos callables leaf d) refl refl
      (module_at callables k).form (module_at callables k).ins (module_at callables k).outs parts calls m.form
      (parts_mean d e (λ c p. node_means d e c p (omega (arith, le))) calls (at + 1) (calls_fit infos callables wiring d k s.inside s.nested) (below_stand tree callables d k at s))
      ∙ sym (meant-step infos callables leaf d k)

pub root_means : (infos : List ModuleInfo) (callables : List Callable) (leaf : ℕ → List ℤ → Outcome) (root : ℕ) → IsWiring infos callables → root < length callables → is_nested_within callables nesting root ≡ true
    → item_to (tree_of infos callables root) leaf nesting 0 ≡ meant infos callables leaf root
root_means infos callables leaf root wiring inside nested =
    node_means infos callables wiring (tree_of infos callables root) refl leaf nesting nesting root 0 (omega arith) (whole_stands infos callables root inside nested)
    ∙ enough infos callables wiring leaf nesting root inside nested
