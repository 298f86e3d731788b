-- The keys that are needed are of nodes outside units.
use Rattle.std.proofs.Common.{◌≡◌, ℕ, zero, suc, ◌==◌, ◌<◌, ◌≤◌, true, List, [], ◌∷◌, take, Some, get_or, length, refl, sym, ap, ◌∙◌, subst, arith}
use Rattle.std.specs.Prelude.{slice_index}
use Rattle.std.specs.List.{All, Any, Contains, flat_map}
use Rattle.std.proofs.lemmas.Bool.{lt-ltb, eq-eqb}
use Rattle.std.proofs.lemmas.List.Folds.{list_any-from_Any}
use Rattle.p3l_skel.specs.declared.tree.Form.{Form}
use Rattle.p3l_skel.specs.declared.tree.Form.TheVariants.{Seq, Comp, Pipe, Farm, Map, Reduce}
use Rattle.p3l_skel.specs.declared.tree.Form.TheVariants as form
use Rattle.p3l_skel.specs.declared.tree.Tree.{Tree}
use Rattle.p3l_skel.specs.Tree.{node_at}
use Rattle.p3l_skel.specs.Counts.{outside, outside_from, outside_parts}
use Rattle.p3l_skel.specs.Lawful.{IsLawfulTree}
use Rattle.p3l_skel.proofs.Below.{outside_from-zero, outside_from-suc}
use Rattle.p3l_skel.proofs.Subtrees.{IsSubtree-zero, IsSubtree-step}
use Rattle.p3l_cost.specs.declared.costs.Costs.{Costs}
use Rattle.p3l_cost.specs.Costs.{AreCostsOf}
use Rattle.p3l_model.specs.declared.cost.NodeCost.{NodeCost}
use Rattle.p3l_model.specs.declared.cost.NodeCost.TheVariants.{Stages}
use Rattle.p3l_model.specs.NodeCost.{node_cost, node_cost_row}
use Rattle.p3l_model.proofs.Members.{Contains-head, Contains-tail, Contains-flat_map}
use Rattle.p3l_cert.specs.declared.cert.Key.{Key}
use Rattle.p3l_cert.specs.Keys.{depends_on, keys_from}
use Rattle.p3l_cert.specs.Rule.{key, cost_at}
use Rattle.p3l_cert.proofs.Needs.{IsDeep, by_cost, depends_all, depends_deep, cons_all, none_all, flat_all}
use Rattle.p3l_cert.proofs.Nodes.{NeedsFirst, cost_is, first_some}

-- numbers outside units below a node, down to a depth, are outside units
abbrev Outer : Tree → ℕ → ℕ → Type 0
Outer tree d node = (x : ℕ) → Contains (outside_from tree d node) x → Contains (outside tree) x

stage_form : (tree : Tree) (costs : Costs) (k : ℕ) (f : Form) (parts : List ℕ) → Stages ≡ node_cost_row tree costs k f → outside_parts f parts ≡ parts
stage_form tree costs k Seq parts e = absurd cc
stage_form tree costs k Comp parts e = absurd cc
stage_form tree costs k Pipe parts e = refl
stage_form tree costs k (Farm w) parts e = absurd cc
stage_form tree costs k (Map w cut) parts e = absurd cc
stage_form tree costs k (Reduce w len elem) parts e = absurd cc
stage_form tree costs k (form.Loop turns tokens) parts e = absurd cc

first_form : (tree : Tree) (costs : Costs) (k : ℕ) (f : Form) (parts : List ℕ) → NeedsFirst (node_cost_row tree costs k f) → outside_parts f parts ≡ take 1 parts
first_form tree costs k Seq parts need = absurd need
first_form tree costs k Comp parts need = absurd need
first_form tree costs k Pipe parts need = absurd need
first_form tree costs k (Farm w) parts need = refl
first_form tree costs k (Map w cut) parts need = refl
first_form tree costs k (Reduce w len elem) parts need = absurd need
first_form tree costs k (form.Loop turns tokens) parts need = refl

first_taken : (parts : List ℕ) → 1 ≤ length parts → (0 < length (take 1 parts)) × (get_or (take 1 parts) 0 0 ≡ slice_index parts 0)
first_taken [] some = absurd (omega arith)
first_taken (p ∷ ps) some = (omega arith, refl)

outer_part : (tree : Tree) (d node i x : ℕ) → Outer tree (suc d) node → i < length (outside_parts (node_at tree node).form (node_at tree node).parts) → Outer tree d (get_or (outside_parts (node_at tree node).form (node_at tree node).parts) i x)
outer_part tree d node i x outer inside y h =
    let parts = outside_parts (node_at tree node).form (node_at tree node).parts in
    outer y (subst (λ ks. Contains ks y) (sym (outside_from-suc tree d node)) (Contains-tail node (flat_map (outside_from tree d) parts) y (Contains-flat_map (outside_from tree d) parts i x y inside h)))

itself : (tree : Tree) (d node : ℕ) → Contains (outside_from tree d node) node
itself tree zero node = subst (λ ks. Contains ks node) (sym (outside_from-zero tree node)) (Contains-head node [])
itself tree (suc d) node = subst (λ ks. Contains ks node) (sym (outside_from-suc tree d node)) (Contains-head node (flat_map (outside_from tree d) (outside_parts (node_at tree node).form (node_at tree node).parts)))

deep_inside : (tree : Tree) (d node : ℕ) → IsDeep tree d node → node < length tree.nodes
deep_inside tree zero node deep = absurd (IsSubtree-zero tree node deep.0 deep.1)
deep_inside tree (suc d) node deep = ((IsSubtree-step (suc d) tree node deep.0 (omega arith)).0 deep.1).0

-- a key whose node has a cost of its own
abbrev pub IsCosted : Tree → Costs → Key → Type 0
IsCosted tree costs k = (c : NodeCost) × (cost_at tree costs k.node ≡ Some c)

cost_there : (tree : Tree) (costs : Costs) (k : Key) → k.node < length tree.nodes → Contains (outside tree) k.node → IsCosted tree costs k
unfolding cost_at
cost_there tree costs k inside has =
    let any : Any (λ x. (x == k.node) ≡ true) (outside tree) = (has.0, k.node, has.1, has.2, eq-eqb k.node k.node refl) in
    (node_cost tree costs k.node, rw (lt-ltb k.node (length tree.nodes) inside, list_any-from_Any (λ x. x == k.node) (outside tree) any) refl)

module _ (tree : Tree) (costs : Costs) (lawful : IsLawfulTree tree) (priced : AreCostsOf tree costs) where
  depends_outer : (d : ℕ) (k : Key) → Outer tree (suc d) k.node → All (λ (j : Key). Outer tree d j.node) (depends_on tree costs k)
  unfolding depends_on node_cost
  depends_outer d k outer =
      let f = (node_at tree k.node).form in
      let parts = (node_at tree k.node).parts in
      by_cost tree costs (λ (j : Key). Outer tree d j.node) k (cost_at tree costs k.node) refl
      (λ c at.
      let is = cost_is tree costs k.node c at in
      let first : NeedsFirst c → Outer tree d (slice_index parts 0) = λ need.
      let needs : NeedsFirst (node_cost_row tree costs k.node f) = subst NeedsFirst is.1 need in
      let taken = first_form tree costs k.node f parts needs in
      let front = first_taken parts (first_some tree costs lawful priced k.node is.0 needs) in
      let inside : 0 < length (outside_parts f parts) = subst (λ ps. 0 < length ps) (sym taken) front.0 in
      subst (Outer tree d) (ap (λ ps. get_or ps 0 0) taken ∙ front.1) (outer_part tree d k.node 0 0 outer inside) in
      depends_all (λ (j : Key). Outer tree d j.node) c parts k.bound k.cap
      (λ i x inside same.
      let all = stage_form tree costs k.node f parts (sym same ∙ is.1) in
      subst (λ ps. Outer tree d (get_or ps i x)) all (outer_part tree d k.node i x outer (subst (λ ps. i < length ps) (sym all) inside)))
      (λ r h e n same early from to. first (subst NeedsFirst (sym same) tt))
      (λ turns e same early room. first (subst NeedsFirst (sym same) tt)))

  keys_costed : (d : ℕ) (k : Key) → IsDeep tree d k.node → Outer tree d k.node → All (IsCosted tree costs) (keys_from tree costs d k)
  unfolding keys_from
  keys_costed zero k deep outer = none_all (IsCosted tree costs)
  keys_costed (suc d) k deep outer =
      let depends = depends_on tree costs k in
      let below = depends_deep tree costs lawful priced d k deep in
      let out = depends_outer d k outer in
      cons_all (IsCosted tree costs) k (flat_map (keys_from tree costs d) depends)
      (cost_there tree costs k (deep_inside tree (suc d) k.node deep) (outer k.node (itself tree (suc d) k.node)))
      (flat_all (keys_from tree costs d) (IsCosted tree costs) depends (λ i e inside. keys_costed d (get_or depends i e) (below i e inside) (out i e inside)))

  pub root_deep : IsDeep tree 6 0
  root_deep = (length tree.nodes, lawful.preorder)

  pub root_costed_keys : (bound cap : ℕ) → All (IsCosted tree costs) (keys_from tree costs 6 (key 0 bound cap))
  root_costed_keys bound cap = keys_costed 6 (key 0 bound cap) root_deep (λ x h. h)
