-- The nodes of a lawful tree: their costs, their parts, and what is said of them.
use Rattle.std.proofs.Common.{◌≡◌, ℕ, zero, suc, ◌+◌, ◌==◌, ◌&&◌, ◌<◌, ◌≤◌, Bool, true, false, cond, ltb, List, [], ◌∷◌, Option, Some, None, get_or, length, refl, sym, ap, ◌∙◌, subst, arith, inl, inr}
use Rattle.std.specs.Prelude.{slice_index, ⊤, IfSome, if◌then◌else◌}
use Rattle.std.specs.List.{Any, Contains, list_any}
use Rattle.std.proofs.lemmas.Bool.{cases_lt, eqb-true, ltb-true, le-ltb}
use Rattle.std.proofs.lemmas.List.{get_or_past}
use Rattle.std.proofs.lemmas.List.Folds.{Any-from_list_any}
use Rattle.p3l_skel.specs.declared.tree.Form.{Form}
use Rattle.p3l_skel.specs.declared.tree.Form.TheVariants.{Seq, Comp, Pipe, Farm, Map, Reduce}
use Rattle.p3l_skel.specs.declared.tree.Form.TheVariants as form
use Rattle.p3l_skel.specs.declared.tree.Tree.{Tree}
use Rattle.p3l_skel.specs.Tree.{node_at}
use Rattle.p3l_skel.specs.Counts.{outside, workers_of, IsCountInRange}
use Rattle.p3l_skel.specs.Lawful.{AreSubtrees, IsSubtree, IsLawfulForm, IsLawfulTree}
use Rattle.p3l_skel.proofs.Depth.{lawful_at, subtree_at}
use Rattle.p3l_skel.proofs.Subtrees.{IsSubtree-step}
use Rattle.p3l_cost.specs.declared.costs.Costs.{Costs}
use Rattle.p3l_cost.specs.Costs.{AreCostsOf}
use Rattle.p3l_model.specs.declared.cost.NodeCost.{NodeCost}
use Rattle.p3l_model.specs.declared.cost.NodeCost.TheVariants.{Unit, Stages, Workers, Segments, Loop}
use Rattle.p3l_model.specs.NodeCost.{node_cost, node_cost_row}
use Rattle.p3l_model.specs.Costed.{Costed, costed, costed_row, stages, HasProcess, IsSound}
use Rattle.p3l_model.proofs.Connect.{IsCostedAt, costed_at}
use Rattle.p3l_model.proofs.Deep.{costed-by_parts}
use Rattle.p3l_model.proofs.Nested.{subtree_end}
use Rattle.p3l_cert.specs.Rule.{cost_at}
use Rattle.p3l_cert.specs.Table.{IsTable}
use Rattle.p3l_cert.specs.Usable.{IsUsable}
use Rattle.p3l_cert.proofs.Lookup.{false_unless}

contains_from : (xs : List ℕ) (x : ℕ) → Any (λ k. (k == x) ≡ true) xs → Contains xs x
contains_from xs x any = (any.0, any.2, subst (λ y. get_or xs any.0 y ≡ y) (eqb-true any.1 x any.4) any.3)

and_none : (a : Bool) (cost : NodeCost) → None ≡ (if a && false then Some cost else None)
and_none true cost = refl
and_none false cost = refl

chosen_some : {A : Type 0} (b : Bool) (o : Option A) (v : A) → cond b o None ≡ Some v → (b ≡ true) × (o ≡ Some v)
chosen_some true o v e = (refl, e)
chosen_some false o v e = absurd cc

some_is : {A : Type 0} (x y : A) → Some x ≡ Some y → x ≡ y
some_is x y e = cc

first_true : (a b : Bool) → (a && b) ≡ true → a ≡ true
first_true true b e = refl
first_true false b e = absurd cc

-- the least number of workers is small
abbrev HasLow : NodeCost → Type 0
HasLow (Unit s) = ⊤
HasLow Stages = ⊤
HasLow (Workers r h e) = r.low ≤ 512
HasLow (Segments r fold) = ⊤
HasLow (Loop t e) = ⊤

-- the greatest number of segments is small
abbrev pub HasHigh : NodeCost → Type 0
HasHigh (Unit s) = ⊤
HasHigh Stages = ⊤
HasHigh (Workers r h e) = ⊤
HasHigh (Segments r fold) = r.high ≤ 512
HasHigh (Loop t e) = ⊤

-- a node that isn't outside units has no cost of its own
pub cost_none : (tree : Tree) (costs : Costs) (node : ℕ) → (Contains (outside tree) node → ⊥) → None ≡ cost_at tree costs node
unfolding cost_at
cost_none tree costs node inside =
    let test : list_any (λ k. k == node) (outside tree) ≡ false = false_unless _ (λ yes. inside (contains_from (outside tree) node (Any-from_list_any (λ k. k == node) (outside tree) yes))) in
    rw test (and_none (ltb node (length tree.nodes)) (node_cost tree costs node))

-- a cost in a table is that of the node, whatever the number
pub table_at : (tree : Tree) (costs : Costs) (table : List (Option NodeCost)) (k : ℕ) → IsTable tree costs table → get_or table k None ≡ cost_at tree costs k
unfolding cost_at
table_at tree costs table k is =
    elim (cases_lt k (length tree.nodes)) [
      | inl inside ↦ is.each k inside
      | inr past ↦ let test : ltb k (length tree.nodes) ≡ false = le-ltb k (length tree.nodes) past in
          let size = is.size in
          rw test (get_or_past table k None (omega arith))
    ]

-- the cost of a node outside units
pub cost_is : (tree : Tree) (costs : Costs) (k : ℕ) (cost : NodeCost) → cost_at tree costs k ≡ Some cost → (k < length tree.nodes) × (cost ≡ node_cost tree costs k)
unfolding cost_at
cost_is tree costs k cost e =
    let p = chosen_some (ltb k (length tree.nodes) && list_any (λ j. j == k) (outside tree)) (Some (node_cost tree costs k)) cost e in
    (ltb-true k (length tree.nodes) (first_true (ltb k (length tree.nodes)) _ p.0), sym (some_is (node_cost tree costs k) cost p.1))

usable_row : (cost : NodeCost) (below : ℕ → Costed) (parts : List ℕ) → IsSound (costed_row cost below parts) → HasLow cost → IsUsable cost
unfolding costed_row IsSound
usable_row (Unit s) below parts sound low = tt
usable_row Stages below parts sound low = tt
usable_row (Workers r h e) below parts sound low = (sound.0, low)
usable_row (Segments r fold) below parts sound low = tt
usable_row (Loop t e) below parts sound low = sound.0

low_row : (tree : Tree) (costs : Costs) (k : ℕ) (f : Form) → IfSome (workers_of f) (IsCountInRange f) → HasLow (node_cost_row tree costs k f)
low_row tree costs k Seq clause = tt
low_row tree costs k Comp clause = tt
low_row tree costs k Pipe clause = tt
low_row tree costs k (Farm None) clause = omega arith
low_row tree costs k (Farm (Some n)) clause = clause.1
low_row tree costs k (Map None cut) clause = omega arith
low_row tree costs k (Map (Some n) cut) clause = clause.2
low_row tree costs k (Reduce w len elem) clause = tt
low_row tree costs k (form.Loop turns tokens) clause = tt

high_row : (tree : Tree) (costs : Costs) (k : ℕ) (f : Form) → IfSome (workers_of f) (IsCountInRange f) → HasHigh (node_cost_row tree costs k f)
high_row tree costs k Seq clause = tt
high_row tree costs k Comp clause = tt
high_row tree costs k Pipe clause = tt
high_row tree costs k (Farm w) clause = tt
high_row tree costs k (Map w cut) clause = tt
high_row tree costs k (Reduce None len elem) clause = omega arith
high_row tree costs k (Reduce (Some n) len elem) clause = clause.2
high_row tree costs k (form.Loop turns tokens) clause = tt

siblings_after : (tree : Tree) (d : ℕ) (ps : List ℕ) (from next i x : ℕ) → AreSubtrees (IsSubtree d tree) ps from next → i < length ps → (from ≤ get_or ps i x) × (get_or ps i x < length tree.nodes)
unfolding IsSubtree
siblings_after tree zero [] from next i x h inside = absurd (omega arith)
siblings_after tree zero (p ∷ ps) from next i x h inside = absurd h.1.1
siblings_after tree (suc d) [] from next i x h inside = absurd (omega arith)
siblings_after tree (suc d) (p ∷ ps) from next zero x h inside = (omega (arith, h.0), h.1.1.0)
siblings_after tree (suc d) (p ∷ ps) from next (suc i) x h inside =
    let first = subtree_end (suc d) tree p h.1.0 h.1.1 in
    let rest = siblings_after tree (suc d) ps h.1.0 next i x h.1.2 (omega arith) in
    (omega (arith, h.0, rest.0), rest.1)

some_stage : (below : ℕ → Costed) (parts : List ℕ) → HasProcess (costed_row Stages below parts) → 1 ≤ length parts
unfolding costed_row stages HasProcess
some_stage below [] has = absurd has
some_stage below (p ∷ ps) has = omega arith

-- a node of this cost has a first part
abbrev pub NeedsFirst : NodeCost → Type 0
NeedsFirst (Unit s) = ⊥
NeedsFirst Stages = ⊥
NeedsFirst (Workers r h e) = ⊤
NeedsFirst (Segments r fold) = ⊥
NeedsFirst (Loop t e) = ⊤

first_row : (tree : Tree) (costs : Costs) (k : ℕ) (f : Form) (ins outs : ℕ) (parts : List ℕ) → IsLawfulForm tree f ins outs parts → NeedsFirst (node_cost_row tree costs k f) → 1 ≤ length parts
first_row tree costs k Seq ins outs parts lawful need = absurd need
first_row tree costs k Comp ins outs parts lawful need = absurd need
first_row tree costs k Pipe ins outs parts lawful need = absurd need
first_row tree costs k (Farm w) ins outs [] lawful need = absurd lawful
first_row tree costs k (Farm w) ins outs (p ∷ ps) lawful need = omega arith
first_row tree costs k (Map w cut) ins outs [] lawful need = absurd lawful
first_row tree costs k (Map w cut) ins outs (p ∷ ps) lawful need = omega arith
first_row tree costs k (Reduce w len elem) ins outs parts lawful need = absurd need
first_row tree costs k (form.Loop turns tokens) ins outs [] lawful need = absurd lawful
first_row tree costs k (form.Loop turns tokens) ins outs (p ∷ ps) lawful need = omega arith

module _ (tree : Tree) (costs : Costs) (lawful : IsLawfulTree tree) (priced : AreCostsOf tree costs) where
  pub costed_node : (k : ℕ) → k < length tree.nodes → IsCostedAt tree costs 6 k
  costed_node k inside = let subtree = subtree_at tree lawful k inside in costed_at tree costs lawful priced 6 k subtree.0 subtree.1

  pub stages_some : (k : ℕ) → k < length tree.nodes → node_cost tree costs k ≡ Stages → 1 ≤ length (node_at tree k).parts
  stages_some k inside is =
      let made = costed-by_parts tree costs lawful k inside in
      let has = subst HasProcess (made ∙ ap (λ (c : NodeCost). costed_row c (costed tree costs) (node_at tree k).parts) is) (costed_node k inside).has in
      some_stage (costed tree costs) (node_at tree k).parts has

  pub usable_node : (k : ℕ) → k < length tree.nodes → IsUsable (node_cost tree costs k)
  unfolding node_cost
  usable_node k inside =
      let is = costed-by_parts tree costs lawful k inside in
      usable_row (node_cost tree costs k) (costed tree costs) (node_at tree k).parts (subst IsSound is (costed_node k inside).sound)
      (low_row tree costs k (node_at tree k).form (lawful_at tree lawful k inside).workers)

  pub usable_at : (k : ℕ) (cost : NodeCost) → cost_at tree costs k ≡ Some cost → IsUsable cost
  usable_at k cost e = let is = cost_is tree costs k cost e in subst IsUsable (sym is.1) (usable_node k is.0)

  pub high_node : (k : ℕ) → k < length tree.nodes → HasHigh (node_cost tree costs k)
  unfolding node_cost
  high_node k inside = high_row tree costs k (node_at tree k).form (lawful_at tree lawful k inside).workers

  -- the parts of a node come after it
  pub parts_after : (k i x : ℕ) → k < length tree.nodes → i < length (node_at tree k).parts → (k + 1 ≤ get_or (node_at tree k).parts i x) × (get_or (node_at tree k).parts i x < length tree.nodes)
  parts_after k i x inside within =
      let subtree = subtree_at tree lawful k inside in
      let below = (IsSubtree-step 6 tree k subtree.0 (omega arith)).0 subtree.1 in
      siblings_after tree 5 (node_at tree k).parts (k + 1) subtree.0 i x below.1 within

  pub first_some : (k : ℕ) → k < length tree.nodes → NeedsFirst (node_cost tree costs k) → 1 ≤ length (node_at tree k).parts
  unfolding node_cost
  first_some k inside need = first_row tree costs k (node_at tree k).form (node_at tree k).ins (node_at tree k).outs (node_at tree k).parts (lawful_at tree lawful k inside).form need

  pub first_after : (k : ℕ) → k < length tree.nodes → NeedsFirst (node_cost tree costs k) → (k + 1 ≤ slice_index (node_at tree k).parts 0) × (slice_index (node_at tree k).parts 0 < length tree.nodes)
  first_after k inside need =
      let some = first_some k inside need in
      parts_after k 0 0 inside (omega arith)
