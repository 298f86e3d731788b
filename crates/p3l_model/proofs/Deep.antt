-- More depth than a subtree has changes nothing.
use Rattle.std.proofs.Common.{◌≡◌, ℕ, zero, suc, ◌+◌, ◌-◌, ◌<◌, ◌≤◌, List, [], ◌∷◌, ◌++◌, length, get_or, refl, sym, ap, ap₂, ◌∙◌, subst, arith, inl, inr}
use Rattle.std.specs.List.{Contains, flat_map}
use Rattle.std.proofs.lemmas.List.Elements.{Contains-append_cases}
use Rattle.p3l_skel.specs.declared.tree.Form.{Form}
use Rattle.p3l_skel.specs.declared.tree.Form.TheVariants.{Seq, Comp, Pipe, Farm, Map, Reduce, Loop}
use Rattle.p3l_skel.specs.declared.tree.Tree.{Tree}
use Rattle.p3l_skel.specs.Tree.{node_at}
use Rattle.p3l_skel.specs.Counts.{own_counted, counted_from, outside, outside_from, outside_parts, count_of, counted, HasLawfulCounts}
use Rattle.p3l_skel.specs.Lawful.{AreSubtrees, IsSubtree, IsLawfulForm, IsLawfulTree}
use Rattle.p3l_skel.proofs.Below.{counted_from-step, outside_from-zero, outside_from-suc}
use Rattle.p3l_skel.proofs.Depth.{lawful_at, subtree_at, IsSubtree-deeper}
use Rattle.p3l_skel.proofs.Subtrees.{IsSubtree-step}
use Rattle.p3l_cost.specs.declared.costs.Costs.{Costs}
use Rattle.p3l_cost.specs.Costs.{AreCostsOf}
use Rattle.p3l_model.specs.NodeCost.{node_cost, node_cost_row}
use Rattle.p3l_model.specs.Costed.{Costed, Both, costed, costed_by, costed_row, stages, slowest}
use Rattle.p3l_model.specs.Timed.{IsTimed}
use Rattle.p3l_model.proofs.Bounds.{slowest-root}
use Rattle.p3l_model.proofs.Connect.{costed_by-step}
use Rattle.p3l_model.proofs.Count.{count_lawful}
use Rattle.p3l_model.proofs.Members.{Contains-nil, Contains-cons_cases}
use Rattle.p3l_model.proofs.Timed.{part_timed}

-- two functions that are the same at these nodes
abbrev pub SameOn : {X : Type 0} → (ℕ → X) → (ℕ → X) → List ℕ → Type 0
SameOn f g [] = Unit {0}
SameOn f g (p ∷ ps) = (f p ≡ g p) × SameOn f g ps

same-outside : {X : Type 0} (f g : ℕ → X) (form : Form) (ps : List ℕ) → SameOn f g ps → SameOn f g (outside_parts form ps)
same-outside f g Seq ps same = tt
same-outside f g Comp ps same = tt
same-outside f g Pipe ps same = same
same-outside f g (Farm w) [] same = tt
same-outside f g (Farm w) (p ∷ ps) same = (same.0, tt)
same-outside f g (Map w cut) [] same = tt
same-outside f g (Map w cut) (p ∷ ps) same = (same.0, tt)
same-outside f g (Reduce w len elem) ps same = tt
same-outside f g (Loop turns tokens) [] same = tt
same-outside f g (Loop turns tokens) (p ∷ ps) same = (same.0, tt)

flat_map-same : (f g : ℕ → List ℕ) (ps : List ℕ) → SameOn f g ps → flat_map f ps ≡ flat_map g ps
flat_map-same f g [] same = refl
flat_map-same f g (p ∷ ps) same = ap₂ (λ xs ys. xs ++ ys) same.0 (flat_map-same f g ps same.1)

stages-same : (f g : ℕ → Costed) (ps : List ℕ) → SameOn f g ps → stages f ps ≡ stages g ps
unfolding stages
stages-same f g [] same = refl
stages-same f g (p ∷ ps) same = ap₂ Both same.0 (stages-same f g ps same.1)

siblings-same : {X : Type 0} (tree : Tree) (f g : ℕ → X) (d : ℕ) → ((j n : ℕ) → IsSubtree d tree j n → f j ≡ g j) → (ps : List ℕ) (from next : ℕ) → AreSubtrees (IsSubtree d tree) ps from next → SameOn f g ps
siblings-same tree f g d each [] from next h = tt
siblings-same tree f g d each (p ∷ ps) from next h = (each p h.1.0 h.1.1, siblings-same tree f g d each ps h.1.0 next h.1.2)

pub counted_from-deep : (tree : Tree) (d e k next : ℕ) → d ≤ e → IsSubtree d tree k next → counted_from tree e k ≡ counted_from tree d k
unfolding IsSubtree
counted_from-deep tree zero e k next deep h = absurd h
counted_from-deep tree (suc d) zero k next deep h = absurd (omega arith)
counted_from-deep tree (suc d) (suc e) k next deep h =
    let one : suc d - 1 ≡ d = omega arith in
    let two : suc e - 1 ≡ e = omega arith in
    let less : d ≤ e = omega arith in
    let node = node_at tree k in
    let parts = siblings-same tree (counted_from tree e) (counted_from tree d) d (λ j n s. counted_from-deep tree d e j n less s) node.parts (k + 1) next h.1 in
    rw (counted_from-step tree (suc d) k (omega arith), counted_from-step tree (suc e) k (omega arith), one, two)
    (ap (λ (ks : List ℕ). own_counted node.form k ++ ks) (flat_map-same (counted_from tree e) (counted_from tree d) (outside_parts node.form node.parts) (same-outside _ _ node.form node.parts parts)))

module _ (tree : Tree) (costs : Costs) (lawful : IsLawfulTree tree) where
  row-same : (k : ℕ) (form : Form) (ins outs : ℕ) (parts : List ℕ) (f g : ℕ → Costed) → IsLawfulForm tree form ins outs parts → SameOn f g parts → costed_row (node_cost_row tree costs k form) f parts ≡ costed_row (node_cost_row tree costs k form) g parts
  unfolding costed_row
  row-same k Seq ins outs parts f g lawful' same = refl
  row-same k Comp ins outs parts f g lawful' same = refl
  row-same k Pipe ins outs parts f g lawful' same = stages-same f g parts same
  row-same k (Farm w) ins outs [] f g lawful' same = absurd lawful'
  row-same k (Farm w) ins outs (p ∷ ps) f g lawful' same = rw same.0 refl
  row-same k (Map w cut) ins outs [] f g lawful' same = absurd lawful'
  row-same k (Map w cut) ins outs (p ∷ ps) f g lawful' same = rw same.0 refl
  row-same k (Reduce w len elem) ins outs parts f g lawful' same = refl
  row-same k (Loop turns tokens) ins outs [] f g lawful' same = absurd lawful'
  row-same k (Loop turns tokens) ins outs (p ∷ ps) f g lawful' same = rw same.0 refl

  pub costed_by-deep : (d e k next : ℕ) → d ≤ e → IsSubtree d tree k next → costed_by tree costs e k ≡ costed_by tree costs d k
  unfolding IsSubtree node_cost
  costed_by-deep zero e k next deep h = absurd h
  costed_by-deep (suc d) zero k next deep h = absurd (omega arith)
  costed_by-deep (suc d) (suc e) k next deep h =
      let one : suc d - 1 ≡ d = omega arith in
      let two : suc e - 1 ≡ e = omega arith in
      let less : d ≤ e = omega arith in
      let node = node_at tree k in
      let parts = siblings-same tree (costed_by tree costs e) (costed_by tree costs d) d (λ j n s. costed_by-deep d e j n less s) node.parts (k + 1) next h.1 in
      rw (costed_by-step tree costs (suc d) k (omega arith), costed_by-step tree costs (suc e) k (omega arith), one, two)
      (row-same k node.form node.ins node.outs node.parts _ _ (lawful_at tree lawful k h.0).form parts)

  -- a node of a lawful tree is made of its parts
  pub costed-by_parts : (k : ℕ) → k < length tree.nodes → costed tree costs k ≡ costed_row (node_cost tree costs k) (costed tree costs) (node_at tree k).parts
  unfolding node_cost
  costed-by_parts k inside =
      let node = node_at tree k in
      let subtree = subtree_at tree lawful k inside in
      let below = (IsSubtree-step 6 tree k subtree.0 (omega arith)).0 subtree.1 in
      let parts = siblings-same tree (costed_by tree costs 6) (costed_by tree costs 5) 5 (λ j n s. costed_by-deep 5 6 j n (omega arith) s) node.parts (k + 1) subtree.0 below.1 in
      costed_by-step tree costs 6 k (omega arith) ∙ sym (row-same k node.form node.ins node.outs node.parts _ _ (lawful_at tree lawful k inside).form parts)

-- a member from the items comes from one of them
pub flat_map-which : (f : ℕ → List ℕ) (ps : List ℕ) (x : ℕ) → Contains (flat_map f ps) x → (i : ℕ) × (i < length ps) × Contains (f (get_or ps i 0)) x
flat_map-which f [] x h = absurd (Contains-nil x h)
flat_map-which f (p ∷ ps) x h =
    elim (Contains-append_cases (f p) (flat_map f ps) x h) [
      | inl here ↦ (0, omega arith, here)
      | inr later ↦ let q = flat_map-which f ps x later in (suc q.0, omega (arith, q.1), q.2)
    ]

module _ (tree : Tree) (costs : Costs) (lawful : IsLawfulTree tree) (priced : AreCostsOf tree costs) (count : ℕ → ℕ) where
  deeper : (d k : ℕ) → d ≤ 6 → IsTimed tree costs count d k → IsTimed tree costs count 6 k
  deeper d k deep t = record {
    next = t.next;
    deep = IsSubtree-deeper d 6 tree k t.next deep t.deep;
    lawful = rw (counted_from-deep tree d 6 k t.next deep t.deep) t.lawful;
    slow = rw (costed_by-deep tree costs lawful d 6 k t.next deep t.deep) t.slow;
  }

  outside_timed : (d k node : ℕ) → d ≤ 6 → IsTimed tree costs count d k → Contains (outside_from tree d k) node → IsTimed tree costs count 6 node
  outside_timed zero k node deep t inside =
      elim (Contains-cons_cases k [] node (rw outside_from-zero at inside)) [
        | inl same ↦ subst (IsTimed tree costs count 6) (sym same) (deeper zero k deep t)
        | inr past ↦ absurd (Contains-nil node past)
      ]
  outside_timed (suc d) k node deep t inside =
      let f = (node_at tree k).form in
      let parts = (node_at tree k).parts in
      elim (Contains-cons_cases k (flat_map (outside_from tree d) (outside_parts f parts)) node (rw (outside_from-suc tree d k) at inside)) [
        | inl same ↦ subst (IsTimed tree costs count 6) (sym same) (deeper (suc d) k deep t)
        | inr below ↦ let q = flat_map-which (outside_from tree d) (outside_parts f parts) node below in
            let e : suc d - 1 ≡ d = omega arith in
            outside_timed d (get_or (outside_parts f parts) q.0 0) node (omega arith) (rw e at (part_timed tree costs lawful priced count (suc d) k q.0 (omega arith) t q.1)) q.2
      ]

-- the service time of each node outside units can be counted
pub timed_outside : (tree : Tree) (costs : Costs) (counts : List ℕ) (node : ℕ) → IsLawfulTree tree → AreCostsOf tree costs → HasLawfulCounts tree counts → Contains (outside tree) node → IsTimed tree costs (count_of tree counts) 6 node
timed_outside tree costs counts node lawful priced takes inside =
    let root : IsTimed tree costs (count_of tree counts) 6 0 = record {
      next = length tree.nodes;
      deep = lawful.preorder;
      lawful = λ x h. count_lawful tree (counted tree) counts [] x takes h;
      slow = slowest-root tree costs lawful priced;
    } in
    outside_timed tree costs lawful priced (count_of tree counts) 6 0 node (omega arith) root inside
