-- The units of a plan's tree are its stages and its steps.
use Rattle.std.proofs.Common.{◌≡◌, ℕ, ℤ, suc, ◌-◌, ◌*◌, ◌/◌, ◌%◌, ◌^◌, ◌<◌, ◌≤◌, ◌⊎◌, inl, inr, true, false, List, length, map, slice_index, arith, ap, sym, ◌∙◌, subst}
use Rattle.std.specs.Prelude.{IsTrue}
use Rattle.p3l_base.specs.declared.outcome.Outcome.{Outcome}
use Rattle.p3l_skel.specs.declared.tree.Node.{Node}
use Rattle.p3l_skel.specs.Item.{item, pieces}
use Rattle.p3l_skel.specs.Tree.{FitsForm, HasFittingLength, IsUnit, is_sequential, nesting, node_at, sequential_row, sequential_to}
use Rattle.p3l_skel.proofs.Below.{sequential_to-step}
use Rattle.p3l_scan.specs.Plan.{plan_tree, stage_node, step_node}
use Rattle.p3l_scan.specs.Row.{in_row}
use Rattle.p3l_scan.specs.Step.{step_leaf}
use Rattle.p3l_scan.specs.laws.Nodes.{node-cases, nodes-length, root_is, stage_is, step_is}
use Rattle.p3l_scan.proofs.Values.{stage-item, step-item}

module _ (d w : ℕ) (node : ℕ) (unit : IsUnit (plan_tree d w) node) where
  no-root : node ≡ 0 → ⊥
  no-root e =
      let is : is_sequential (plan_tree d w) node ≡ false =
      ap (sequential_to (plan_tree d w) nesting) e
      ∙ sequential_to-step (plan_tree d w) nesting 0 (omega arith)
      ∙ ap (λ (n : Node). sequential_row n.form (sequential_to (plan_tree d w) (nesting - 1) (slice_index n.parts 0))) (root_is d w) in
      let never : false ≡ true = subst (λ b. IsTrue b) is unit.sequential in cc

  cases : ((s : ℕ) × (s ≤ d) × (node ≡ stage_node s)) ⊎ ((s : ℕ) × (s ≤ d) × (node ≡ step_node s))
  cases = elim (node-cases d node (subst (λ n. node < n) (nodes-length d w) unit.in_tree)) [
    | inl e ↦ absurd (no-root e)
    | inr more ↦ more
  ]

  -- an odd number is that of a stage
  pub stage-there : node % 2 ≡ 1 → (node / 2 ≤ d) × (node ≡ stage_node (node / 2))
  stage-there odd = elim cases [
    | inl (s, l, e) ↦ let half : node / 2 ≡ s = omega (arith, e) in (omega (arith, half, l), omega (arith, half, e))
    | inr (s, l, e) ↦ absurd (omega (arith, odd, e))
  ]

  -- another one is that of a step
  pub step-there : (node % 2 ≡ 1 → ⊥) → (node / 2 - 1 ≤ d) × ((node ≡ step_node (node / 2 - 1)) × (1 ≤ node / 2))
  step-there even = elim cases [
    | inl (s, l, e) ↦ absurd (even (omega (arith, e)))
    | inr (s, l, e) ↦
        let half : node / 2 ≡ suc s = omega (arith, e) in
        (omega (arith, half, l), (omega (arith, half, e), omega (arith, half)))
  ]

  module _ (words : List ℤ) (fits : HasFittingLength (plan_tree d w) node (length words)) where
    pub stage-fits : node % 2 ≡ 1 → length words ≡ 2 ^ (d - node / 2) * (2 ^ (node / 2) * w)
    stage-fits odd =
        let there = stage-there odd in
        subst (λ (n : Node). FitsForm n.form n.ins (length words))
        (ap (node_at (plan_tree d w)) there.1 ∙ stage_is d w (node / 2) there.0) fits

    pub step-fits : (node % 2 ≡ 1 → ⊥) → length words ≡ 2 ^ (node / 2 - 1) * w
    step-fits even =
        let there = step-there even in
        subst (λ (n : Node). FitsForm n.form n.ins (length words))
        (ap (node_at (plan_tree d w)) there.1.0 ∙ step_is d w (node / 2 - 1) there.0) fits

    module _ (elem : ℕ) (operator : List ℤ → Outcome) where
      pub stage-runs : node % 2 ≡ 1 →
          in_row (map (step_leaf elem operator (step_node (node / 2)))
          (pieces (2 ^ (d - node / 2)) (2 ^ (node / 2) * w) words))
          ≡ item (plan_tree d w) (step_leaf elem operator) node words
      stage-runs odd =
          let there = stage-there odd in
          sym (ap (λ k. item (plan_tree d w) (step_leaf elem operator) k words) there.1
          ∙ stage-item d w elem operator 4 (node / 2) words there.0 (stage-fits odd))

      pub step-runs : (node % 2 ≡ 1 → ⊥) →
          step_leaf elem operator (step_node (node / 2 - 1)) words ≡ item (plan_tree d w) (step_leaf elem operator) node words
      step-runs even =
          let there = step-there even in
          sym (ap (λ k. item (plan_tree d w) (step_leaf elem operator) k words) there.1.0
          ∙ step-item d w elem operator 5 (node / 2 - 1) words there.0)
