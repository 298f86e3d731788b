use Rattle.std.proofs.Common.{◌≡◌, ℕ, zero, suc, List, refl, ◌-◌, ◌<◌, ◌↔◌, IsTrue, true, false, [], ◌∷◌, sym, subst, rules, arith, inl, inr}
use Rattle.std.specs.List.{Contains, flat_map}
use Rattle.std.proofs.lemmas.List.{take_all}
use Rattle.p3l_skel.specs.declared.tree.Tree.{Tree}
use Rattle.p3l_skel.specs.Counts.{outside_from}
use Rattle.p3l_skel.proofs.Below.{outside_from-zero, outside_from-step, outside_from-past}
use Rattle.p3l_model.proofs.Members.{Contains-cons_cases, Contains-nil, Contains-head, Contains-tail, Contains-flat_map, Contains-flat_map_more}
use Rattle.p3l_model.proofs.outside.+is_outside_from.Goals as goal

yes : (P : Type 0) → P → IsTrue true ↔ P
yes P p = (λ _. p, λ _. search rules)

no : (P : Type 0) → (P → ⊥) → IsTrue false ↔ P
no P never = (λ h. absurd (search rules), λ p. absurd (never p))

-- a node comes first below itself
itself : (tree : Tree) (d k : ℕ) → Contains (outside_from tree d k) k
itself tree zero k = rw outside_from-zero (Contains-head k [])
itself tree (suc d) k =
    let some : 0 < suc d = omega arith in
    rw (outside_from-step tree (suc d) k some) (Contains-head k _)

only : (k x : ℕ) → (k ≡ x → ⊥) → Contains (k ∷ []) x → ⊥
only k x other h = elim (Contains-cons_cases k [] x h) [ inl same ↦ other (sym same) | inr past ↦ Contains-nil x past ]

pub returns-then-number-wanted : goal.returns-then-number-wanted
returns-then-number-wanted t c =
    yes _ (subst (λ x. Contains (outside_from c.args.tree.now c.args.levels c.args.number) x) c.if-number-wanted.true (itself c.args.tree.now c.args.levels c.args.number))

pub returns-then-levels-eq0 : goal.returns-then-levels-eq0
returns-then-levels-eq0 t c =
    no _ (λ h. only c.args.number c.args.wanted c.if-number-wanted.false (rw (c.if-levels-eq0.true, outside_from-zero) at h))

pub returns-in_default : goal.returns-in_default
returns-in_default t c =
    let some : 0 < c.args.levels = omega arith in
    no _ (λ h. only c.args.number c.args.wanted c.if-number-wanted.false (rw (outside_from-past c.args.tree.now c.args.levels c.args.number some c.in_default.ensures.past) at h))

pub returns-then-is_outside_from : goal.returns-then-is_outside_from
returns-then-is_outside_from t c =
    let some : 0 < c.args.levels = omega arith in
    let below : ℕ → List ℕ = outside_from c.args.tree.now (c.args.levels - 1) in
    let parts = c.outside_parts-part-items.result.now in
    let split : outside_from c.args.tree.now c.args.levels c.args.number ≡ c.args.number ∷ flat_map below parts =
    rw (outside_from-step c.args.tree.now c.args.levels c.args.number some, ← c.in-Some.ensures.found, ← c.outside_parts-part-items.ensures) refl in
    let there : IsTrue true = search rules in
    let here = c.if-is_outside_from.ensures.0 there in
    let inside = Contains-flat_map below parts c.loop-part.part-index 0 c.args.wanted c.loop-part-test.true here in
    yes _ (rw split (Contains-tail c.args.number (flat_map below parts) c.args.wanted inside))

pub loop-part-preserved : goal.loop-part-preserved
loop-part-preserved t c = λ h.
    let below : ℕ → List ℕ = outside_from c.args.tree.now (c.args.levels - 1) in
    elim (Contains-flat_map_more below c.outside_parts-part-items.result.now c.loop-part.part-index 0 c.args.wanted c.loop-part-test.true h) [
      | inl before ↦ c.loop-part.invariant before
      | inr here ↦ let wrong = c.if-is_outside_from.ensures.1 here in absurd (search rules)
    ]

pub returns : goal.returns
returns t c =
    let some : 0 < c.args.levels = omega arith in
    let below : ℕ → List ℕ = outside_from c.args.tree.now (c.args.levels - 1) in
    let parts = c.outside_parts-part-items.result.now in
    let split : outside_from c.args.tree.now c.args.levels c.args.number ≡ c.args.number ∷ flat_map below parts =
    rw (outside_from-step c.args.tree.now c.args.levels c.args.number some, ← c.in-Some.ensures.found, ← c.outside_parts-part-items.ensures) refl in
    let none = rw (take_all c.loop-part.part-index parts c.loop-part-test.false) at c.loop-part.invariant in
    no _ (λ h. elim (Contains-cons_cases c.args.number (flat_map below parts) c.args.wanted (rw split at h)) [
      | inl same ↦ c.if-number-wanted.false (sym same)
      | inr inside ↦ none inside
    ])
