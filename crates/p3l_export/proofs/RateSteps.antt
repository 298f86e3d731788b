-- Rates, a level at a time.
use Rattle.std.proofs.Common.{◌≡◌, ◌<◌, ℕ, zero, suc, ◌-◌, List, [], ◌∷◌, ◌++◌, refl, ap, ◌∙◌, arith, append_assoc}
use Rattle.std.specs.List.{flat_map}
use Rattle.p3l_skel.specs.declared.tree.Tree.{Tree}
use Rattle.p3l_skel.specs.Tree.{node_at}
use Rattle.p3l_cost.specs.declared.costs.Costs.{Costs}
use Rattle.p3l_export.specs.Rates.{rate_inside, rates_from}

-- no node has a rate at level 0
pub rates_none : (tree : Tree) (costs : Costs) (count : ℕ → ℕ) (d rate k : ℕ) → d ≡ 0 → rates_from tree costs count d rate k ≡ []
unfolding rates_from
rates_none tree costs count zero rate k none = refl
rates_none tree costs count (suc d) rate k none = absurd (omega arith)

-- above it a node has its own, and then come those of its parts
rates_some : (tree : Tree) (costs : Costs) (count : ℕ → ℕ) (d rate k : ℕ) → 0 < d →
    rates_from tree costs count d rate k
    ≡ rate ∷ flat_map (rates_from tree costs count (d - 1) (rate_inside tree costs count rate k)) (node_at tree k).parts
unfolding rates_from
rates_some tree costs count zero rate k some = absurd (omega arith)
rates_some tree costs count (suc d) rate k some = let e : suc d - 1 ≡ d = omega arith in rw e refl

-- the rates of a node are put after others: its own, and then those of its parts
pub rates_put : (tree : Tree) (costs : Costs) (count : ℕ → ℕ) (d rate k inside : ℕ) (parts xs ys zs : List ℕ) → 0 < d →
    inside ≡ rate_inside tree costs count rate k → parts ≡ (node_at tree k).parts → ys ≡ xs ++ rate ∷ [] →
    zs ≡ ys ++ flat_map (rates_from tree costs count (d - 1) inside) parts → zs ≡ xs ++ rates_from tree costs count d rate k
rates_put tree costs count d rate k inside parts xs ys zs some at of one more =
    let rest : List ℕ = flat_map (rates_from tree costs count (d - 1) inside) parts in
    rw (rates_some tree costs count d rate k some, ← at, ← of)
    (more ∙ ap (λ (us : List ℕ). us ++ rest) one ∙ append_assoc xs (rate ∷ []) rest)
