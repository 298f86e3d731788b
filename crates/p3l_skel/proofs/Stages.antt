-- The stages of a comp or a pipe, one at a time.
use Rattle.std.proofs.Common.{◌≡◌, ℕ, ℤ, ◌+◌, ◌<◌, ◌≤◌, List, get_or, drop, length, ap, sym, ◌∙◌, subst, drop-cons, add-one}
use Rattle.std.proofs.lemmas.List.{drop_all}
use Rattle.p3l_base.specs.declared.outcome.Outcome.{Outcome}
use Rattle.p3l_skel.specs.declared.tree.Tree.{Tree}
use Rattle.p3l_skel.specs.Tree.{node_at, HasLength}
use Rattle.p3l_skel.specs.Item.{on_value, in_order}
use Rattle.p3l_skel.specs.Lawful.{IsChain}

-- the stages that are left fit an outcome
pub FitsStages : Tree → ℕ → List ℕ → Outcome → Type 0
FitsStages tree outs stages outcome = (here : ℕ) × IsChain tree here outs stages × HasLength here outcome

module _ (tree : Tree) (outs : ℕ) (items : List ℕ) (i : ℕ) (inside : i < length items) (outcome : Outcome) where
  pub stage_there : FitsStages tree outs (drop i items) outcome → get_or items i 0 < length tree.nodes
  unfolding FitsStages
  stage_there fits = (rw (drop-cons items i 0 inside) at fits.1).0

  pub stage_fits : FitsStages tree outs (drop i items) outcome → HasLength (node_at tree (get_or items i 0)).ins outcome
  unfolding FitsStages
  stage_fits fits =
      let chain = rw (drop-cons items i 0 inside) at fits.1 in
      subst (λ n. HasLength n outcome) (sym chain.1) fits.2

  pub stages_fit : (next : Outcome) → FitsStages tree outs (drop i items) outcome → HasLength (node_at tree (get_or items i 0)).outs next → FitsStages tree outs (drop (i + 1) items) next
  unfolding FitsStages
  stages_fit next fits long =
      let chain = rw (drop-cons items i 0 inside) at fits.1 in
      ((node_at tree (get_or items i 0)).outs, rw add-one chain.2, long)

  pub in_order-more : (part : ℕ → List ℤ → Outcome) (whole next : Outcome) → in_order part (drop i items) outcome ≡ whole → next ≡ on_value (part (get_or items i 0)) outcome → in_order part (drop (i + 1) items) next ≡ whole
  in_order-more part whole next so_far is =
      ap (in_order part (drop (i + 1) items)) is
      ∙ rw add-one (rw (drop-cons items i 0 inside) at so_far)

pub in_order-all : (part : ℕ → List ℤ → Outcome) (items : List ℕ) (i : ℕ) (outcome whole : Outcome) → length items ≤ i → in_order part (drop i items) outcome ≡ whole → outcome ≡ whole
in_order-all part items i outcome whole past so_far =
    sym (ap (λ ps. in_order part ps outcome) (drop_all i items past)) ∙ so_far

pub FitsStages-first : (tree : Tree) (ins outs : ℕ) (stages : List ℕ) (outcome : Outcome) → IsChain tree ins outs stages → HasLength ins outcome → FitsStages tree outs stages outcome
unfolding FitsStages
FitsStages-first tree ins outs stages outcome chain long = (ins, chain, long)
