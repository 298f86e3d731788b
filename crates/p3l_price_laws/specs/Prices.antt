-- Prices of linked nets.
use Rattle.std.specs.Prelude.{ℕ, List}
use Rattle.p3l_skel.specs.declared.tree.Tree.{Tree}
use Rattle.p3l_cost.specs.declared.costs.Costs.{Costs}
use Rattle.p3l_cost.specs.Costs.{AreCostsOf}
use Rattle.p3l_firing.specs.Typed.{IsTyped}
use Rattle.p3l_link.specs.Net.{linked_net}
use Rattle.p3l_timed.specs.Price.{HasSmallPrices}

-- every price of a typed net that was linked for a tree is below 2 ^ 48
abbrev pub EveryLinkedPriceIsSmall : Type 0
EveryLinkedPriceIsSmall =
    (tree : Tree) (costs : Costs) (counts : List ℕ) (cap : ℕ)
    → AreCostsOf tree costs → IsTyped tree (linked_net tree counts cap) → HasSmallPrices tree costs (linked_net tree counts cap)
