-- Outcomes of plans.
use Rattle.std.specs.Prelude.{◌≡◌, ℕ, ℤ, ◌*◌, ◌^◌, List, Ok, length, map, ⊤}
use Rattle.p3l_base.specs.declared.outcome.Outcome.{Outcome}
use Rattle.p3l_base.specs.declared.outcome.Outcome.TheVariants.{Value, Trapped}
use Rattle.p3l_skel.specs.Fold.{tree_fold}
use Rattle.p3l_skel.specs.Item.{elements, item}
use Rattle.p3l_scan.specs.Plan.{plan_tree}
use Rattle.p3l_scan.specs.Scan.{in_words, last_of, scan}

-- two outcomes are the same but for which trap: the same value, or both a trap
abbrev pub Agree : Outcome → Outcome → Type 0
Agree (Value v) (Value w) = v ≡ w
Agree (Trapped trap) (Trapped other) = ⊤
Agree (Value v) (Trapped trap) = ⊥
Agree (Trapped trap) (Value w) = ⊥

-- the root of a plan gives the scan of an item's elements, or a trap where that is one: so it doesn't depend on the
-- number of segments
abbrev pub IsScan : (levels words elem : ℕ) → (ℕ → List ℤ → Outcome) → (List ℤ → Outcome) → Type 0
IsScan levels words elem leaf operator =
    (item_words : List ℤ) → length item_words ≡ 2 ^ levels * words →
    Agree (item (plan_tree levels words) leaf 0 item_words) (in_words (scan operator (elements elem item_words)))

-- the last of a scan's folds is the tree fold of the elements
abbrev pub EndsWithTheFold : Type 0
EndsWithTheFold =
    (operator : List ℤ → Outcome) (list folds : List (List ℤ)) → scan operator list ≡ Ok folds →
    Value (last_of folds) ≡ tree_fold operator (map (λ element. Value element) list)
