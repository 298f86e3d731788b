-- WHICH OUTCOME A PLAN COMES TO, its trap too: by stages, and in each stage by blocks. No guard is in it.
use Rattle.std.specs.Prelude.{◌≡◌, ℕ, ℤ, zero, suc, ◌*◌, ◌^◌, ◌≤◌, List, ◌++◌, length, map}
use Rattle.p3l_base.specs.declared.outcome.Outcome.{Outcome}
use Rattle.p3l_base.specs.declared.outcome.Outcome.TheVariants.{Trapped}
use Rattle.p3l_base.specs.declared.outcome.Trap.{Trap}
use Rattle.p3l_skel.specs.Item.{elements, item, on_value, pieces}
use Rattle.p3l_scan.specs.Plan.{plan_tree, step_node}
use Rattle.p3l_scan.specs.Row.{in_row}
use Rattle.p3l_scan.specs.Scan.{in_words}
use Rattle.p3l_scan.specs.Step.{step_leaf, stepped}

-- the outcome of the step of stage s for a block: that of stage 0 scans it, and a later one merges its two halves
abbrev pub block_outcome : (elem : ℕ) → (List ℤ → Outcome) → (s : ℕ) → List ℤ → Outcome
block_outcome elem operator s block = in_words (stepped operator (step_node s) (elements elem block))

-- stage s on `n` blocks of `size` words, one after the other: the first trap by block, or the words of all
abbrev pub stage_outcome : (elem : ℕ) → (List ℤ → Outcome) → (s n size : ℕ) → List ℤ → Outcome
stage_outcome elem operator s n size words = in_row (map (block_outcome elem operator s) (pieces n size words))

-- the stages from s on, where `more` follow it and its blocks have `size` words: the first trap by stage, or what the last one gives
unfoldable pub staged : (elem : ℕ) → (List ℤ → Outcome) → (s more size : ℕ) → List ℤ → Outcome
staged elem operator s zero size words = stage_outcome elem operator s 1 size words
staged elem operator s (suc more) size words =
    on_value (staged elem operator (suc s) more (2 * size)) (stage_outcome elem operator s (2 ^ suc more) size words)

-- the root of a plan does to an item the work of its stages in order: of several traps it gives the first by stage, then by block
abbrev pub GoesByStages : (levels words elem : ℕ) → (ℕ → List ℤ → Outcome) → (List ℤ → Outcome) → Type 0
GoesByStages levels words elem leaf operator =
    (item_words : List ℤ) → length item_words ≡ 2 ^ levels * words →
    item (plan_tree levels words) leaf 0 item_words ≡ staged elem operator 0 levels words item_words

-- a trap is the operator's own, on two elements
pub record IsOperatorTrap (elem : ℕ) (operator : List ℤ → Outcome) (trap : Trap) : Type 0 where
  pub left : List ℤ
  pub right : List ℤ
  pub left_fits : length left ≡ elem
  pub right_fits : length right ≡ elem
  pub trapped : operator (left ++ right) ≡ Trapped trap

-- a trap that the root of a plan comes to is one of the operator: it has the number of a module of the tree that is scanned, and
-- none of the plan's own
abbrev pub TrapsAsTheOperator : (levels words elem : ℕ) → (ℕ → List ℤ → Outcome) → (List ℤ → Outcome) → Type 0
TrapsAsTheOperator levels words elem leaf operator =
    (item_words : List ℤ) (trap : Trap) → length item_words ≡ 2 ^ levels * words →
    item (plan_tree levels words) leaf 0 item_words ≡ Trapped trap → IsOperatorTrap elem operator trap

-- the guard of a step never acts on a block of its stage
abbrev pub NeverGuards : (levels words elem : ℕ) → (List ℤ → Outcome) → Type 0
NeverGuards levels words elem operator =
    (s : ℕ) (block : List ℤ) → s ≤ levels → length block ≡ 2 ^ s * words →
    step_leaf elem operator (step_node s) block ≡ block_outcome elem operator s block
