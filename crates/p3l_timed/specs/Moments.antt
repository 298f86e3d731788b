-- Due moments of numbers, and the tree that finds the least of them.
use Rattle.std.specs.Prelude.{◌≡◌, ◌≢◌, ℕ, suc, ◌+◌, ◌≤◌, ◌<◌, ⊤, Option, Some, None, List, length, get_or, ◌^◌}

-- a comes no later than b; none comes after every moment
abbrev pub IsNoLater : Option ℕ → Option ℕ → Type 0
IsNoLater (Some a) (Some b) = a ≤ b
IsNoLater None (Some b) = ⊥
IsNoLater (Some a) None = ⊤
IsNoLater None None = ⊤

-- a comes before b
abbrev pub IsSooner : Option ℕ → Option ℕ → Type 0
IsSooner (Some a) (Some b) = a < b
IsSooner (Some a) None = ⊤
IsSooner None (Some b) = ⊥
IsSooner None None = ⊥

-- the due time of a number, if any
abbrev pub due_at : List (Option ℕ) → ℕ → Option ℕ
due_at moments p = get_or moments p None

-- THE LEAST: p is due, no number is due before it, and of equals it is the lowest
pub record IsLeast (moments : List (Option ℕ)) (p : ℕ) : Type 0 where
  pub there : p < length moments
  pub due : due_at moments p ≢ None
  pub least : (q : ℕ) → q < length moments → IsNoLater (due_at moments p) (due_at moments q)
  pub first : (q : ℕ) → q < p → IsSooner (due_at moments p) (due_at moments q)

-- no number is due
pub record IsNeverDue (moments : List (Option ℕ)) : Type 0 where
  pub never : (q : ℕ) → q < length moments → due_at moments q ≡ None

-- c is the sooner of a and b, and a where they are equal
pub record IsSoonest (a b c : Option ℕ) : Type 0 where
  pub left : IsNoLater a b → c ≡ a
  pub right : IsSooner b a → c ≡ b

-- THE TREE: the cells from `size` on are those of the numbers, and each cell j below it, from 1 on, has the sooner of the cells
-- 2 j and 2 j + 1
pub record IsTree (size : ℕ) (cells : List (Option ℕ)) : Type 0 where
  pub long : length cells ≡ size + size
  pub each : (j : ℕ) → 1 ≤ j → j < size → IsSoonest (due_at cells (j + j)) (due_at cells (suc (j + j))) (due_at cells j)

-- the same, but for the cell right above cell i
pub record IsTreeBut (size i : ℕ) (cells : List (Option ℕ)) : Type 0 where
  pub long : length cells ≡ size + size
  pub each : (j : ℕ) → 1 ≤ j → j < size → i ≢ j + j → i ≢ suc (j + j) →
      IsSoonest (due_at cells (j + j)) (due_at cells (suc (j + j))) (due_at cells j)

-- a tree with `levels` levels above the cells of the numbers
pub record IsLevelled (levels size : ℕ) (cells : List (Option ℕ)) : Type 0 where
  pub few : levels ≤ 32
  pub power : size ≡ 2 ^ levels
  pub tree : IsTree size cells

-- the way down from cell 1: at cell i of level k, which has the root's moment, and each cell of the level before it a later one
pub record IsDown (cells : List (Option ℕ)) (k i : ℕ) : Type 0 where
  pub low : 2 ^ k ≤ i
  pub high : i < 2 ^ k + 2 ^ k
  pub same : due_at cells i ≡ due_at cells 1
  pub before : (j : ℕ) → 2 ^ k ≤ j → j < i → IsSooner (due_at cells 1) (due_at cells j)
