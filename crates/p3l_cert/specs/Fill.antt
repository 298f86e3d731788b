-- Rows made for the keys that a certificate needs, and filled with what their rules find.
use Rattle.std.specs.Prelude.{◌≡◌, ℕ, ◌-◌, ◌==◌, ◌<◌, ◌≤◌, Bool, true, if◌then◌else◌, Some, List, [], ◌∷◌, ◌++◌, get_or, length, map}
use Rattle.std.specs.List.{All, Contains}
use Rattle.p3l_skel.specs.declared.tree.Tree.{Tree}
use Rattle.p3l_cost.specs.declared.costs.Costs.{Costs}
use Rattle.p3l_model.specs.declared.cost.NodeCost.{NodeCost}
use Rattle.p3l_cert.specs.declared.cert.Key.{Key}
use Rattle.p3l_cert.specs.declared.cert.Row.{Row}
use Rattle.p3l_cert.specs.Keys.{depends_on}
use Rattle.p3l_cert.specs.Order.{is_below}
use Rattle.p3l_cert.specs.Rows.{AreRows}
use Rattle.p3l_cert.specs.Rule.{key_of, kept, cost_at, Follows}

-- true exactly if a key is above that of the last row, or there is no row
abbrev pub is_next : List Row → Key → Bool
is_next rows k = if length rows == 0 then true else is_below (get_or rows (length rows - 1) (record { node = 0; bound = 0; cap = 0; least = 0 })) k

-- with a row of the key, if it is another than that of the last row
abbrev pub with_key : List Row → Key → List Row
with_key rows k = if is_next rows k then rows ++ record { node = k.node; bound = k.bound; cap = k.cap; least = 1 } ∷ [] else rows

-- there is a row of this key
abbrev pub Has : List Row → Key → Type 0
Has rows k = (least : ℕ) × (kept rows k ≡ Some least)

-- a row of each of these keys, and of no other
pub record AreRowsOf (keys : List Key) (rows : List Row) : Type 0 where
  pub ordered : AreRows rows
  pub all : All (Has rows) keys
  pub only : All (λ row. Contains keys (key_of row)) rows

-- the rows that each row depends on are there, and its node is outside units
pub record AreClosed (tree : Tree) (costs : Costs) (rows : List Row) : Type 0 where
  pub depends : All (λ row. All (Has rows) (depends_on tree costs (key_of row))) rows
  pub outside : All (λ row. (cost : NodeCost) × (cost_at tree costs row.node ≡ Some cost)) rows

-- the rows from a place on follow by their rules
pub record IsFilledFrom (tree : Tree) (costs : Costs) (before : List Row) (place : ℕ) (rows : List Row) : Type 0 where
  pub ordered : AreRows rows
  pub same : map key_of rows ≡ map key_of before
  pub follow : (i : ℕ) (d : Row) → place ≤ i → i < length rows → Follows tree costs rows (get_or rows i d)
