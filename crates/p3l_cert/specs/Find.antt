-- The place of the row of a key, or the place at which it would be inserted.
use Rattle.std.specs.Prelude.{◌≡◌, ℕ, true, false, ◌≤◌, ◌<◌, List, get_or, length}
use Rattle.p3l_cert.specs.declared.cert.Row.{Row}
use Rattle.p3l_cert.specs.declared.cert.Key.{Key}
use Rattle.p3l_cert.specs.Order.{is_below}

-- `place` rows come before that of the key, and none of the others
pub record IsPlace (rows : List Row) (k : Key) (place : ℕ) : Type 0 where
  pub within : place ≤ length rows
  pub below : (i : ℕ) (d : Row) → i < place → is_below (get_or rows i d) k ≡ true
  pub from : (i : ℕ) (d : Row) → place ≤ i → i < length rows → is_below (get_or rows i d) k ≡ false
