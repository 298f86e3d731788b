-- Rows in the ranges and the order of the text.
use Rattle.std.specs.Prelude.{◌≡◌, ℕ, true, ◌≤◌, ◌<◌, List, get_or, length}
use Rattle.std.specs.List.{All}
use Rattle.p3l_cert.specs.declared.cert.Row.{Row}
use Rattle.p3l_cert.specs.Order.{comes_before}
use Rattle.p3l_base.specs.Limits.{most_processors}

-- a row's numbers are in their ranges
pub record IsInRange (row : Row) : Type 0 where
  pub bound : row.bound < 1298074214633706907132624082305024
  pub some_cap : 1 ≤ row.cap
  pub cap : row.cap ≤ most_processors
  pub some_least : 1 ≤ row.least
  pub least : row.least ≤ 513

-- each row comes before those after it
abbrev pub Ascend : List Row → Type 0
Ascend rows = (i j : ℕ) (d e : Row) → i < j → j < length rows → comes_before (get_or rows i d) (get_or rows j e) ≡ true

pub record AreRows (rows : List Row) : Type 0 where
  pub range : All IsInRange rows
  pub ascend : Ascend rows
