use Rattle.std.proofs.Common.{◌-◌, ◌≡◌, ℕ, ◌<◌, ◌≤◌, true, false, get_or, length}
use Rattle.p3l_cert.specs.declared.cert.Row.{Row}
use Rattle.p3l_cert.specs.Order.{is_below}
use Rattle.p3l_cert.proofs.find.place.Given as goal

abbrev pub invariant-loop-low : goal.invariant-loop-low
invariant-loop-low l = record {
  order : l.low ≤ l.high;
  within : l.high ≤ length l.rows;
  below : (i : ℕ) (d : Row) → i < l.low → is_below (get_or l.rows i d) l.key ≡ true;
  from : (i : ℕ) (d : Row) → l.high ≤ i → i < length l.rows → is_below (get_or l.rows i d) l.key ≡ false;
}

abbrev pub decreases-loop-low : goal.decreases-loop-low
decreases-loop-low l = l.high - l.low
