-- Numbers, as far as they count.
use Rattle.std.proofs.Common.{◌≡◌, ℕ, arith}
use Rattle.p3l_model.specs.NodeCost.{timed}
use Rattle.p3l_export.specs.Rates.{capped}

-- a number counts the same in a load and in a price
pub capped_timed : (n : ℕ) → capped (timed n) ≡ capped n
capped_timed n = omega arith
