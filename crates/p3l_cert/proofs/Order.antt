-- The order of rows.
use Rattle.std.proofs.Common.{◌≡◌, ℕ, ◌≤◌, true, arith}
use Rattle.std.proofs.lemmas.Bool.Decides.{nat_tests}
use Rattle.p3l_cert.specs.Order.{are_before}

pub before_chain : (a b c x y z p q r : ℕ) → are_before a b c x y z ≡ true → are_before x y z p q r ≡ true → are_before a b c p q r ≡ true
before_chain a b c x y z p q r first second = grind (arith, nat_tests)

pub before_node : (a b c x y z : ℕ) → are_before a b c x y z ≡ true → a ≤ x
before_node a b c x y z before = grind (arith, nat_tests)
