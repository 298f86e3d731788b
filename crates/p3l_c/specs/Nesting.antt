-- The depth to which the expressions of a function nest.
use Rattle.std.specs.Prelude.{ℕ, suc, ◌≤◌, max}
use Rattle.p3l_ast.specs.Tree.{Statements}
use Rattle.p3l_c.specs.Syntax.{Signed, number, temp, element, quotient, remainder, truth, converted, moved_down, Unsigned, nought, of, plus, minus, times, bits_and, bits_or, bits_xor, flipped, moved_up, Test, equal, differ, less, at_most, greater, at_least, negated, either, both, spent, Lines, done, keep, write, stop_if, turn, choose, forever}
use Rattle.p3l_c.specs.Translate.{Shapes, lines}

-- the most brackets in one another, if each operator, cast and call is written with one pair, and a
-- literal with two, as also a constant may be
unfoldable mutual
  pub signed_depth : Signed → ℕ
  signed_depth (number v) = 2
  signed_depth (temp k) = 0
  signed_depth (element x ks) = 2
  signed_depth (quotient a b) = suc (max (signed_depth a) (signed_depth b))
  signed_depth (remainder a b) = suc (max (signed_depth a) (signed_depth b))
  signed_depth (truth c) = suc (test_depth c)
  signed_depth (converted u) = suc (unsigned_depth u)
  signed_depth (moved_down a b) = suc (max (signed_depth a) (signed_depth b))

  pub unsigned_depth : Unsigned → ℕ
  unsigned_depth nought = 2
  unsigned_depth (of a) = suc (signed_depth a)
  unsigned_depth (plus a b) = suc (max (unsigned_depth a) (unsigned_depth b))
  unsigned_depth (minus a b) = suc (max (unsigned_depth a) (unsigned_depth b))
  unsigned_depth (times a b) = suc (max (unsigned_depth a) (unsigned_depth b))
  unsigned_depth (bits_and a b) = suc (max (unsigned_depth a) (unsigned_depth b))
  unsigned_depth (bits_or a b) = suc (max (unsigned_depth a) (unsigned_depth b))
  unsigned_depth (bits_xor a b) = suc (max (unsigned_depth a) (unsigned_depth b))
  unsigned_depth (flipped a) = suc (unsigned_depth a)
  unsigned_depth (moved_up a b) = suc (max (unsigned_depth a) (signed_depth b))

  pub test_depth : Test → ℕ
  test_depth (equal a b) = suc (max (signed_depth a) (signed_depth b))
  test_depth (differ a b) = suc (max (signed_depth a) (signed_depth b))
  test_depth (less a b) = suc (max (signed_depth a) (signed_depth b))
  test_depth (at_most a b) = suc (max (signed_depth a) (signed_depth b))
  test_depth (greater a b) = suc (max (signed_depth a) (signed_depth b))
  test_depth (at_least a b) = suc (max (signed_depth a) (signed_depth b))
  test_depth (negated a) = suc (test_depth a)
  test_depth (either a b) = suc (max (test_depth a) (test_depth b))
  test_depth (both a b) = suc (max (test_depth a) (test_depth b))
  test_depth (spent n) = 2

-- 5.2.4.1: every compiler takes 63; a loop's end, `if (!(c)) break;`, has one of them beside its
-- test
abbrev pub most_nested : ℕ
most_nested = 62

-- no expression of lines nests deeper
abbrev pub AreFlat : Lines → Type 0
AreFlat done = Unit {0}
AreFlat (keep k e next) = (signed_depth e ≤ most_nested) × AreFlat next
AreFlat (write x ks e next) = (signed_depth e ≤ most_nested) × AreFlat next
AreFlat (stop_if c trap next) = (test_depth c ≤ most_nested) × AreFlat next
AreFlat (turn next) = AreFlat next
AreFlat (choose c a b next) = (test_depth c ≤ most_nested) × AreFlat a × AreFlat b × AreFlat next
AreFlat (forever front c after next) = AreFlat front × (test_depth c ≤ most_nested) × AreFlat after × AreFlat next

-- all lines of statements are flat
abbrev pub LinesAreFlat : Type 0
LinesAreFlat = (shapes : Shapes) (budget : ℕ) (c : Statements) → AreFlat (lines shapes budget c done)
