-- The texts of expressions and lines of C. Each expression with an operator stands in parentheses, so
-- no precedence is relied on.
use Rattle.std.specs.Prelude.{ℕ, List, [], ◌∷◌, ◌++◌, codes}
use Rattle.std.specs.Fmt.{decimal}
use Rattle.p3l_c.specs.Syntax.{Signed, number, temp, element, quotient, remainder, truth, converted, moved_down, Unsigned, nought, of, plus, minus, times, bits_and, bits_or, bits_xor, flipped, moved_up, Test, equal, differ, less, at_most, greater, at_least, negated, either, both, spent, Lines, done, keep, write, stop_if, turn, choose, forever}
use Rattle.p3l_c_print.specs.Name.{Names, literal_text, name_text}
use Rattle.p3l_c_print.specs.Line.{set_line, stop_line, spent_text, turn_line, choice_lines, loop_lines, deeper}

abbrev pub temp_text : ℕ → List ℕ
temp_text k = codes "t" ++ decimal k

abbrev pub spot_text : ℕ → List ℕ
spot_text k = codes "[t" ++ (decimal k ++ codes "]")

unfoldable pub spots_text : List ℕ → List ℕ
spots_text [] = []
spots_text (k ∷ ks) = spot_text k ++ spots_text ks

abbrev pub element_text : Names → List ℕ → List ℕ → List ℕ
element_text names x ks = name_text names x ++ spots_text ks

unfoldable pub between : List ℕ → List ℕ → List ℕ → List ℕ
between sign a b = codes "(" ++ (a ++ (sign ++ (b ++ codes ")")))

unfoldable mutual
  pub signed_text : Names → Signed → List ℕ
  signed_text names (number v) = literal_text v
  signed_text names (temp k) = temp_text k
  signed_text names (element x ks) = element_text names x ks
  signed_text names (quotient a b) = between (codes " / ") (signed_text names a) (signed_text names b)
  signed_text names (remainder a b) = between (codes " % ") (signed_text names a) (signed_text names b)
  signed_text names (truth c) = codes "(int64_t)" ++ test_text names c
  signed_text names (converted u) = codes "p3l_signed" ++ unsigned_text names u
  signed_text names (moved_down a b) = codes "p3l_shr(" ++ (signed_text names a ++ (codes ", " ++ (signed_text names b ++ codes ")")))

  -- in parentheses
  pub unsigned_text : Names → Unsigned → List ℕ
  unsigned_text names nought = codes "(UINT64_C(0))"
  unsigned_text names (of a) = codes "((uint64_t)" ++ (signed_text names a ++ codes ")")
  unsigned_text names (plus a b) = between (codes " + ") (unsigned_text names a) (unsigned_text names b)
  unsigned_text names (minus a b) = between (codes " - ") (unsigned_text names a) (unsigned_text names b)
  unsigned_text names (times a b) = between (codes " * ") (unsigned_text names a) (unsigned_text names b)
  unsigned_text names (bits_and a b) = between (codes " & ") (unsigned_text names a) (unsigned_text names b)
  unsigned_text names (bits_or a b) = between (codes " | ") (unsigned_text names a) (unsigned_text names b)
  unsigned_text names (bits_xor a b) = between (codes " ^ ") (unsigned_text names a) (unsigned_text names b)
  unsigned_text names (flipped a) = codes "(~" ++ (unsigned_text names a ++ codes ")")
  unsigned_text names (moved_up a b) = between (codes " << ") (unsigned_text names a) (signed_text names b)

  -- in parentheses
  pub test_text : Names → Test → List ℕ
  test_text names (equal a b) = between (codes " == ") (signed_text names a) (signed_text names b)
  test_text names (differ a b) = between (codes " != ") (signed_text names a) (signed_text names b)
  test_text names (less a b) = between (codes " < ") (signed_text names a) (signed_text names b)
  test_text names (at_most a b) = between (codes " <= ") (signed_text names a) (signed_text names b)
  test_text names (greater a b) = between (codes " > ") (signed_text names a) (signed_text names b)
  test_text names (at_least a b) = between (codes " >= ") (signed_text names a) (signed_text names b)
  test_text names (negated c) = codes "(!" ++ (test_text names c ++ codes ")")
  test_text names (either a b) = between (codes " || ") (test_text names a) (test_text names b)
  test_text names (both a b) = between (codes " && ") (test_text names a) (test_text names b)
  test_text names (spent n) = spent_text n

-- THE TEXT of lines after a margin
unfoldable pub lines_text : Names → List ℕ → Lines → List ℕ
lines_text names margin done = []
lines_text names margin (keep k e next) = set_line margin (temp_text k) (signed_text names e) ++ lines_text names margin next
lines_text names margin (write x ks e next) = set_line margin (element_text names x ks) (signed_text names e) ++ lines_text names margin next
lines_text names margin (stop_if c trap next) = stop_line margin (test_text names c) trap names.home ++ lines_text names margin next
lines_text names margin (turn next) = turn_line margin ++ lines_text names margin next
lines_text names margin (choose c a b next) =
    choice_lines margin (test_text names c) (lines_text names (deeper margin) a) (lines_text names (deeper margin) b) ++ lines_text names margin next
lines_text names margin (forever before c after next) =
    loop_lines margin (lines_text names (deeper margin) before) (test_text names c) (lines_text names (deeper margin) after) ++ lines_text names margin next
