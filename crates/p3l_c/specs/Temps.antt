-- The temps of a function: how many there are, and that its lines use no others.
use Rattle.std.specs.Prelude.{ℕ, ◌<◌, max}
use Rattle.std.specs.List.{AllByRecursion}
use Rattle.p3l_ast.specs.Tree as tree
use Rattle.p3l_ast.specs.Tree.{Phrase, Phrases, Statements, assign, if_, if_else, while_, for_}
use Rattle.p3l_c.specs.Syntax.{Signed, number, temp, element, quotient, remainder, truth, converted, moved_down, Unsigned, nought, of, plus, minus, times, bits_and, bits_or, bits_xor, flipped, moved_up, Test, equal, differ, less, at_most, greater, at_least, negated, either, both, spent, Lines, done, keep, write, stop_if, turn, choose, forever}
use Rattle.p3l_c.specs.Translate.{Shapes, next, next_all, lines}

-- an assignment: first the indices of the target, then the right side
abbrev pub assign_temps : Phrases → Phrase → ℕ
assign_temps is e = next (next_all 0 is) e

-- THE NUMBER OF TEMPS of statements
unfoldable pub temps_of : Statements → ℕ
temps_of tree.done = 0
temps_of (assign x is e after) = max (assign_temps is e) (temps_of after)
temps_of (if_ e a after) = max (max (next 0 e) (temps_of a)) (temps_of after)
temps_of (if_else e a b after) = max (max (next 0 e) (max (temps_of a) (temps_of b))) (temps_of after)
temps_of (while_ e body after) = max (max (next 0 e) (temps_of body)) (temps_of after)
temps_of (for_ x is e w y js f body after) =
    max (max (assign_temps is e) (max (max (next 0 w) (temps_of body)) (assign_temps js f))) (temps_of after)

-- the temps of an expression are below a number
unfoldable mutual
  pub SignedBelow : ℕ → Signed → Type 0
  SignedBelow m (number v) = Unit {0}
  SignedBelow m (temp k) = k < m
  SignedBelow m (element x ks) = AllByRecursion (λ k. k < m) ks
  SignedBelow m (quotient a b) = SignedBelow m a × SignedBelow m b
  SignedBelow m (remainder a b) = SignedBelow m a × SignedBelow m b
  SignedBelow m (truth c) = TestBelow m c
  SignedBelow m (converted u) = UnsignedBelow m u
  SignedBelow m (moved_down a b) = SignedBelow m a × SignedBelow m b

  pub UnsignedBelow : ℕ → Unsigned → Type 0
  UnsignedBelow m nought = Unit {0}
  UnsignedBelow m (of a) = SignedBelow m a
  UnsignedBelow m (plus a b) = UnsignedBelow m a × UnsignedBelow m b
  UnsignedBelow m (minus a b) = UnsignedBelow m a × UnsignedBelow m b
  UnsignedBelow m (times a b) = UnsignedBelow m a × UnsignedBelow m b
  UnsignedBelow m (bits_and a b) = UnsignedBelow m a × UnsignedBelow m b
  UnsignedBelow m (bits_or a b) = UnsignedBelow m a × UnsignedBelow m b
  UnsignedBelow m (bits_xor a b) = UnsignedBelow m a × UnsignedBelow m b
  UnsignedBelow m (flipped a) = UnsignedBelow m a
  UnsignedBelow m (moved_up a b) = UnsignedBelow m a × SignedBelow m b

  pub TestBelow : ℕ → Test → Type 0
  TestBelow m (equal a b) = SignedBelow m a × SignedBelow m b
  TestBelow m (differ a b) = SignedBelow m a × SignedBelow m b
  TestBelow m (less a b) = SignedBelow m a × SignedBelow m b
  TestBelow m (at_most a b) = SignedBelow m a × SignedBelow m b
  TestBelow m (greater a b) = SignedBelow m a × SignedBelow m b
  TestBelow m (at_least a b) = SignedBelow m a × SignedBelow m b
  TestBelow m (negated a) = TestBelow m a
  TestBelow m (either a b) = TestBelow m a × TestBelow m b
  TestBelow m (both a b) = TestBelow m a × TestBelow m b
  TestBelow m (spent n) = Unit {0}

-- and those of lines
abbrev pub LinesBelow : ℕ → Lines → Type 0
LinesBelow m done = Unit {0}
LinesBelow m (keep k e next) = (k < m) × SignedBelow m e × LinesBelow m next
LinesBelow m (write x ks e next) = AllByRecursion (λ k. k < m) ks × SignedBelow m e × LinesBelow m next
LinesBelow m (stop_if c trap next) = TestBelow m c × LinesBelow m next
LinesBelow m (turn next) = LinesBelow m next
LinesBelow m (choose c a b next) = TestBelow m c × LinesBelow m a × LinesBelow m b × LinesBelow m next
LinesBelow m (forever front c after next) = LinesBelow m front × TestBelow m c × LinesBelow m after × LinesBelow m next

-- the lines of statements use only the temps of the statements
abbrev pub TempsAreDeclared : Type 0
TempsAreDeclared = (shapes : Shapes) (budget : ℕ) (c : Statements) → LinesBelow (temps_of c) (lines shapes budget c done)
