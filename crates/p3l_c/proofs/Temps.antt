-- The lines of statements use only the temps that the statements count.
use Rattle.std.proofs.Common.{ℕ, ◌+◌, ◌≤◌, ◌<◌, Bool, true, false, List, arith}
use Rattle.std.specs.Prelude.{max}
use Rattle.std.specs.List.{AllByRecursion}
use Rattle.std.proofs.Math.Nat.{le-max_left, le-max_right}
use Rattle.p3l_ast.specs.declared.expression.UnOp.{UnOp}
use Rattle.p3l_ast.specs.declared.expression.UnOp.TheVariants.{Neg, Not, Flip}
use Rattle.p3l_ast.specs.declared.expression.BinOp.{BinOp}
use Rattle.p3l_ast.specs.declared.expression.BinOp.TheVariants.{Or, And, Shl, Shr, Div, Rem}
use Rattle.p3l_ast.specs.Tree as tree
use Rattle.p3l_ast.specs.Tree.{Phrase, read, unary, binary, Phrases, none, more, Statements, assign, if_, if_else, while_, for_}
use Rattle.p3l_c.specs.Syntax.{Signed, number, temp, element, quotient, remainder, truth, converted, moved_down, Lines, done, keep, write, choose, forever}
use Rattle.p3l_c.specs.Translate.{Shapes, sizes_at, test_of, next, next_all, spots, first_temp, after_operator, is_steady, is_deep, kept_next, kept_value, kept_lines, after_operand, unary_value, binary_value, value, guards, around, first_size, other_sizes, index_guard, before, before_all, assign_lines, turn_lines, lines}
use Rattle.p3l_c.specs.Temps.{assign_temps, temps_of, SignedBelow, UnsignedBelow, TestBelow, LinesBelow, TempsAreDeclared}
use Rattle.p3l_c.proofs.Expressions.{operator_le, kept_le, next_le, next_all_le}

test_below : (m : ℕ) (a : Signed) → SignedBelow m a → TestBelow m (test_of a)
unfolding SignedBelow UnsignedBelow TestBelow
test_below m (truth c) h = h
test_below m (number v) h = (tt, tt)
test_below m (temp k) h = (h, tt)
test_below m (element x ks) h = (h, tt)
test_below m (quotient a b) h = (h, tt)
test_below m (remainder a b) h = (h, tt)
test_below m (converted u) h = (h, tt)
test_below m (moved_down a b) h = (h, tt)

unary_below : (op : UnOp) (m : ℕ) (a : Signed) → SignedBelow m a → SignedBelow m (unary_value op a)
unfolding SignedBelow UnsignedBelow TestBelow
unary_below Neg m a h = (tt, h)
unary_below Not m a h = test_below m a h
unary_below Flip m a h = h

-- n is the own temp of the operator, and k the first after those of its operands
binary_below : (op : BinOp) (joined : Bool) (n k m : ℕ) (a b : Signed) → first_temp op joined n ≤ m → after_operator op k ≤ m → SignedBelow m a → SignedBelow m b → SignedBelow m (binary_value op joined n k a b)
unfolding SignedBelow UnsignedBelow TestBelow
binary_below Or false n k m a b f l x y = omega arith
binary_below Or true n k m a b f l x y = (test_below m a x, test_below m b y)
binary_below And false n k m a b f l x y = omega arith
binary_below And true n k m a b f l x y = (test_below m a x, test_below m b y)
binary_below Shl joined n k m a b f l x y = (omega arith, omega arith)
binary_below Shr joined n k m a b f l x y = (omega arith, omega arith)
binary_below Div joined n k m a b f l x y = (omega arith, omega arith)
binary_below Rem joined n k m a b f l x y = (omega arith, omega arith)
binary_below op joined n k m a b f l x y = (x, y)

-- an operand, which may be kept in the temp k
kept_below : (d : Bool) (k m : ℕ) (a : Signed) → kept_next d k ≤ m → SignedBelow m a → SignedBelow m (kept_value d k a)
unfolding SignedBelow UnsignedBelow TestBelow
kept_below true k m a h x = omega arith
kept_below false k m a h x = x

-- the bounds of an operator's parts
record Parts (op : BinOp) (n : ℕ) (a b : Phrase) (m : ℕ) : Type 0 where
  first : first_temp op (is_steady b) n ≤ m
  left : next (first_temp op (is_steady b) n) a ≤ m
  kept_left : kept_next (is_deep a) (next (first_temp op (is_steady b) n) a) ≤ m
  right : next (after_operand (first_temp op (is_steady b) n) a) b ≤ m
  kept_right : kept_next (is_deep b) (next (after_operand (first_temp op (is_steady b) n) a) b) ≤ m
  last : after_operator op (after_operand (after_operand (first_temp op (is_steady b) n) a) b) ≤ m

parts : (op : BinOp) (n : ℕ) (a b : Phrase) (m : ℕ) → next n (binary op a b) ≤ m → Parts op n a b m
parts op n a b m h =
    let f = first_temp op (is_steady b) n in
    let m1 = kept_next (is_deep a) (next f a) in
    let m2 = kept_next (is_deep b) (next m1 b) in
    let p1 = next_le f a in
    let p2 = kept_le (is_deep a) (next f a) in
    let p3 = next_le m1 b in
    let p4 = kept_le (is_deep b) (next m1 b) in
    let p5 = operator_le op m2 in record {
      first = omega arith;
      left = omega arith;
      kept_left = omega arith;
      right = omega arith;
      kept_right = omega arith;
      last = h;
    }

spots_below : (m n : ℕ) (is : Phrases) → next_all n is ≤ m → AllByRecursion (λ k. k < m) (spots n is)
spots_below m n none h = tt
spots_below m n (more e is) h = let p = next_all_le (next n e + 1) is in (omega arith, spots_below m (next n e + 1) is h)

value_below : (m n : ℕ) (e : Phrase) → next n e ≤ m → SignedBelow m (value n e)
unfolding SignedBelow UnsignedBelow TestBelow
value_below m n (tree.number v) h = tt
value_below m n (read x is) h = spots_below m n is h
value_below m n (unary op e) h =
    let k = kept_le (is_deep e) (next n e) in
    unary_below op m (kept_value (is_deep e) (next n e) (value n e)) (kept_below (is_deep e) (next n e) m (value n e) h (value_below m n e (omega arith)))
value_below m n (binary op a b) h =
    let f = first_temp op (is_steady b) n in
    let m1 = after_operand f a in
    let p = parts op n a b m h in
    binary_below op (is_steady b) n (after_operand m1 b) m (kept_value (is_deep a) (next f a) (value f a)) (kept_value (is_deep b) (next m1 b) (value m1 b)) p.first p.last
    (kept_below (is_deep a) (next f a) m (value f a) p.kept_left (value_below m f a p.left))
    (kept_below (is_deep b) (next m1 b) m (value m1 b) p.kept_right (value_below m m1 b p.right))

-- the lines of expressions
abbrev KeepBelow : ℕ → (Lines → Lines) → Type 0
KeepBelow m front = (rest : Lines) → LinesBelow m rest → LinesBelow m (front rest)

kept_lines_below : (d : Bool) (k m : ℕ) (a : Signed) → kept_next d k ≤ m → SignedBelow m a → KeepBelow m (kept_lines d k a)
kept_lines_below true k m a h x rest r = (omega arith, x, r)
kept_lines_below false k m a h x rest r = r

guards_below : (op : BinOp) (k m : ℕ) (a b : Signed) → after_operator op k ≤ m → SignedBelow m a → SignedBelow m b → KeepBelow m (guards op k a b)
unfolding SignedBelow UnsignedBelow TestBelow
guards_below Shl k m a b l x y rest r = (omega arith, x, (omega arith, y, (((omega arith, tt), (tt, omega arith)), r)))
guards_below Shr k m a b l x y rest r = (omega arith, x, (omega arith, y, (((omega arith, tt), (tt, omega arith)), r)))
guards_below Div k m a b l x y rest r = (omega arith, x, (omega arith, y, ((omega arith, tt), (((omega arith, tt), (omega arith, tt)), r))))
guards_below Rem k m a b l x y rest r = (omega arith, x, (omega arith, y, ((omega arith, tt), (((omega arith, tt), (omega arith, tt)), r))))
guards_below op k m a b l x y rest r = r

truth_below : (m : ℕ) (a : Signed) → SignedBelow m a → SignedBelow m (truth (test_of a))
unfolding SignedBelow UnsignedBelow TestBelow
truth_below m a h = test_below m a h

temp_below : (m n : ℕ) → n < m → TestBelow m (test_of (temp n))
unfolding SignedBelow UnsignedBelow TestBelow
temp_below m n h = (h, tt)

around_below : (op : BinOp) (joined : Bool) (n k m : ℕ) (left : Lines → Lines) (a : Signed) (right : Lines → Lines) (b : Signed) → first_temp op joined n ≤ m → after_operator op k ≤ m
    → KeepBelow m left → KeepBelow m right → SignedBelow m a → SignedBelow m b → KeepBelow m (around op joined n k left a right b)
around_below Or false n k m left a right b f last l r x y rest h =
    let own : n < m = omega arith in
    l (keep n (truth (test_of a)) (choose (test_of (temp n)) done (right (keep n (truth (test_of b)) done)) rest))
    (own, truth_below m a x, (temp_below m n own, tt, r (keep n (truth (test_of b)) done) (own, truth_below m b y, tt), h))
around_below And false n k m left a right b f last l r x y rest h =
    let own : n < m = omega arith in
    l (keep n (truth (test_of a)) (choose (test_of (temp n)) (right (keep n (truth (test_of b)) done)) done rest))
    (own, truth_below m a x, (temp_below m n own, r (keep n (truth (test_of b)) done) (own, truth_below m b y, tt), tt, h))
around_below op joined n k m left a right b f last l r x y rest h = l (right (guards op k a b rest)) (r (guards op k a b rest) (guards_below op k m a b last x y rest h))

index_below : (k size m : ℕ) → k < m → KeepBelow m (index_guard k size)
unfolding SignedBelow UnsignedBelow TestBelow
index_below k size m h rest r = (((h, tt), (tt, h)), r)

mutual
  before_below : (m : ℕ) (shapes : Shapes) (n : ℕ) (e : Phrase) → next n e ≤ m → KeepBelow m (before shapes n e)
  before_below m shapes n (tree.number v) h = λ rest r. r
  before_below m shapes n (read x is) h = before_all_below m shapes n (sizes_at shapes x.name) is h
  before_below m shapes n (unary op e) h =
      let k = kept_le (is_deep e) (next n e) in
      let inner : next n e ≤ m = omega arith in
      λ rest r. before_below m shapes n e inner (kept_lines (is_deep e) (next n e) (value n e) rest) (kept_lines_below (is_deep e) (next n e) m (value n e) h (value_below m n e inner) rest r)
  before_below m shapes n (binary op a b) h =
      let f = first_temp op (is_steady b) n in
      let m1 = after_operand f a in
      let p = parts op n a b m h in
      let x = value_below m f a p.left in
      let y = value_below m m1 b p.right in
      around_below op (is_steady b) n (after_operand m1 b) m
      (λ rest. before shapes f a (kept_lines (is_deep a) (next f a) (value f a) rest)) (kept_value (is_deep a) (next f a) (value f a))
      (λ rest. before shapes m1 b (kept_lines (is_deep b) (next m1 b) (value m1 b) rest)) (kept_value (is_deep b) (next m1 b) (value m1 b)) p.first p.last
      (λ rest r. before_below m shapes f a p.left (kept_lines (is_deep a) (next f a) (value f a) rest) (kept_lines_below (is_deep a) (next f a) m (value f a) p.kept_left x rest r))
      (λ rest r. before_below m shapes m1 b p.right (kept_lines (is_deep b) (next m1 b) (value m1 b) rest) (kept_lines_below (is_deep b) (next m1 b) m (value m1 b) p.kept_right y rest r))
      (kept_below (is_deep a) (next f a) m (value f a) p.kept_left x) (kept_below (is_deep b) (next m1 b) m (value m1 b) p.kept_right y)

  before_all_below : (m : ℕ) (shapes : Shapes) (n : ℕ) (sizes : List ℕ) (is : Phrases) → next_all n is ≤ m → KeepBelow m (before_all shapes n sizes is)
  before_all_below m shapes n sizes none h = λ rest r. r
  before_all_below m shapes n sizes (more e is) h =
      let p = next_all_le (next n e + 1) is in
      let own : next n e < m = omega arith in
      let inner : next n e ≤ m = omega arith in
      λ rest r. before_below m shapes n e inner (keep (next n e) (value n e) (index_guard (next n e) (first_size sizes) (before_all shapes (next n e + 1) (other_sizes sizes) is rest))) (
        own,
        value_below m n e inner,
        index_below (next n e) (first_size sizes) m own (before_all shapes (next n e + 1) (other_sizes sizes) is rest)
            (before_all_below m shapes (next n e + 1) (other_sizes sizes) is h rest r),
      )

assign_below : (m : ℕ) (shapes : Shapes) (x : List ℕ) (is : Phrases) (e : Phrase) → assign_temps is e ≤ m → KeepBelow m (assign_lines shapes x is e)
assign_below m shapes x is e h rest r =
    let p = next_le (next_all 0 is) e in
    let inner : next_all 0 is ≤ m = omega arith in
    before_all_below m shapes 0 (sizes_at shapes x) is inner (before shapes (next_all 0 is) e (write x (spots 0 is) (value (next_all 0 is) e) rest))
    (before_below m shapes (next_all 0 is) e h (write x (spots 0 is) (value (next_all 0 is) e) rest) (spots_below m 0 is inner, value_below m (next_all 0 is) e h, r))

turn_below : (m budget : ℕ) → KeepBelow m (turn_lines budget)
unfolding SignedBelow UnsignedBelow TestBelow
turn_below m budget rest r = (tt, r)

test_value_below : (m : ℕ) (e : Phrase) → next 0 e ≤ m → TestBelow m (test_of (value 0 e))
test_value_below m e h = test_below m (value 0 e) (value_below m 0 e h)

-- both of a greater number
left_le : (a b m : ℕ) → max a b ≤ m → a ≤ m
left_le a b m h = omega (arith, le-max_left a b)

right_le : (a b m : ℕ) → max a b ≤ m → b ≤ m
right_le a b m h = omega (arith, le-max_right a b)

lines_below : (m : ℕ) (shapes : Shapes) (budget : ℕ) (c : Statements) → temps_of c ≤ m → KeepBelow m (lines shapes budget c)
unfolding temps_of
lines_below m shapes budget tree.done h rest r = r
lines_below m shapes budget (assign x is e after) h rest r =
    assign_below m shapes x.name is e (left_le (assign_temps is e) (temps_of after) m h) (lines shapes budget after rest)
    (lines_below m shapes budget after (right_le (assign_temps is e) (temps_of after) m h) rest r)
lines_below m shapes budget (if_ e a after) h rest r =
    let g = left_le (max (next 0 e) (temps_of a)) (temps_of after) m h in
    let k = left_le (next 0 e) (temps_of a) m g in
    before_below m shapes 0 e k (choose (test_of (value 0 e)) (lines shapes budget a done) done (lines shapes budget after rest)) (
      test_value_below m e k,
      lines_below m shapes budget a (right_le (next 0 e) (temps_of a) m g) done tt,
      tt,
      lines_below m shapes budget after (right_le (max (next 0 e) (temps_of a)) (temps_of after) m h) rest r,
    )
lines_below m shapes budget (if_else e a b after) h rest r =
    let ways = max (temps_of a) (temps_of b) in
    let g = left_le (max (next 0 e) ways) (temps_of after) m h in
    let k = left_le (next 0 e) ways m g in
    let l = right_le (next 0 e) ways m g in
    before_below m shapes 0 e k (choose (test_of (value 0 e)) (lines shapes budget a done) (lines shapes budget b done) (lines shapes budget after rest)) (
      test_value_below m e k,
      lines_below m shapes budget a (left_le (temps_of a) (temps_of b) m l) done tt,
      lines_below m shapes budget b (right_le (temps_of a) (temps_of b) m l) done tt,
      lines_below m shapes budget after (right_le (max (next 0 e) ways) (temps_of after) m h) rest r,
    )
lines_below m shapes budget (while_ e body after) h rest r =
    let g = left_le (max (next 0 e) (temps_of body)) (temps_of after) m h in
    let k = left_le (next 0 e) (temps_of body) m g in (
      before_below m shapes 0 e k done tt,
      test_value_below m e k,
      turn_below m budget (lines shapes budget body done) (lines_below m shapes budget body (right_le (next 0 e) (temps_of body) m g) done tt),
      lines_below m shapes budget after (right_le (max (next 0 e) (temps_of body)) (temps_of after) m h) rest r,
    )
lines_below m shapes budget (for_ x is e w y js f body after) h rest r =
    let inside = max (next 0 w) (temps_of body) in
    let loop = max inside (assign_temps js f) in
    let g = left_le (max (assign_temps is e) loop) (temps_of after) m h in
    let k = right_le (assign_temps is e) loop m g in
    let i = left_le inside (assign_temps js f) m k in
    let t = left_le (next 0 w) (temps_of body) m i in
    let round = lines shapes budget body (assign_lines shapes y.name js f done) in
    assign_below m shapes x.name is e (left_le (assign_temps is e) loop m g) (forever (before shapes 0 w done) (test_of (value 0 w)) (turn_lines budget round) (lines shapes budget after rest)) (
      before_below m shapes 0 w t done tt,
      test_value_below m w t,
      turn_below m budget round (lines_below m shapes budget body (right_le (next 0 w) (temps_of body) m i) (assign_lines shapes y.name js f done) (assign_below m shapes y.name js f (right_le inside (assign_temps js f) m k) done tt)),
      lines_below m shapes budget after (right_le (max (assign_temps is e) loop) (temps_of after) m h) rest r,
    )

pub temps_are_declared : TempsAreDeclared
temps_are_declared shapes budget c = lines_below (temps_of c) shapes budget c (omega arith) done tt
