-- The expressions of a function nest no deeper than the operands that are not kept in temps.
use Rattle.std.proofs.Common.{◌≡◌, ℕ, suc, ◌+◌, ◌*◌, ◌≤◌, Bool, true, false, cond, List, refl, arith}
use Rattle.std.specs.Prelude.{max, nat_le}
use Rattle.std.proofs.Math.Nat.{max-le, le-max_left, le-max_right}
use Rattle.std.proofs.lemmas.Bool.Decides.{nat_tests}
use Rattle.p3l_ast.specs.declared.expression.UnOp.{UnOp}
use Rattle.p3l_ast.specs.declared.expression.UnOp.TheVariants.{Neg, Not, Flip}
use Rattle.p3l_ast.specs.declared.expression.BinOp.{BinOp}
use Rattle.p3l_ast.specs.declared.expression.BinOp.TheVariants.{Or, And, BitOr, BitXor, BitAnd, Eq, Ne, Lt, Le, Gt, Ge, Shl, Shr, Add, Sub, Mul, Div, Rem}
use Rattle.p3l_ast.specs.Tree as tree
use Rattle.p3l_ast.specs.Tree.{Phrase, read, unary, binary, Phrases, none, more, Statements, assign, if_, if_else, while_, for_}
use Rattle.p3l_c.specs.Syntax.{Signed, number, temp, element, quotient, remainder, truth, converted, moved_down, Lines, done, keep, write, choose, forever}
use Rattle.p3l_c.specs.Translate.{Shapes, sizes_at, test_of, next, next_all, spots, first_temp, lowered, operator_height, height, is_steady, is_deep, kept_value, kept_lines, after_operand, unary_value, binary_value, value, guards, around, first_size, other_sizes, index_guard, before, before_all, assign_lines, turn_lines, lines}
use Rattle.p3l_c.specs.Nesting.{signed_depth, unsigned_depth, test_depth, most_nested, AreFlat, LinesAreFlat}

-- the depth of a test of an expression
test_flat : (a : Signed) (d : ℕ) → signed_depth a ≤ d → 2 ≤ d → test_depth (test_of a) ≤ suc d
unfolding signed_depth unsigned_depth test_depth
test_flat (truth c) d h two = omega arith
test_flat (number v) d h two = let m : max 2 2 ≤ d = max-le h two in omega arith
test_flat (temp k) d h two = let m : max 0 2 ≤ d = max-le h two in omega arith
test_flat (element x ks) d h two = let m : max 2 2 ≤ d = max-le h two in omega arith
test_flat (quotient a b) d h two = let m = max-le h two in omega (arith, m)
test_flat (remainder a b) d h two = let m = max-le h two in omega (arith, m)
test_flat (converted u) d h two = let m = max-le h two in omega (arith, m)
test_flat (moved_down a b) d h two = let m = max-le h two in omega (arith, m)

unary_flat : (op : UnOp) (a : Signed) (d : ℕ) → signed_depth a ≤ d → 2 ≤ d → signed_depth (unary_value op a) ≤ d + 3
unfolding signed_depth unsigned_depth test_depth
unary_flat Neg a d h two = let m : max 2 (suc (signed_depth a)) ≤ suc d = max-le (omega arith) (omega arith) in omega (arith, m)
unary_flat Not a d h two = let m = test_flat a d h two in omega (arith, m)
unary_flat Flip a d h two = omega arith

-- two operands
words_flat : (a b : Signed) (d : ℕ) → signed_depth a ≤ d → signed_depth b ≤ d → max (suc (signed_depth a)) (suc (signed_depth b)) ≤ suc d
words_flat a b d h k = max-le (omega arith) (omega arith)

tests_flat : (a b : Signed) (d : ℕ) → signed_depth a ≤ d → signed_depth b ≤ d → 2 ≤ d → max (test_depth (test_of a)) (test_depth (test_of b)) ≤ suc d
tests_flat a b d h k two = max-le (test_flat a d h two) (test_flat b d k two)

binary_flat : (op : BinOp) (joined : Bool) (n m : ℕ) (a b : Signed) (h d : ℕ) → signed_depth a ≤ d → signed_depth b ≤ d → 2 ≤ d → d ≡ 2 + 3 * h → signed_depth (binary_value op joined n m a b) ≤ 2 + 3 * operator_height op h
unfolding signed_depth unsigned_depth test_depth
binary_flat Or false n m a b h d x y two e = omega arith
binary_flat Or true n m a b h d x y two e = let t = tests_flat a b d x y two in omega (arith, t, e)
binary_flat And false n m a b h d x y two e = omega arith
binary_flat And true n m a b h d x y two e = let t = tests_flat a b d x y two in omega (arith, t, e)
binary_flat BitOr joined n m a b h d x y two e = let t = words_flat a b d x y in omega (arith, t, e)
binary_flat BitXor joined n m a b h d x y two e = let t = words_flat a b d x y in omega (arith, t, e)
binary_flat BitAnd joined n m a b h d x y two e = let t = words_flat a b d x y in omega (arith, t, e)
binary_flat Eq joined n m a b h d x y two e = let t : max (signed_depth a) (signed_depth b) ≤ d = max-le x y in omega (arith, t, e)
binary_flat Ne joined n m a b h d x y two e = let t : max (signed_depth a) (signed_depth b) ≤ d = max-le x y in omega (arith, t, e)
binary_flat Lt joined n m a b h d x y two e = let t : max (signed_depth a) (signed_depth b) ≤ d = max-le x y in omega (arith, t, e)
binary_flat Le joined n m a b h d x y two e = let t : max (signed_depth a) (signed_depth b) ≤ d = max-le x y in omega (arith, t, e)
binary_flat Gt joined n m a b h d x y two e = let t : max (signed_depth a) (signed_depth b) ≤ d = max-le x y in omega (arith, t, e)
binary_flat Ge joined n m a b h d x y two e = let t : max (signed_depth a) (signed_depth b) ≤ d = max-le x y in omega (arith, t, e)
binary_flat Shl joined n m a b h d x y two e = omega arith
binary_flat Shr joined n m a b h d x y two e = omega arith
binary_flat Add joined n m a b h d x y two e = let t = words_flat a b d x y in omega (arith, t, e)
binary_flat Sub joined n m a b h d x y two e = let t = words_flat a b d x y in omega (arith, t, e)
binary_flat Mul joined n m a b h d x y two e = let t = words_flat a b d x y in omega (arith, t, e)
binary_flat Div joined n m a b h d x y two e = omega arith
binary_flat Rem joined n m a b h d x y two e = omega arith

-- an operand, which is kept if it is deep
operand_flat : (e : Phrase) (m : ℕ) (a : Signed) → signed_depth a ≤ 2 + 3 * height e → signed_depth (kept_value (is_deep e) m a) ≤ 2 + 3 * lowered (height e)
unfolding signed_depth unsigned_depth test_depth
operand_flat e m a h = by (nat_le 16 (height e))
  where
    by : (b : Bool) → signed_depth (kept_value b m a) ≤ 2 + 3 * cond b 0 (height e)
    by true = omega arith
    by false = h

low : (h : ℕ) → lowered h ≤ 15
low h = by (nat_le 16 h) refl
  where
    by : (b : Bool) → nat_le 16 h ≡ b → cond b 0 h ≤ 15
    by true e = omega arith
    by false e = grind (arith, nat_tests)

operator_low : (op : BinOp) (h : ℕ) → h ≤ 15 → operator_height op h ≤ 16
operator_low Shl h k = omega arith
operator_low Shr h k = omega arith
operator_low Div h k = omega arith
operator_low Rem h k = omega arith
operator_low op h k = omega arith

height_low : (e : Phrase) → height e ≤ 16
unfolding height
height_low (tree.number v) = omega arith
height_low (read x is) = omega arith
height_low (unary op e) = omega (arith, low (height e))
height_low (binary op a b) = operator_low op (max (lowered (height a)) (lowered (height b))) (max-le (low (height a)) (low (height b)))

-- a value nests at most three brackets a level
more_le : (a b : ℕ) → a ≤ b → 2 + 3 * a ≤ 2 + 3 * b
more_le a b h = omega arith

value_flat : (n : ℕ) (e : Phrase) → signed_depth (value n e) ≤ 2 + 3 * height e
unfolding height signed_depth unsigned_depth test_depth
value_flat n (tree.number v) = omega arith
value_flat n (read x is) = omega arith
value_flat n (unary op e) =
    let d = 2 + 3 * lowered (height e) in
    let a = operand_flat e (next n e) (value n e) (value_flat n e) in
    omega (arith, unary_flat op (kept_value (is_deep e) (next n e) (value n e)) d a (omega arith))
value_flat n (binary op a b) =
    let f = first_temp op (is_steady b) n in
    let m = after_operand f a in
    let va = kept_value (is_deep a) (next f a) (value f a) in
    let vb = kept_value (is_deep b) (next m b) (value m b) in
    let h = max (lowered (height a)) (lowered (height b)) in
    let x = operand_flat a (next f a) (value f a) (value_flat f a) in
    let y = operand_flat b (next m b) (value m b) (value_flat m b) in
    binary_flat op (is_steady b) n (after_operand m b) va vb h (2 + 3 * h)
    (omega (arith, x, le-max_left (lowered (height a)) (lowered (height b))))
    (omega (arith, y, le-max_right (lowered (height a)) (lowered (height b))))
    (omega arith) refl

pub value_low : (n : ℕ) (e : Phrase) → signed_depth (value n e) ≤ 50
value_low n e = omega (arith, value_flat n e, height_low e)

pub test_low : (n : ℕ) (e : Phrase) → test_depth (test_of (value n e)) ≤ 51
test_low n e = test_flat (value n e) 50 (value_low n e) (omega arith)

high : {n : ℕ} → n ≤ 50 → n ≤ most_nested
high h = omega arith

-- the lines of expressions
abbrev KeepFlat : (Lines → Lines) → Type 0
KeepFlat front = (rest : Lines) → AreFlat rest → AreFlat (front rest)

kept_low : (d : Bool) (m : ℕ) (a : Signed) → signed_depth a ≤ 50 → signed_depth (kept_value d m a) ≤ 50
unfolding signed_depth unsigned_depth test_depth
kept_low true m a h = omega arith
kept_low false m a h = h

kept_flat : (d : Bool) (m : ℕ) (a : Signed) → signed_depth a ≤ 50 → KeepFlat (kept_lines d m a)
kept_flat true m a h rest k = (omega arith, k)
kept_flat false m a h rest k = k

guards_flat : (op : BinOp) (m : ℕ) (a b : Signed) → signed_depth a ≤ 50 → signed_depth b ≤ 50 → KeepFlat (guards op m a b)
unfolding signed_depth unsigned_depth test_depth
guards_flat Shl m a b x y rest h = (omega arith, (omega arith, (omega arith, h)))
guards_flat Shr m a b x y rest h = (omega arith, (omega arith, (omega arith, h)))
guards_flat Div m a b x y rest h = (omega arith, (omega arith, (omega arith, (omega arith, h))))
guards_flat Rem m a b x y rest h = (omega arith, (omega arith, (omega arith, (omega arith, h))))
guards_flat op m a b x y rest h = h

truth_low : (a : Signed) → signed_depth a ≤ 50 → signed_depth (truth (test_of a)) ≤ most_nested
unfolding signed_depth unsigned_depth test_depth
truth_low a h = omega (arith, test_flat a 50 h (omega arith))

temp_low : (n : ℕ) → test_depth (test_of (temp n)) ≤ most_nested
unfolding signed_depth unsigned_depth test_depth
temp_low n = omega arith

around_flat : (op : BinOp) (joined : Bool) (n m : ℕ) (left : Lines → Lines) (a : Signed) (right : Lines → Lines) (b : Signed) → KeepFlat left → KeepFlat right → signed_depth a ≤ 50 → signed_depth b ≤ 50
    → KeepFlat (around op joined n m left a right b)
around_flat Or false n m left a right b l r x y rest h =
    l (keep n (truth (test_of a)) (choose (test_of (temp n)) done (right (keep n (truth (test_of b)) done)) rest))
    (truth_low a x, (temp_low n, tt, r (keep n (truth (test_of b)) done) (truth_low b y, tt), h))
around_flat And false n m left a right b l r x y rest h =
    l (keep n (truth (test_of a)) (choose (test_of (temp n)) (right (keep n (truth (test_of b)) done)) done rest))
    (truth_low a x, (temp_low n, r (keep n (truth (test_of b)) done) (truth_low b y, tt), tt, h))
around_flat op joined n m left a right b l r x y rest h = l (right (guards op m a b rest)) (r (guards op m a b rest) (guards_flat op m a b x y rest h))

index_low : (m size : ℕ) → KeepFlat (index_guard m size)
unfolding signed_depth unsigned_depth test_depth
index_low m size rest h = (omega arith, h)

mutual
  before_flat : (shapes : Shapes) (n : ℕ) (e : Phrase) → KeepFlat (before shapes n e)
  before_flat shapes n (tree.number v) = λ rest h. h
  before_flat shapes n (read x is) = before_all_flat shapes n (sizes_at shapes x.name) is
  before_flat shapes n (unary op e) =
      λ rest h. before_flat shapes n e (kept_lines (is_deep e) (next n e) (value n e) rest) (kept_flat (is_deep e) (next n e) (value n e) (value_low n e) rest h)
  before_flat shapes n (binary op a b) =
      let f = first_temp op (is_steady b) n in
      let m = after_operand f a in
      around_flat op (is_steady b) n (after_operand m b)
      (λ rest. before shapes f a (kept_lines (is_deep a) (next f a) (value f a) rest)) (kept_value (is_deep a) (next f a) (value f a))
      (λ rest. before shapes m b (kept_lines (is_deep b) (next m b) (value m b) rest)) (kept_value (is_deep b) (next m b) (value m b))
      (λ rest h. before_flat shapes f a (kept_lines (is_deep a) (next f a) (value f a) rest) (kept_flat (is_deep a) (next f a) (value f a) (value_low f a) rest h))
      (λ rest h. before_flat shapes m b (kept_lines (is_deep b) (next m b) (value m b) rest) (kept_flat (is_deep b) (next m b) (value m b) (value_low m b) rest h))
      (kept_low (is_deep a) (next f a) (value f a) (value_low f a)) (kept_low (is_deep b) (next m b) (value m b) (value_low m b))

  before_all_flat : (shapes : Shapes) (n : ℕ) (sizes : List ℕ) (is : Phrases) → KeepFlat (before_all shapes n sizes is)
  before_all_flat shapes n sizes none = λ rest h. h
  before_all_flat shapes n sizes (more e is) =
      λ rest h. before_flat shapes n e (keep (next n e) (value n e) (index_guard (next n e) (first_size sizes) (before_all shapes (next n e + 1) (other_sizes sizes) is rest)))
      (high (value_low n e), index_low (next n e) (first_size sizes) (before_all shapes (next n e + 1) (other_sizes sizes) is rest) (before_all_flat shapes (next n e + 1) (other_sizes sizes) is rest h))

assign_flat : (shapes : Shapes) (x : List ℕ) (is : Phrases) (e : Phrase) → KeepFlat (assign_lines shapes x is e)
assign_flat shapes x is e rest h =
    before_all_flat shapes 0 (sizes_at shapes x) is (before shapes (next_all 0 is) e (write x (spots 0 is) (value (next_all 0 is) e) rest))
    (before_flat shapes (next_all 0 is) e (write x (spots 0 is) (value (next_all 0 is) e) rest) (high (value_low (next_all 0 is) e), h))

-- a loop
turn_flat : (budget : ℕ) → KeepFlat (turn_lines budget)
unfolding signed_depth unsigned_depth test_depth
turn_flat budget rest h = (omega arith, h)

test_high : (e : Phrase) → test_depth (test_of (value 0 e)) ≤ most_nested
test_high e = omega (arith, test_low 0 e)

lines_flat : (shapes : Shapes) (budget : ℕ) (c : Statements) → KeepFlat (lines shapes budget c)
lines_flat shapes budget tree.done rest h = h
lines_flat shapes budget (assign x is e after) rest h = assign_flat shapes x.name is e (lines shapes budget after rest) (lines_flat shapes budget after rest h)
lines_flat shapes budget (if_ e if_so after) rest h =
    before_flat shapes 0 e (choose (test_of (value 0 e)) (lines shapes budget if_so done) done (lines shapes budget after rest))
    (test_high e, lines_flat shapes budget if_so done tt, tt, lines_flat shapes budget after rest h)
lines_flat shapes budget (if_else e if_so if_not after) rest h =
    before_flat shapes 0 e (choose (test_of (value 0 e)) (lines shapes budget if_so done) (lines shapes budget if_not done) (lines shapes budget after rest))
    (test_high e, lines_flat shapes budget if_so done tt, lines_flat shapes budget if_not done tt, lines_flat shapes budget after rest h)
lines_flat shapes budget (while_ e body after) rest h =
    (before_flat shapes 0 e done tt, test_high e, turn_flat budget (lines shapes budget body done) (lines_flat shapes budget body done tt), lines_flat shapes budget after rest h)
lines_flat shapes budget (for_ x is e w y js f body after) rest h =
    let round = lines shapes budget body (assign_lines shapes y.name js f done) in
    let inner = lines_flat shapes budget body (assign_lines shapes y.name js f done) (assign_flat shapes y.name js f done tt) in
    assign_flat shapes x.name is e (forever (before shapes 0 w done) (test_of (value 0 w)) (turn_lines budget round) (lines shapes budget after rest))
    (before_flat shapes 0 w done tt, test_high w, turn_flat budget round inner, lines_flat shapes budget after rest h)

pub lines_are_flat : LinesAreFlat
lines_are_flat shapes budget c = lines_flat shapes budget c done tt
