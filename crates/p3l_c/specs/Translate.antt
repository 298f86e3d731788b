-- The C function of a body: its statements, from the tree of the body.
use Rattle.std.specs.Prelude.{ℕ, pos, negsuc, ◌+◌, ◌&&◌, List, [], ◌∷◌, Option, Some, None, bytes_eq, max, Bool, true, false, not, nat_le, if◌then◌else◌}
use Rattle.p3l_base.specs.declared.outcome.TrapKind.TheVariants.{Index, DivZero, DivOver, Shift, Budget}
use Rattle.p3l_ast.specs.declared.expression.UnOp.{UnOp}
use Rattle.p3l_ast.specs.declared.expression.UnOp.TheVariants.{Neg, Not, Flip}
use Rattle.p3l_ast.specs.declared.expression.BinOp.{BinOp}
use Rattle.p3l_ast.specs.declared.expression.BinOp.TheVariants.{Or, And, BitOr, BitXor, BitAnd, Eq, Ne, Lt, Le, Gt, Ge, Shl, Shr, Add, Sub, Mul, Div, Rem}
use Rattle.p3l_ast.specs.Meaning.Operator.{least}
use Rattle.p3l_ast.specs.Tree as tree
use Rattle.p3l_ast.specs.Tree.{Phrase, read, unary, binary, Phrases, none, more, Statements, assign, if_, if_else, while_, for_}
use Rattle.p3l_c.specs.Syntax.{Signed, number, temp, element, quotient, remainder, truth, converted, moved_down, nought, of, plus, minus, times, bits_and, bits_or, bits_xor, flipped, moved_up, Test, equal, differ, less, at_most, greater, at_least, negated, either, both, spent, Lines, done, keep, write, stop_if, turn, choose, forever}

-- the names of a body with their sizes: variables, and then constants, which have none
abbrev pub Shapes : Type 0
Shapes = List (List ℕ × List ℕ)

abbrev pub declared : Shapes → List ℕ → Option (List ℕ)
declared [] name = None
declared (p ∷ shapes) name = if bytes_eq p.0 name then Some p.1 else declared shapes name

abbrev pub given_sizes : Option (List ℕ) → List ℕ
given_sizes None = []
given_sizes (Some sizes) = sizes

abbrev pub sizes_at : Shapes → List ℕ → List ℕ
sizes_at shapes name = given_sizes (declared shapes name)

-- a number as a condition: `e != 0`, but a comparison is one itself
abbrev pub test_of : Signed → Test
test_of (truth c) = c
test_of (number v) = differ (number v) (number (pos 0))
test_of (temp k) = differ (temp k) (number (pos 0))
test_of (element x ks) = differ (element x ks) (number (pos 0))
test_of (quotient a b) = differ (quotient a b) (number (pos 0))
test_of (remainder a b) = differ (remainder a b) (number (pos 0))
test_of (converted u) = differ (converted u) (number (pos 0))
test_of (moved_down a b) = differ (moved_down a b) (number (pos 0))

-- the first temp after those of an expression that begins with temp n
abbrev pub after_operator : BinOp → ℕ → ℕ
after_operator Shl n = n + 2
after_operator Shr n = n + 2
after_operator Div n = n + 2
after_operator Rem n = n + 2
after_operator op n = n

-- `||` and `&&` have a temp of their own, before those of their operands, unless they are joined:
-- no lines stand before the right operand, so they are C's own operators
abbrev pub first_temp : BinOp → Bool → ℕ → ℕ
first_temp Or false n = n + 1
first_temp And false n = n + 1
first_temp op joined n = n

-- the depth to which the C of an expression nests; an operand that nests 16 deep or more is kept in
-- a temp, as compilers bound brackets (5.2.4.1)
abbrev pub lowered : ℕ → ℕ
lowered h = if nat_le 16 h then 0 else h

abbrev pub operator_height : BinOp → ℕ → ℕ
operator_height Shl h = 1
operator_height Shr h = 1
operator_height Div h = 1
operator_height Rem h = 1
operator_height op h = h + 1

unfoldable pub height : Phrase → ℕ
height (tree.number v) = 0
height (read x is) = 0
height (unary op e) = lowered (height e) + 1
height (binary op a b) = operator_height op (max (lowered (height a)) (lowered (height b)))

abbrev pub is_deep : Phrase → Bool
is_deep e = nat_le 16 (height e)

-- operators before whose use no lines of their own stand
abbrev pub is_total : BinOp → Bool
is_total Shl = false
is_total Shr = false
is_total Div = false
is_total Rem = false
is_total op = true

-- no lines stand before the use of an expression: it reads numbers and scalars, and cannot trap
unfoldable pub is_plain : Phrase → Bool
is_plain (tree.number v) = true
is_plain (read x none) = true
is_plain (read x (more e is)) = false
is_plain (unary op e) = is_plain e && not (is_deep e)
is_plain (binary op a b) = is_total op && (is_plain a && not (is_deep a)) && (is_plain b && not (is_deep b))

-- nor before its use as an operand, which is kept if it is deep
abbrev pub is_steady : Phrase → Bool
is_steady e = is_plain e && not (is_deep e)

-- an operand that is kept in the temp m, if it is deep
abbrev pub kept_next : Bool → ℕ → ℕ
kept_next true m = m + 1
kept_next false m = m

abbrev pub kept_value : Bool → ℕ → Signed → Signed
kept_value true m a = temp m
kept_value false m a = a

abbrev pub kept_lines : Bool → ℕ → Signed → Lines → Lines
kept_lines true m a rest = keep m a rest
kept_lines false m a rest = rest

abbrev mutual
  pub next : ℕ → Phrase → ℕ
  next n (tree.number v) = n
  next n (read x is) = next_all n is
  next n (unary op e) = kept_next (is_deep e) (next n e)
  next n (binary op a b) =
      after_operator op (kept_next (is_deep b) (next (kept_next (is_deep a) (next (first_temp op (is_steady b) n) a)) b))

  pub next_all : ℕ → Phrases → ℕ
  next_all n none = n
  next_all n (more e is) = next_all (next n e + 1) is

-- the first temp after those of an operand
abbrev pub after_operand : ℕ → Phrase → ℕ
after_operand n e = kept_next (is_deep e) (next n e)

-- the temps of indices
abbrev pub spots : ℕ → Phrases → List ℕ
spots n none = []
spots n (more e is) = next n e ∷ spots (next n e + 1) is

abbrev pub unary_value : UnOp → Signed → Signed
unary_value Neg a = converted (minus nought (of a))
unary_value Not a = truth (negated (test_of a))
unary_value Flip a = converted (flipped (of a))

-- an operator of two values: n is its own first temp, and m the first after those of its operands
abbrev pub binary_value : BinOp → Bool → ℕ → ℕ → Signed → Signed → Signed
binary_value Or false n m a b = temp n
binary_value Or true n m a b = truth (either (test_of a) (test_of b))
binary_value And false n m a b = temp n
binary_value And true n m a b = truth (both (test_of a) (test_of b))
binary_value BitOr joined n m a b = converted (bits_or (of a) (of b))
binary_value BitXor joined n m a b = converted (bits_xor (of a) (of b))
binary_value BitAnd joined n m a b = converted (bits_and (of a) (of b))
binary_value Eq joined n m a b = truth (equal a b)
binary_value Ne joined n m a b = truth (differ a b)
binary_value Lt joined n m a b = truth (less a b)
binary_value Le joined n m a b = truth (at_most a b)
binary_value Gt joined n m a b = truth (greater a b)
binary_value Ge joined n m a b = truth (at_least a b)
binary_value Shl joined n m a b = converted (moved_up (of (temp m)) (temp (m + 1)))
binary_value Shr joined n m a b = moved_down (temp m) (temp (m + 1))
binary_value Add joined n m a b = converted (plus (of a) (of b))
binary_value Sub joined n m a b = converted (minus (of a) (of b))
binary_value Mul joined n m a b = converted (times (of a) (of b))
binary_value Div joined n m a b = quotient (temp m) (temp (m + 1))
binary_value Rem joined n m a b = remainder (temp m) (temp (m + 1))

-- the value of an expression, after the lines that stand before it
abbrev pub value : ℕ → Phrase → Signed
value n (tree.number v) = number v
value n (read x is) = element x.name (spots n is)
value n (unary op e) = unary_value op (kept_value (is_deep e) (next n e) (value n e))
value n (binary op a b) =
    let f = first_temp op (is_steady b) n in
    let m = after_operand f a in
    binary_value op (is_steady b) n (after_operand m b) (kept_value (is_deep a) (next f a) (value f a)) (kept_value (is_deep b) (next m b) (value m b))

abbrev pub zero_of : Signed
zero_of = number (pos 0)

-- both operands in temps, and the guards of a division or a shift
abbrev pub divisor_guards : ℕ → Lines → Lines
divisor_guards m rest =
    stop_if (equal (temp (m + 1)) zero_of) DivZero
    (stop_if (both (equal (temp m) (number least)) (equal (temp (m + 1)) (number (negsuc 0)))) DivOver rest)

abbrev pub places_guard : ℕ → Lines → Lines
places_guard m rest = stop_if (either (less (temp (m + 1)) zero_of) (less (number (pos 63)) (temp (m + 1)))) Shift rest

abbrev pub operands : ℕ → Signed → Signed → Lines → Lines
operands m a b rest = keep m a (keep (m + 1) b rest)

abbrev pub index_guard : ℕ → ℕ → Lines → Lines
index_guard m size rest = stop_if (either (less (temp m) zero_of) (at_most (number (pos size)) (temp m))) Index rest

-- the lines before the use of an operator, after those of its operands: m is the first temp after
-- those of its operands
abbrev pub guards : BinOp → ℕ → Signed → Signed → Lines → Lines
guards Shl m a b rest = operands m a b (places_guard m rest)
guards Shr m a b rest = operands m a b (places_guard m rest)
guards Div m a b rest = operands m a b (divisor_guards m rest)
guards Rem m a b rest = operands m a b (divisor_guards m rest)
guards op m a b rest = rest

-- an operator with the lines before its left operand and those before its right one, each as it
-- puts them before other lines, and the values of both
abbrev pub around : BinOp → Bool → ℕ → ℕ → (Lines → Lines) → Signed → (Lines → Lines) → Signed → Lines → Lines
around Or false n m left a right b rest =
    left (keep n (truth (test_of a)) (choose (test_of (temp n)) done (right (keep n (truth (test_of b)) done)) rest))
around And false n m left a right b rest =
    left (keep n (truth (test_of a)) (choose (test_of (temp n)) (right (keep n (truth (test_of b)) done)) done rest))
around op joined n m left a right b rest = left (right (guards op m a b rest))

abbrev pub first_size : List ℕ → ℕ
first_size [] = 0
first_size (size ∷ sizes) = size

abbrev pub other_sizes : List ℕ → List ℕ
other_sizes [] = []
other_sizes (size ∷ sizes) = sizes

-- the lines before the use of an expression whose first temp is n, before other lines
abbrev mutual
  pub before : Shapes → ℕ → Phrase → Lines → Lines
  before shapes n (tree.number v) rest = rest
  before shapes n (read x is) rest = before_all shapes n (sizes_at shapes x.name) is rest
  before shapes n (unary op e) rest = before shapes n e (kept_lines (is_deep e) (next n e) (value n e) rest)
  before shapes n (binary op a b) rest =
      let f = first_temp op (is_steady b) n in
      let m = after_operand f a in
      around op (is_steady b) n (after_operand m b)
      (λ rest. before shapes f a (kept_lines (is_deep a) (next f a) (value f a) rest)) (kept_value (is_deep a) (next f a) (value f a))
      (λ rest. before shapes m b (kept_lines (is_deep b) (next m b) (value m b) rest)) (kept_value (is_deep b) (next m b) (value m b)) rest

  -- each index in a temp, tested against its size
  pub before_all : Shapes → ℕ → List ℕ → Phrases → Lines → Lines
  before_all shapes n sizes none rest = rest
  before_all shapes n sizes (more e is) rest =
      before shapes n e
      (keep (next n e) (value n e) (index_guard (next n e) (first_size sizes) (before_all shapes (next n e + 1) (other_sizes sizes) is rest)))

-- an assignment: first the indices of the target, then the right side
abbrev pub assign_lines : Shapes → List ℕ → Phrases → Phrase → Lines → Lines
assign_lines shapes x is e rest =
    before_all shapes 0 (sizes_at shapes x) is
    (before shapes (next_all 0 is) e (write x (spots 0 is) (value (next_all 0 is) e) rest))

-- the start of a loop's body: one turn
abbrev pub turn_lines : ℕ → Lines → Lines
turn_lines budget rest = stop_if (spent budget) Budget (turn rest)

-- THE LINES of statements, before other lines
abbrev pub lines : Shapes → ℕ → Statements → Lines → Lines
lines shapes budget tree.done rest = rest
lines shapes budget (assign x is e after) rest = assign_lines shapes x.name is e (lines shapes budget after rest)
lines shapes budget (if_ e if_so after) rest =
    before shapes 0 e (choose (test_of (value 0 e)) (lines shapes budget if_so done) done (lines shapes budget after rest))
lines shapes budget (if_else e if_so if_not after) rest =
    before shapes 0 e (choose (test_of (value 0 e)) (lines shapes budget if_so done) (lines shapes budget if_not done) (lines shapes budget after rest))
lines shapes budget (while_ e body after) rest =
    forever (before shapes 0 e done) (test_of (value 0 e)) (turn_lines budget (lines shapes budget body done)) (lines shapes budget after rest)
lines shapes budget (for_ x is e w y js f body after) rest =
    assign_lines shapes x.name is e
    (forever (before shapes 0 w done) (test_of (value 0 w))
    (turn_lines budget (lines shapes budget body (assign_lines shapes y.name js f done)))
    (lines shapes budget after rest))
