-- The meaning of that part of C11. `None` and `undefined` are behaviour that is undefined, or that
-- the implementation defines. No expression has a side effect, so the order in which operands are
-- evaluated makes no difference (6.5p2, p3), and each statement is a full expression or has one
-- (6.8p4).
use Rattle.std.specs.Prelude.{ℕ, ℤ, zero, suc, pos, negsuc, ◌+◌, ◌-◌, ◌*◌, ◌%◌, ◌^◌, Bool, true, false, not, List, [], ◌∷◌, map, find, length, Option, Some, None, bytes_eq, slice_get, slice_set, nat_lt, nat_le, nat_eq, int_lt, int_le, int_div, int_rem, if◌then◌else◌, bit_and, bit_or, bit_xor}
use Rattle.std.specs.Ordering.{int_eq}
use Rattle.std.specs.Int.{w64, cast_unsigned, bit_not}
use Rattle.p3l_base.specs.declared.outcome.TrapKind.{TrapKind}
use Rattle.p3l_ast.specs.declared.meaning.valuation.Binding.{Binding}
use Rattle.p3l_c.specs.Helper.{some_then, ranged, in_range, signed_call, shr_call}
use Rattle.p3l_c.specs.Syntax.{Signed, number, temp, element, quotient, remainder, truth, converted, moved_down, Unsigned, nought, of, plus, minus, times, bits_and, bits_or, bits_xor, flipped, moved_up, Test, equal, differ, less, at_most, greater, at_least, negated, either, both, spent, Lines, done, keep, write, stop_if, turn, choose, forever}

-- the temps, of type int64_t; one that was not assigned has an indeterminate value, and to read it
-- is undefined (6.3.2.1p2, 6.7.9p10)
abbrev pub Temps : Type 0
Temps = ℕ → Option ℤ

-- the objects, each of type int64_t or an array of them: its identifier, its dimensions, and its
-- values in the order of storage, which is row-major (6.5.2.1p3); `turns` is of type uint64_t
pub record Store : Type 0 where
  pub objects : List Binding
  pub temps : Temps
  pub turns : ℕ

abbrev pub object_of : List Binding → List ℕ → Option Binding
object_of objects name = find (λ object. bytes_eq object.name name) objects

-- an index is at least 0 and below its dimension; any other is undefined (6.5.6p8 by 6.5.2.1p2; J.2
-- for the inner dimensions)
abbrev pub index_in : ℤ → ℕ → Option ℕ
index_in (pos i) size = if nat_lt i size then Some i else None
index_in (negsuc i) size = None

-- the place of the element that temps select; too few or too many indices select no int64_t
abbrev pub place_in : Temps → List ℕ → List ℕ → ℕ → Option ℕ
place_in temps [] [] place = Some place
place_in temps [] (size ∷ sizes) place = None
place_in temps (k ∷ ks) [] place = None
place_in temps (k ∷ ks) (size ∷ sizes) place =
    some_then (temps k) (λ v. some_then (index_in v size) (λ i. place_in temps ks sizes (place * size + i)))

abbrev pub value_at : Temps → List ℕ → Option Binding → Option ℤ
value_at temps ks None = None
value_at temps ks (Some object) = some_then (place_in temps ks object.sizes 0) (slice_get object.words)

-- 6.5.5p5, p6: a zero divisor is undefined, and so are both operators if the quotient is not
-- representable; otherwise it is truncated toward zero
abbrev pub divided_by : (ℤ → ℤ → ℤ) → ℤ → ℤ → Option ℤ
divided_by give x y = if int_eq y (pos 0) then None else (if in_range (int_div x y) then Some (give x y) else None)

-- 6.5.7p3: a count of places below 0, or of 64 or more, is undefined; p4: bits past the highest are
-- lost
abbrev pub shifted_up : ℕ → ℤ → Option ℕ
shifted_up u (pos k) = if nat_lt k 64 then Some ((u * 2 ^ k) % 2 ^ 64) else None
shifted_up u (negsuc k) = None

abbrev pub both_of : {A B C : Type 0} → Option A → Option B → (A → B → Option C) → Option C
both_of a b go = some_then a (λ x. some_then b (go x))

-- 6.5.8p6, 6.5.9p3: the int 1 or 0
abbrev pub as_number : Bool → ℤ
as_number t = if t then pos 1 else pos 0

-- 6.5.13p4, 6.5.14p4: the right operand is evaluated only if the left one does not decide
abbrev pub or_else : Option Bool → Option Bool → Option Bool
or_else a b = some_then a (λ t. if t then Some true else b)

abbrev pub and_also : Option Bool → Option Bool → Option Bool
and_also a b = some_then a (λ t. if t then b else Some false)

unfoldable mutual
  -- 6.3.1.8: both operands of an operator have the same type, and int is not wider than int64_t, so
  -- that no conversion happens
  pub signed : Store → Signed → Option ℤ
  signed st (number v) = ranged v
  signed st (temp k) = st.temps k
  signed st (element x ks) = value_at st.temps ks (object_of st.objects x)
  signed st (quotient a b) = both_of (signed st a) (signed st b) (divided_by int_div)
  signed st (remainder a b) = both_of (signed st a) (signed st b) (divided_by int_rem)
  signed st (truth c) = some_then (test st c) (λ t. Some (as_number t))
  signed st (converted u) = some_then (unsigned st u) signed_call
  signed st (moved_down a b) = both_of (signed st a) (signed st b) shr_call

  -- 6.2.5p9: modulo 2 ^ 64; 6.3.1.3p2: `(uint64_t)`; 6.5.3.3p4, 6.5.10 to 6.5.12: bits
  pub unsigned : Store → Unsigned → Option ℕ
  unsigned st nought = Some 0
  unsigned st (of a) = some_then (signed st a) (λ v. Some (cast_unsigned w64 v))
  unsigned st (plus a b) = both_of (unsigned st a) (unsigned st b) (λ m n. Some ((m + n) % 2 ^ 64))
  unsigned st (minus a b) = both_of (unsigned st a) (unsigned st b) (λ m n. Some ((m + (2 ^ 64 - n)) % 2 ^ 64))
  unsigned st (times a b) = both_of (unsigned st a) (unsigned st b) (λ m n. Some ((m * n) % 2 ^ 64))
  unsigned st (bits_and a b) = both_of (unsigned st a) (unsigned st b) (λ m n. Some (bit_and m n))
  unsigned st (bits_or a b) = both_of (unsigned st a) (unsigned st b) (λ m n. Some (bit_or m n))
  unsigned st (bits_xor a b) = both_of (unsigned st a) (unsigned st b) (λ m n. Some (bit_xor m n))
  unsigned st (flipped a) = some_then (unsigned st a) (λ n. Some (bit_not w64 n))
  unsigned st (moved_up a b) = both_of (unsigned st a) (signed st b) shifted_up

  pub test : Store → Test → Option Bool
  test st (equal a b) = both_of (signed st a) (signed st b) (λ x y. Some (int_eq x y))
  test st (differ a b) = both_of (signed st a) (signed st b) (λ x y. Some (not (int_eq x y)))
  test st (less a b) = both_of (signed st a) (signed st b) (λ x y. Some (int_lt x y))
  test st (at_most a b) = both_of (signed st a) (signed st b) (λ x y. Some (int_le x y))
  test st (greater a b) = both_of (signed st a) (signed st b) (λ x y. Some (int_lt y x))
  test st (at_least a b) = both_of (signed st a) (signed st b) (λ x y. Some (int_le y x))
  test st (negated a) = some_then (test st a) (λ t. Some (not t))
  test st (either a b) = or_else (test st a) (test st b)
  test st (both a b) = and_also (test st a) (test st b)
  test st (spent n) = Some (nat_le n st.turns)

-- the ending of statements
pub data Ending : Type 0 where
  goes : Store → Ending
  returns : TrapKind → Ending
  undefined : Ending
  unfinished : Ending

abbrev pub and_then : Ending → (Store → Ending) → Ending
and_then (goes st) go = go st
and_then (returns trap) go = returns trap
and_then undefined go = undefined
and_then unfinished go = unfinished

abbrev pub known : {A : Type 0} → Option A → (A → Ending) → Ending
known (Some x) go = go x
known None go = undefined

-- 6.5.16p3: a temp, or an element, has the value; the other objects keep theirs
abbrev pub kept : Temps → ℕ → ℤ → Temps
kept temps k v j = if nat_eq j k then Some v else temps j

abbrev pub with_element : List ℕ → ℕ → ℤ → Binding → Binding
with_element name place v object =
    if bytes_eq object.name name then record object { words = slice_set object.words place v } else object

abbrev pub element_at : Temps → List ℕ → Option Binding → Option ℕ
element_at temps ks None = None
element_at temps ks (Some object) =
    some_then (place_in temps ks object.sizes 0) (λ place. if nat_lt place (length object.words) then Some place else None)

abbrev pub written : Store → List ℕ → List ℕ → ℤ → Option Store
written st x ks v =
    some_then (element_at st.temps ks (object_of st.objects x)) (λ place. Some (record st { objects = map (with_element x place v) st.objects }))

-- statements; a loop, of the lines before its test, the test, and the lines after it, does as given
unfoldable pub runs_by : (Lines → Test → Lines → Store → Ending) → Lines → Store → Ending
runs_by loop done st = goes st
runs_by loop (keep k e next) st = known (signed st e) (λ v. runs_by loop next (record st { temps = kept st.temps k v }))
runs_by loop (write x ks e next) st = known (signed st e) (λ v. known (written st x ks v) (runs_by loop next))
runs_by loop (stop_if c trap next) st = known (test st c) (λ t. (if t then (λ s. returns trap) else runs_by loop next) st)
runs_by loop (turn next) st = runs_by loop next (record st { turns = (st.turns + 1) % 2 ^ 64 })
runs_by loop (choose c a b next) st = known (test st c) (λ t. and_then ((if t then runs_by loop a else runs_by loop b) st) (runs_by loop next))
runs_by loop (forever before c after next) st = and_then (loop before c after st) (runs_by loop next)

-- 6.8.5p4, 6.8.6.3p2: a loop begins again until the break, with a number as the bound on its
-- rounds; one that passes the bound is unfinished
unfoldable pub loops_by : ℕ → Lines → Test → Lines → Store → Ending
loops_by zero before c after st = unfinished
loops_by (suc fuel) before c after st =
    and_then (runs_by (loops_by fuel) before st)
    (λ m. known (test m c) (λ t. (if t then (λ s. and_then (runs_by (loops_by fuel) after s) (loops_by fuel before c after)) else goes) m))
