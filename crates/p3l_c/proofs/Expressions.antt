-- The C of expressions: the lines before their use continue with their value, or return their trap.
use Rattle.std.proofs.Common.{◌≡◌, ℕ, ℤ, pos, negsuc, ◌+◌, ◌*◌, ◌^◌, ◌≤◌, ◌<◌, Bool, true, false, cond, List, [], ◌∷◌, length, Some, None, Result, Ok, Err, refl, sym, ap, ◌∙◌, subst, arith, ltb-true}
use Rattle.std.specs.Prelude.{FitsSigned, nat_lt, nat_le, int_lt, int_le, int_div, int_rem, ◌+ℤ◌, ◌-ℤ◌, ◌*ℤ◌, ◌&&◌, not, slice_get}
use Rattle.std.specs.List.{AllByRecursion}
use Rattle.std.specs.Ordering.{int_eq}
use Rattle.std.specs.Int.{w64, int_wrap, int_shl, int_shr, int_bit_and, int_bit_or, int_bit_xor}
use Rattle.std.proofs.lemmas.Int.{SFits-int_wrap}
use Rattle.std.proofs.lemmas.Bool.Decides.{nat_tests}
use Rattle.std.proofs.lemmas.Option.{slice_get-get_or}
use native.Mathlib.Nat.{add-mul, mul-le-mul, mul_assoc}
use Rattle.p3l_base.specs.declared.outcome.TrapKind.{TrapKind}
use Rattle.p3l_base.specs.declared.outcome.TrapKind.TheVariants.{Index, DivZero, DivOver, Shift}
use Rattle.p3l_ast.specs.declared.position.Spot.{Spot}
use Rattle.p3l_ast.specs.declared.expression.BinOp.{BinOp}
use Rattle.p3l_ast.specs.declared.expression.BinOp.TheVariants.{Or, And, BitOr, BitXor, BitAnd, Eq, Ne, Lt, Le, Gt, Ge, Shl, Shr, Add, Sub, Mul, Div, Rem}
use Rattle.p3l_ast.specs.declared.meaning.valuation.Valuation.{Valuation}
use Rattle.p3l_ast.specs.Tree as tree
use Rattle.p3l_ast.specs.Tree.{Phrase, read, unary, binary, Phrases, none, more}
use Rattle.p3l_ast.specs.Meaning.Operator.{holds, least, shifted, divided, unary_of}
use Rattle.p3l_ast.specs.Meaning.Operator as meaning
use Rattle.p3l_ast.specs.Meaning.Valuation.{sizes_of, word_of}
use Rattle.p3l_ast.specs.Meaning.Expression.{given, tested, combined, indexed, value_of, place_of}
use Rattle.p3l_types.specs.Shape.{product}
use Rattle.p3l_c.specs.Helper.{some_then, ranged}
use Rattle.p3l_c.specs.Syntax.{Signed, number, temp, element, quotient, remainder, truth, converted, moved_down, of, plus, minus, times, bits_and, bits_or, bits_xor, moved_up, Test, equal, differ, less, at_most, greater, at_least, either, both, Lines, done, keep, stop_if, choose}
use Rattle.p3l_c.specs.Machine.{Temps, Store, Ending, returns, and_then, kept, as_number, both_of, or_else, and_also, index_in, place_in, value_at, object_of, signed, unsigned, test, runs_by}
use Rattle.p3l_c.specs.Translate.{Shapes, sizes_at, test_of, next, next_all, spots, first_temp, after_operator, binary_value, around, value, before, before_all, zero_of, divisor_guards, places_guard, index_guard, operands, is_total, is_plain, is_steady, is_deep, after_operand, kept_next, kept_value, kept_lines}
use Rattle.p3l_c.specs.Condition.{count_of, Fits, FitsAll, shapes_of, IsObject, stored}
use Rattle.p3l_c.proofs.Helpers.{lt_true, lt_false, ranged_fits, ranged_natural, cast_fits}
use Rattle.p3l_c.proofs.Operators.{truth_fits, test_is, truth_value, unary_is, unary_fits, add_is, sub_is, mul_is, and_is, or_is, xor_is, equal_is, differ_are, less_is, at_most_is, greater_is, at_least_is, quotient_fits, remainder_fits, shr_fits, quotient_is, remainder_is, shl_is, moved_is}
use Rattle.p3l_c.proofs.Steps.{afterwards, afterwards_given, afterwards_same, Agree, agree_self, agree_then, kept_self, kept_other, agree_kept, Holds, Run, keep_runs, stop_runs, choose_runs}
use Rattle.p3l_c.proofs.Objects.{Found, found_in, sizes_found, word_found}

-- temps are used upwards
pub operator_le : (op : BinOp) (n : ℕ) → n ≤ after_operator op n
operator_le Shl n = omega arith
operator_le Shr n = omega arith
operator_le Div n = omega arith
operator_le Rem n = omega arith
operator_le op n = omega arith

pub first_le : (op : BinOp) (joined : Bool) (n : ℕ) → n ≤ first_temp op joined n
first_le Or false n = omega arith
first_le And false n = omega arith
first_le op joined n = omega arith

pub kept_le : (d : Bool) (m : ℕ) → m ≤ kept_next d m
kept_le true m = omega arith
kept_le false m = omega arith

mutual
  pub next_le : (n : ℕ) (e : Phrase) → n ≤ next n e
  next_le n (tree.number v) = omega arith
  next_le n (read x is) = next_all_le n is
  next_le n (unary op e) = let p = next_le n e in let k = kept_le (is_deep e) (next n e) in omega arith
  next_le n (binary op a b) =
      let f = first_temp op (is_steady b) n in
      let m = kept_next (is_deep a) (next f a) in
      let h = first_le op (is_steady b) n in
      let p = next_le f a in
      let k = kept_le (is_deep a) (next f a) in
      let q = next_le m b in
      let l = kept_le (is_deep b) (next m b) in
      let r = operator_le op (kept_next (is_deep b) (next m b)) in
      omega arith

  pub next_all_le : (n : ℕ) (is : Phrases) → n ≤ next_all n is
  next_all_le n none = omega arith
  next_all_le n (more e is) = let p = next_le n e in let q = next_all_le (next n e + 1) is in omega arith

-- no lines stand before the use of a plain expression
around_plain : (op : BinOp) (n m : ℕ) (left : Lines → Lines) (a : Signed) (right : Lines → Lines) (b : Signed) (rest : Lines) → is_total op ≡ true → around op true n m left a right b rest ≡ left (right rest)
around_plain Shl n m left a right b rest h = absurd cc
around_plain Shr n m left a right b rest h = absurd cc
around_plain Div n m left a right b rest h = absurd cc
around_plain Rem n m left a right b rest h = absurd cc
around_plain op n m left a right b rest h = refl

both_true : (p q : Bool) → p && q ≡ true → (p ≡ true) × (q ≡ true)
both_true true q h = (refl, h)
both_true false q h = absurd cc

not_true : (p : Bool) → not p ≡ true → p ≡ false
not_true true h = absurd cc
not_true false h = refl

-- an operand that is not deep is not kept
flat_before : (shapes : Shapes) (n : ℕ) (e : Phrase) (rest : Lines) → is_deep e ≡ false → before shapes n e (kept_lines (is_deep e) (next n e) (value n e) rest) ≡ before shapes n e rest
flat_before shapes n e rest k = ap (λ d. before shapes n e (kept_lines d (next n e) (value n e) rest)) k

plain_before : (shapes : Shapes) (n : ℕ) (e : Phrase) (rest : Lines) → is_plain e ≡ true → before shapes n e rest ≡ rest
unfolding is_plain
plain_before shapes n (tree.number v) rest h = refl
plain_before shapes n (read x none) rest h = refl
plain_before shapes n (read x (more e is)) rest h = absurd cc
plain_before shapes n (unary op e) rest h =
    let k = both_true (is_plain e) (not (is_deep e)) h in
    flat_before shapes n e rest (not_true _ k.1) ∙ plain_before shapes n e rest k.0
plain_before shapes n (binary op a b) rest h =
    let k = both_true (is_total op && is_steady a) (is_steady b) h in
    let l = both_true (is_total op) (is_steady a) k.0 in
    let p = both_true (is_plain a) (not (is_deep a)) l.1 in
    let q = both_true (is_plain b) (not (is_deep b)) k.1 in
    let f = first_temp op (is_steady b) n in
    let m = after_operand f a in
    let left = λ (rest : Lines). before shapes f a (kept_lines (is_deep a) (next f a) (value f a) rest) in
    let right = λ (rest : Lines). before shapes m b (kept_lines (is_deep b) (next m b) (value m b) rest) in
    let va = kept_value (is_deep a) (next f a) (value f a) in
    let vb = kept_value (is_deep b) (next m b) (value m b) in
    ap (λ joined. around op joined n (after_operand m b) left va right vb rest) k.1
    ∙ around_plain op n (after_operand m b) left va right vb rest l.0
    ∙ flat_before shapes f a (right rest) (not_true _ p.1)
    ∙ plain_before shapes f a (right rest) p.0
    ∙ flat_before shapes m b rest (not_true _ q.1)
    ∙ plain_before shapes m b rest q.0

steady_before : (shapes : Shapes) (n : ℕ) (e : Phrase) (rest : Lines) → is_steady e ≡ true → before shapes n e (kept_lines (is_deep e) (next n e) (value n e) rest) ≡ rest
steady_before shapes n e rest h =
    let k = both_true (is_plain e) (not (is_deep e)) h in
    flat_before shapes n e rest (not_true _ k.1) ∙ plain_before shapes n e rest k.0

-- a truth of the meaning is one of C
module _ (shapes : Shapes) (loop : Lines → Test → Lines → Store → Ending) (s : Valuation) where
  -- the lines before the use of an expression continue with its value, which holds as long as no
  -- temp below m changes; they change no temp below n
  abbrev pub Gets : ℕ → ℕ → (Lines → Lines) → Signed → Result ℤ TrapKind → Type 0
  Gets n m front e r =
      (rest : Lines) (t : Temps) (G : Store → Ending) (K : ℤ → Ending) →
      ((v : ℤ) (u : Temps) → FitsSigned w64 v → Agree n t u → Holds s u m e v → Run loop G rest (stored s u) ≡ K v) →
      Run loop G (front rest) (stored s t) ≡ afterwards r K

  -- an operand that may be kept in a temp
  kept_gets : (d : Bool) (n m : ℕ) (front : Lines → Lines) (a : Signed) (r : Result ℤ TrapKind) → n ≤ m → Gets n m front a r → Gets n (kept_next d m) (λ rest. front (kept_lines d m a rest)) (kept_value d m a) r
  unfolding signed unsigned test
  kept_gets false n m front a r le L rest t G K h = L rest t G K h
  kept_gets true n m front a r le L rest t G K h =
      L (keep m a rest) t G K
      (λ x u fx au hx.
      keep_runs loop G s u m a x rest (hx u (agree_self m u))
      ∙ h x (kept u m x) fx (agree_then n n t u (kept u m x) (let q : n ≤ n = omega arith in q) au (agree_kept n m u x le))
      (λ new an. an m (let q : m < m + 1 = omega arith in q) ∙ kept_self u m x))

  -- an operator that cannot trap
  plain_gets : (n m1 m : ℕ) (fl fr : Lines → Lines) (a b : Signed) (l r : Result ℤ TrapKind) (make : Signed → Signed → Signed) (op : ℤ → ℤ → ℤ) → n ≤ m1 → m1 ≤ m
      → ((st : Store) (a b : Signed) (x y : ℤ) → FitsSigned w64 x → FitsSigned w64 y → signed st a ≡ Some x → signed st b ≡ Some y → signed st (make a b) ≡ Some (op x y))
      → ((x y : ℤ) → FitsSigned w64 x → FitsSigned w64 y → FitsSigned w64 (op x y))
      → Gets n m1 fl a l → Gets m1 m fr b r → Gets n m (λ rest. fl (fr rest)) (make a b) (given l (λ x. given r (λ y. Ok (op x y))))
  plain_gets n m1 m fl fr a b l r make op le1 le2 is fit L R rest t G K h =
      L (fr rest) t G (λ x. afterwards (given r (λ y. Ok (op x y))) K)
      (λ x u fx au hx.
      R rest u G (λ y. K (op x y))
      (λ y w fy aw hy. h (op x y) w (fit x y fx fy) (agree_then n m1 t u w le1 au aw)
      (λ new an. is (stored s new) a b x y fx fy (hx new (agree_then m1 m u w new le2 aw an)) (hy new an)))
      ∙ afterwards_given r (λ y. Ok (op x y)) K)
      ∙ afterwards_given l (λ x. given r (λ y. Ok (op x y))) K

  -- both operands into temps
  operands_run : (n m1 m : ℕ) (fl fr : Lines → Lines) (a b : Signed) (l r : Result ℤ TrapKind) → n ≤ m1 → m1 ≤ m → Gets n m1 fl a l → Gets m1 m fr b r
      → (rest : Lines) (t : Temps) (G : Store → Ending) (K : ℤ → ℤ → Ending)
      → ((x y : ℤ) (u : Temps) → FitsSigned w64 x → FitsSigned w64 y → Agree n t u → u m ≡ Some x → u (m + 1) ≡ Some y → Run loop G rest (stored s u) ≡ K x y)
      → Run loop G (fl (fr (operands m a b rest))) (stored s t) ≡ afterwards l (λ x. afterwards r (K x))
  operands_run n m1 m fl fr a b l r le1 le2 L R rest t G K h =
      L (fr (operands m a b rest)) t G (λ x. afterwards r (K x))
      (λ x u fx au hx.
      R (operands m a b rest) u G (K x)
      (λ y w fy aw hy.
      let one = kept w m x in
      let two = kept one (m + 1) y in
      let le3 : m ≤ m + 1 = omega arith in
      keep_runs loop G s w m a x (keep (m + 1) b rest) (hx w (agree_then m1 m1 u w w (let q : m1 ≤ m1 = omega arith in q) aw (agree_self m1 w)))
      ∙ keep_runs loop G s one (m + 1) b y rest (hy one (agree_kept m m w x (let q : m ≤ m = omega arith in q)))
      ∙ h x y two fx fy
      (agree_then n m1 t u two le1 au (agree_then m1 m u w two le2 aw (agree_then m m w one two (let q : m ≤ m = omega arith in q) (agree_kept m m w x (let q : m ≤ m = omega arith in q)) (agree_kept m (m + 1) one y le3))))
      (kept_other one (m + 1) y m (let q : m < m + 1 = omega arith in q) ∙ kept_self w m x)
      (kept_self one (m + 1) y)))

  -- a temp is its value as long as the temps below m are the same
  temp_is : (u new : Temps) (m k : ℕ) (v : ℤ) → k < m → u k ≡ Some v → Agree m u new → signed (stored s new) (temp k) ≡ Some v
  unfolding signed unsigned test
  temp_is u new m k v lt h a = a k lt ∙ h

  -- the guards of a division
  zero_test : (u : Temps) (k : ℕ) (y : ℤ) → u k ≡ Some y → test (stored s u) (equal (temp k) zero_of) ≡ Some (int_eq y (pos 0))
  unfolding signed unsigned test
  zero_test u k y h = ap (λ o. both_of o (Some (pos 0)) (λ x y. Some (int_eq x y))) h

  over_test : (u : Temps) (m : ℕ) (x y : ℤ) → u m ≡ Some x → u (m + 1) ≡ Some y → test (stored s u) (both (equal (temp m) (number least)) (equal (temp (m + 1)) (number (negsuc 0)))) ≡ Some (int_eq x least && int_eq y (negsuc 0))
  unfolding signed unsigned test
  over_test u m x y h k =
      ap (λ o. and_also (both_of o (Some least) (λ x y. Some (int_eq x y))) (both_of (u (m + 1)) (Some (negsuc 0)) (λ x y. Some (int_eq x y)))) h
      ∙ ap (λ o. and_also (Some (int_eq x least)) (both_of o (Some (negsuc 0)) (λ x y. Some (int_eq x y)))) k
      ∙ by (int_eq x least) (int_eq y (negsuc 0))
    where
      by : (p q : Bool) → and_also (Some p) (Some q) ≡ Some (p && q)
      by true q = refl
      by false q = refl

  division_runs : (m : ℕ) (x y : ℤ) (u : Temps) (made : Signed) (give : ℤ → ℤ → ℤ) (rest : Lines) (G : Store → Ending) (K : ℤ → Ending) → u m ≡ Some x → u (m + 1) ≡ Some y
      → (int_eq y (pos 0) ≡ false → (int_eq x least && int_eq y (negsuc 0)) ≡ false → Run loop G rest (stored s u) ≡ K (give x y))
      → Run loop G (divisor_guards m rest) (stored s u) ≡ afterwards (divided x y (give x y)) K
  division_runs m x y u made give rest G K h k go =
      stop_runs loop G s u (equal (temp (m + 1)) zero_of) (int_eq y (pos 0)) DivZero (stop_if (both (equal (temp m) (number least)) (equal (temp (m + 1)) (number (negsuc 0)))) DivOver rest) (zero_test u (m + 1) y k)
      ∙ ap (cond (int_eq y (pos 0)) (returns DivZero)) (stop_runs loop G s u (both (equal (temp m) (number least)) (equal (temp (m + 1)) (number (negsuc 0)))) (int_eq x least && int_eq y (negsuc 0)) DivOver rest (over_test u m x y h k))
      ∙ by (int_eq y (pos 0)) (int_eq x least && int_eq y (negsuc 0)) refl refl
    where
      by : (p q : Bool) → int_eq y (pos 0) ≡ p → (int_eq x least && int_eq y (negsuc 0)) ≡ q
          → cond p (returns DivZero) (cond q (returns DivOver) (Run loop G rest (stored s u))) ≡ afterwards (cond p (Err DivZero) (cond q (Err DivOver) (Ok (give x y)))) K
      by true q e f = refl
      by false true e f = refl
      by false false e f = go e f

  -- the guard of a shift
  places_test : (u : Temps) (k : ℕ) (y : ℤ) → u k ≡ Some y → test (stored s u) (either (less (temp k) zero_of) (less (number (pos 63)) (temp k))) ≡ or_else (Some (int_lt y (pos 0))) (Some (int_lt (pos 63) y))
  unfolding signed unsigned test
  places_test u k y h = ap (λ o. or_else (both_of o (Some (pos 0)) (λ x y. Some (int_lt x y))) (both_of (Some (pos 63)) o (λ x y. Some (int_lt x y)))) h

  places_out : (k : ℕ) → or_else (Some (int_lt (pos k) (pos 0))) (Some (int_lt (pos 63) (pos k))) ≡ Some (not (nat_lt k 64))
  places_out k = ap (λ b. or_else (Some b) (Some (nat_lt 63 k))) (lt_false k 0 (omega arith)) ∙ by (nat_lt k 64) refl
    where
      by : (b : Bool) → nat_lt k 64 ≡ b → Some (nat_lt 63 k) ≡ Some (not b)
      by true e = ap Some (lt_false 63 k (let q : k < 64 = grind (arith, nat_tests) in omega arith))
      by false e = ap Some (lt_true 63 k (let q : 64 ≤ k = grind (arith, nat_tests) in omega arith))

  shift_runs : (m : ℕ) (y : ℤ) (u : Temps) (give : ℕ → ℤ) (rest : Lines) (G : Store → Ending) (K : ℤ → Ending) → u (m + 1) ≡ Some y
      → ((k : ℕ) → y ≡ pos k → k < 64 → Run loop G rest (stored s u) ≡ K (give k))
      → Run loop G (places_guard m rest) (stored s u) ≡ afterwards (shifted y give) K
  shift_runs m (negsuc j) u give rest G K h go =
      stop_runs loop G s u (either (less (temp (m + 1)) zero_of) (less (number (pos 63)) (temp (m + 1)))) true Shift rest (places_test u (m + 1) (negsuc j) h)
  shift_runs m (pos k) u give rest G K h go =
      stop_runs loop G s u (either (less (temp (m + 1)) zero_of) (less (number (pos 63)) (temp (m + 1)))) (not (nat_lt k 64)) Shift rest (places_test u (m + 1) (pos k) h ∙ places_out k)
      ∙ by (nat_lt k 64) refl
    where
      by : (b : Bool) → nat_lt k 64 ≡ b → cond (not b) (returns Shift) (Run loop G rest (stored s u)) ≡ afterwards (cond b (Ok (give k)) (Err Shift)) K
      by true e = go k refl (ltb-true k 64 e)
      by false e = refl

  divided_gets : (n m1 m : ℕ) (fl fr : Lines → Lines) (a b : Signed) (l r : Result ℤ TrapKind) (made : Signed) (give : ℤ → ℤ → ℤ) → n ≤ m1 → m1 ≤ m
      → ((st : Store) (x y : ℤ) → FitsSigned w64 x → signed st (temp m) ≡ Some x → signed st (temp (m + 1)) ≡ Some y → int_eq y (pos 0) ≡ false → (int_eq x least && int_eq y (negsuc 0)) ≡ false → signed st made ≡ Some (give x y))
      → ((x y : ℤ) → FitsSigned w64 x → (int_eq x least && int_eq y (negsuc 0)) ≡ false → FitsSigned w64 (give x y))
      → Gets n m1 fl a l → Gets m1 m fr b r → Gets n (m + 2) (λ rest. fl (fr (operands m a b (divisor_guards m rest)))) made (given l (λ x. given r (λ y. divided x y (give x y))))
  divided_gets n m1 m fl fr a b l r made give le1 le2 is fit L R rest t G K h =
      operands_run n m1 m fl fr a b l r le1 le2 L R (divisor_guards m rest) t G (λ x y. afterwards (divided x y (give x y)) K)
      (λ x y u fx fy au hx hy.
      division_runs m x y u made give rest G K hx hy
      (λ z o. h (give x y) u (fit x y fx o) au
      (λ new an. is (stored s new) x y fx (temp_is u new (m + 2) m x (omega arith) hx an) (temp_is u new (m + 2) (m + 1) y (omega arith) hy an) z o)))
      ∙ afterwards_same l (λ x. afterwards r (λ y. afterwards (divided x y (give x y)) K)) (λ x. afterwards (given r (λ y. divided x y (give x y))) K) (λ x. afterwards_given r (λ y. divided x y (give x y)) K)
      ∙ afterwards_given l (λ x. given r (λ y. divided x y (give x y))) K

  shifted_gets : (n m1 m : ℕ) (fl fr : Lines → Lines) (a b : Signed) (l r : Result ℤ TrapKind) (made : Signed) (give : ℤ → ℕ → ℤ) → n ≤ m1 → m1 ≤ m
      → ((st : Store) (x : ℤ) (k : ℕ) → FitsSigned w64 x → k < 64 → signed st (temp m) ≡ Some x → signed st (temp (m + 1)) ≡ Some (pos k) → signed st made ≡ Some (give x k))
      → ((x : ℤ) (k : ℕ) → FitsSigned w64 x → FitsSigned w64 (give x k))
      → Gets n m1 fl a l → Gets m1 m fr b r → Gets n (m + 2) (λ rest. fl (fr (operands m a b (places_guard m rest)))) made (given l (λ x. given r (λ y. shifted y (give x))))
  shifted_gets n m1 m fl fr a b l r made give le1 le2 is fit L R rest t G K h =
      operands_run n m1 m fl fr a b l r le1 le2 L R (places_guard m rest) t G (λ x y. afterwards (shifted y (give x)) K)
      (λ x y u fx fy au hx hy.
      shift_runs m y u (give x) rest G K hy
      (λ k e small. h (give x k) u (fit x k fx) au
      (λ new an. is (stored s new) x k fx small (temp_is u new (m + 2) m x (omega arith) hx an) (temp_is u new (m + 2) (m + 1) (pos k) (omega arith) (hy ∙ ap Some e) an))))
      ∙ afterwards_same l (λ x. afterwards r (λ y. afterwards (shifted y (give x)) K)) (λ x. afterwards (given r (λ y. shifted y (give x))) K) (λ x. afterwards_given r (λ y. shifted y (give x)) K)
      ∙ afterwards_given l (λ x. given r (λ y. shifted y (give x))) K

  -- a temp that was kept, as a condition
  kept_test : (u : Temps) (n : ℕ) (v : ℤ) → test (stored s (kept u n v)) (test_of (temp n)) ≡ Some (holds v)
  unfolding signed unsigned test
  kept_test u n v = test_is (stored s (kept u n v)) (temp n) v (kept_self u n v)

  truth_again : (b : Bool) → holds (as_number b) ≡ b
  truth_again true = refl
  truth_again false = refl

  -- `||` and `&&`: the right operand's lines are those of a way of an `if`
  last_runs : (n m1 m : ℕ) (fr : Lines → Lines) (b : Signed) (r : Result ℤ TrapKind) → n < m1 → m1 ≤ m → Gets m1 m fr b r
      → (rest : Lines) (t u : Temps) (G : Store → Ending) (K : ℤ → Ending) → Agree n t u
      → ((v : ℤ) (w : Temps) → FitsSigned w64 v → Agree n t w → Holds s w m (temp n) v → Run loop G rest (stored s w) ≡ K v)
      → and_then (runs_by loop (fr (keep n (truth (test_of b)) done)) (stored s u)) (λ st. Run loop G rest st) ≡ afterwards (given r tested) K
  unfolding signed unsigned test runs_by
  last_runs n m1 m fr b r lt le R rest t u G K au h =
      R (keep n (truth (test_of b)) done) u (λ st. Run loop G rest st) (λ y. K (meaning.truth (holds y)))
      (λ y w fy aw hy.
      let v = as_number (holds y) in
      let last = kept w n v in
      keep_runs loop (λ st. Run loop G rest st) s w n (truth (test_of b)) v done (truth_value (stored s w) (test_of b) (holds y) (test_is (stored s w) b y (hy w (agree_self m w))))
      ∙ h v last (truth_fits (holds y))
      (agree_then n n t u last (let q : n ≤ n = omega arith in q) au (agree_then n n u w last (let q : n ≤ n = omega arith in q) (λ k less_k. aw k (omega arith)) (agree_kept n n w v (let q : n ≤ n = omega arith in q))))
      (λ new an. an n (let q : n < m = omega arith in q) ∙ kept_self w n v))
      ∙ afterwards_given r tested K

  or_gets : (n m1 m : ℕ) (fl fr : Lines → Lines) (a b : Signed) (l r : Result ℤ TrapKind) → n < m1 → m1 ≤ m → Gets (n + 1) m1 fl a l → Gets m1 m fr b r
      → Gets n m (λ rest. fl (keep n (truth (test_of a)) (choose (test_of (temp n)) done (fr (keep n (truth (test_of b)) done)) rest))) (temp n) (combined Or l r)
  unfolding signed unsigned test runs_by
  or_gets n m1 m fl fr a b l r lt le L R rest t G K h =
      let one = fr (keep n (truth (test_of b)) done) in
      L (keep n (truth (test_of a)) (choose (test_of (temp n)) done one rest)) t G (λ x. afterwards (cond (holds x) (Ok (pos 1)) (given r tested)) K)
      (λ x u fx au hx.
      let v = as_number (holds x) in
      let last = kept u n v in
      let here : Agree n t last = agree_then n n t u last (let q : n ≤ n = omega arith in q) (λ k less_k. au k (omega arith)) (agree_kept n n u v (let q : n ≤ n = omega arith in q)) in
      let ways : (p : Bool) → holds x ≡ p → and_then (runs_by loop (cond p done one) (stored s last)) (λ st. Run loop G rest st) ≡ afterwards (cond p (Ok (pos 1)) (given r tested)) K =
      λ p. elim p as (λ p. holds x ≡ p → and_then (runs_by loop (cond p done one) (stored s last)) (λ st. Run loop G rest st) ≡ afterwards (cond p (Ok (pos 1)) (given r tested)) K) [
        | true ↦ λ e. h (pos 1) last (truth_fits true) here (λ new an. an n (let q : n < m = omega arith in q) ∙ kept_self u n v ∙ ap (λ t. Some (as_number t)) e)
        | false ↦ λ e. last_runs n m1 m fr b r lt le R rest t last G K here h
      ] in
      keep_runs loop G s u n (truth (test_of a)) v (choose (test_of (temp n)) done one rest) (truth_value (stored s u) (test_of a) (holds x) (test_is (stored s u) a x (hx u (agree_self m1 u))))
      ∙ choose_runs loop G s last (test_of (temp n)) (holds x) done one rest (kept_test u n v ∙ ap Some (truth_again (holds x)))
      ∙ ways (holds x) refl)
      ∙ afterwards_given l (λ x. cond (holds x) (Ok (pos 1)) (given r tested)) K

  and_gets : (n m1 m : ℕ) (fl fr : Lines → Lines) (a b : Signed) (l r : Result ℤ TrapKind) → n < m1 → m1 ≤ m → Gets (n + 1) m1 fl a l → Gets m1 m fr b r
      → Gets n m (λ rest. fl (keep n (truth (test_of a)) (choose (test_of (temp n)) (fr (keep n (truth (test_of b)) done)) done rest))) (temp n) (combined And l r)
  unfolding signed unsigned test runs_by
  and_gets n m1 m fl fr a b l r lt le L R rest t G K h =
      let one = fr (keep n (truth (test_of b)) done) in
      L (keep n (truth (test_of a)) (choose (test_of (temp n)) one done rest)) t G (λ x. afterwards (cond (holds x) (given r tested) (Ok (pos 0))) K)
      (λ x u fx au hx.
      let v = as_number (holds x) in
      let last = kept u n v in
      let here : Agree n t last = agree_then n n t u last (let q : n ≤ n = omega arith in q) (λ k less_k. au k (omega arith)) (agree_kept n n u v (let q : n ≤ n = omega arith in q)) in
      let ways : (p : Bool) → holds x ≡ p → and_then (runs_by loop (cond p one done) (stored s last)) (λ st. Run loop G rest st) ≡ afterwards (cond p (given r tested) (Ok (pos 0))) K =
      λ p. elim p as (λ p. holds x ≡ p → and_then (runs_by loop (cond p one done) (stored s last)) (λ st. Run loop G rest st) ≡ afterwards (cond p (given r tested) (Ok (pos 0))) K) [
        | true ↦ λ e. last_runs n m1 m fr b r lt le R rest t last G K here h
        | false ↦ λ e. h (pos 0) last (truth_fits false) here (λ new an. an n (let q : n < m = omega arith in q) ∙ kept_self u n v ∙ ap (λ t. Some (as_number t)) e)
      ] in
      keep_runs loop G s u n (truth (test_of a)) v (choose (test_of (temp n)) one done rest) (truth_value (stored s u) (test_of a) (holds x) (test_is (stored s u) a x (hx u (agree_self m1 u))))
      ∙ choose_runs loop G s last (test_of (temp n)) (holds x) one done rest (kept_test u n v ∙ ap Some (truth_again (holds x)))
      ∙ ways (holds x) refl)
      ∙ afterwards_given l (λ x. cond (holds x) (given r tested) (Ok (pos 0))) K

  -- C's own operators, with no lines before the right operand
  left_decides : (st : Store) (c d : Test) → test st c ≡ Some true → test st (either c d) ≡ Some true
  unfolding signed unsigned test
  left_decides st c d h = ap (λ o. or_else o (test st d)) h

  left_fails : (st : Store) (c d : Test) (q : Bool) → test st c ≡ Some false → test st d ≡ Some q → test st (either c d) ≡ Some q
  unfolding signed unsigned test
  left_fails st c d q h k = ap (λ o. or_else o (test st d)) h ∙ k

  left_denies : (st : Store) (c d : Test) → test st c ≡ Some false → test st (both c d) ≡ Some false
  unfolding signed unsigned test
  left_denies st c d h = ap (λ o. and_also o (test st d)) h

  left_holds : (st : Store) (c d : Test) (q : Bool) → test st c ≡ Some true → test st d ≡ Some q → test st (both c d) ≡ Some q
  unfolding signed unsigned test
  left_holds st c d q h k = ap (λ o. and_also o (test st d)) h ∙ k

  joined_or_gets : (n m1 m : ℕ) (fl fr : Lines → Lines) (a b : Signed) (l r : Result ℤ TrapKind) → n ≤ m1 → m1 ≤ m → ((rest : Lines) → fr rest ≡ rest) → Gets n m1 fl a l → Gets m1 m fr b r
      → Gets n m (λ rest. fl (fr rest)) (truth (either (test_of a) (test_of b))) (combined Or l r)
  joined_or_gets n m1 m fl fr a b l r le1 le2 still L R rest t G K h =
      L (fr rest) t G (λ x. afterwards (cond (holds x) (Ok (pos 1)) (given r tested)) K)
      (λ x u fx au hx.
      let ways : (p : Bool) → holds x ≡ p → Run loop G (fr rest) (stored s u) ≡ afterwards (cond p (Ok (pos 1)) (given r tested)) K =
      λ p. elim p as (λ p. holds x ≡ p → Run loop G (fr rest) (stored s u) ≡ afterwards (cond p (Ok (pos 1)) (given r tested)) K) [
        | true ↦ λ e.
            ap (λ c. Run loop G c (stored s u)) (still rest)
            ∙ h (pos 1) u (truth_fits true) au
            (λ new an. truth_value (stored s new) (either (test_of a) (test_of b)) true
            (left_decides (stored s new) (test_of a) (test_of b) (test_is (stored s new) a x (hx new (λ k less_k. an k (omega arith))) ∙ ap Some e)))
        | false ↦ λ e.
            R rest u G (λ y. K (meaning.truth (holds y)))
            (λ y w fy aw hy.
            h (as_number (holds y)) w (truth_fits (holds y)) (agree_then n m1 t u w le1 au aw)
            (λ new an. truth_value (stored s new) (either (test_of a) (test_of b)) (holds y)
            (left_fails (stored s new) (test_of a) (test_of b) (holds y) (test_is (stored s new) a x (hx new (agree_then m1 m u w new le2 aw an)) ∙ ap Some e) (test_is (stored s new) b y (hy new an)))))
            ∙ afterwards_given r tested K
      ] in
      ways (holds x) refl)
      ∙ afterwards_given l (λ x. cond (holds x) (Ok (pos 1)) (given r tested)) K

  joined_and_gets : (n m1 m : ℕ) (fl fr : Lines → Lines) (a b : Signed) (l r : Result ℤ TrapKind) → n ≤ m1 → m1 ≤ m → ((rest : Lines) → fr rest ≡ rest) → Gets n m1 fl a l → Gets m1 m fr b r
      → Gets n m (λ rest. fl (fr rest)) (truth (both (test_of a) (test_of b))) (combined And l r)
  joined_and_gets n m1 m fl fr a b l r le1 le2 still L R rest t G K h =
      L (fr rest) t G (λ x. afterwards (cond (holds x) (given r tested) (Ok (pos 0))) K)
      (λ x u fx au hx.
      let ways : (p : Bool) → holds x ≡ p → Run loop G (fr rest) (stored s u) ≡ afterwards (cond p (given r tested) (Ok (pos 0))) K =
      λ p. elim p as (λ p. holds x ≡ p → Run loop G (fr rest) (stored s u) ≡ afterwards (cond p (given r tested) (Ok (pos 0))) K) [
        | true ↦ λ e.
            R rest u G (λ y. K (meaning.truth (holds y)))
            (λ y w fy aw hy.
            h (as_number (holds y)) w (truth_fits (holds y)) (agree_then n m1 t u w le1 au aw)
            (λ new an. truth_value (stored s new) (both (test_of a) (test_of b)) (holds y)
            (left_holds (stored s new) (test_of a) (test_of b) (holds y) (test_is (stored s new) a x (hx new (agree_then m1 m u w new le2 aw an)) ∙ ap Some e) (test_is (stored s new) b y (hy new an)))))
            ∙ afterwards_given r tested K
        | false ↦ λ e.
            ap (λ c. Run loop G c (stored s u)) (still rest)
            ∙ h (pos 0) u (truth_fits false) au
            (λ new an. truth_value (stored s new) (both (test_of a) (test_of b)) false
            (left_denies (stored s new) (test_of a) (test_of b) (test_is (stored s new) a x (hx new (λ k less_k. an k (omega arith))) ∙ ap Some e)))
      ] in
      ways (holds x) refl)
      ∙ afterwards_given l (λ x. cond (holds x) (given r tested) (Ok (pos 0))) K

  -- all operators; before the right operand of one that is joined no lines stand
  binary_gets : (op : BinOp) (joined : Bool) (n m1 m : ℕ) (fl fr : Lines → Lines) (a b : Signed) (l r : Result ℤ TrapKind) → first_temp op joined n ≤ m1 → m1 ≤ m → (joined ≡ true → (rest : Lines) → fr rest ≡ rest)
      → Gets (first_temp op joined n) m1 fl a l → Gets m1 m fr b r
      → Gets n (after_operator op m) (around op joined n m fl a fr b) (binary_value op joined n m a b) (combined op l r)
  unfolding signed unsigned test
  binary_gets Or false n m1 m fl fr a b l r le1 le2 still L R = or_gets n m1 m fl fr a b l r (omega arith) le2 L R
  binary_gets Or true n m1 m fl fr a b l r le1 le2 still L R = joined_or_gets n m1 m fl fr a b l r le1 le2 (still refl) L R
  binary_gets And false n m1 m fl fr a b l r le1 le2 still L R = and_gets n m1 m fl fr a b l r (omega arith) le2 L R
  binary_gets And true n m1 m fl fr a b l r le1 le2 still L R = joined_and_gets n m1 m fl fr a b l r le1 le2 (still refl) L R
  binary_gets BitOr joined n m1 m fl fr a b l r le1 le2 still L R = plain_gets n m1 m fl fr a b l r (λ a b. converted (bits_or (of a) (of b))) (int_bit_or w64) le1 le2 or_is (λ x y f g. cast_fits _) L R
  binary_gets BitXor joined n m1 m fl fr a b l r le1 le2 still L R = plain_gets n m1 m fl fr a b l r (λ a b. converted (bits_xor (of a) (of b))) (int_bit_xor w64) le1 le2 xor_is (λ x y f g. cast_fits _) L R
  binary_gets BitAnd joined n m1 m fl fr a b l r le1 le2 still L R = plain_gets n m1 m fl fr a b l r (λ a b. converted (bits_and (of a) (of b))) (int_bit_and w64) le1 le2 and_is (λ x y f g. cast_fits _) L R
  binary_gets Eq joined n m1 m fl fr a b l r le1 le2 still L R = plain_gets n m1 m fl fr a b l r (λ a b. truth (equal a b)) (λ x y. as_number (int_eq x y)) le1 le2 equal_is (λ x y f g. truth_fits (int_eq x y)) L R
  binary_gets Ne joined n m1 m fl fr a b l r le1 le2 still L R = plain_gets n m1 m fl fr a b l r (λ a b. truth (differ a b)) (λ x y. as_number (not (int_eq x y))) le1 le2 differ_are (λ x y f g. truth_fits (not (int_eq x y))) L R
  binary_gets Lt joined n m1 m fl fr a b l r le1 le2 still L R = plain_gets n m1 m fl fr a b l r (λ a b. truth (less a b)) (λ x y. as_number (int_lt x y)) le1 le2 less_is (λ x y f g. truth_fits (int_lt x y)) L R
  binary_gets Le joined n m1 m fl fr a b l r le1 le2 still L R = plain_gets n m1 m fl fr a b l r (λ a b. truth (at_most a b)) (λ x y. as_number (int_le x y)) le1 le2 at_most_is (λ x y f g. truth_fits (int_le x y)) L R
  binary_gets Gt joined n m1 m fl fr a b l r le1 le2 still L R = plain_gets n m1 m fl fr a b l r (λ a b. truth (greater a b)) (λ x y. as_number (int_lt y x)) le1 le2 greater_is (λ x y f g. truth_fits (int_lt y x)) L R
  binary_gets Ge joined n m1 m fl fr a b l r le1 le2 still L R = plain_gets n m1 m fl fr a b l r (λ a b. truth (at_least a b)) (λ x y. as_number (int_le y x)) le1 le2 at_least_is (λ x y f g. truth_fits (int_le y x)) L R
  binary_gets Shl joined n m1 m fl fr a b l r le1 le2 still L R = shifted_gets n m1 m fl fr a b l r (converted (moved_up (of (temp m)) (temp (m + 1)))) (int_shl w64) le1 le2 (λ st x k f s h g. shl_is st (temp m) (temp (m + 1)) x k f s h g) (λ x k f. cast_fits _) L R
  binary_gets Shr joined n m1 m fl fr a b l r le1 le2 still L R = shifted_gets n m1 m fl fr a b l r (moved_down (temp m) (temp (m + 1))) int_shr le1 le2 (λ st x k f s h g. moved_is st (temp m) (temp (m + 1)) x k f s h g) shr_fits L R
  binary_gets Add joined n m1 m fl fr a b l r le1 le2 still L R = plain_gets n m1 m fl fr a b l r (λ a b. converted (plus (of a) (of b))) (λ x y. int_wrap w64 (x +ℤ y)) le1 le2 add_is (λ x y f g. SFits-int_wrap w64 (x +ℤ y)) L R
  binary_gets Sub joined n m1 m fl fr a b l r le1 le2 still L R = plain_gets n m1 m fl fr a b l r (λ a b. converted (minus (of a) (of b))) (λ x y. int_wrap w64 (x -ℤ y)) le1 le2 sub_is (λ x y f g. SFits-int_wrap w64 (x -ℤ y)) L R
  binary_gets Mul joined n m1 m fl fr a b l r le1 le2 still L R = plain_gets n m1 m fl fr a b l r (λ a b. converted (times (of a) (of b))) (λ x y. int_wrap w64 (x *ℤ y)) le1 le2 mul_is (λ x y f g. SFits-int_wrap w64 (x *ℤ y)) L R
  binary_gets Div joined n m1 m fl fr a b l r le1 le2 still L R = divided_gets n m1 m fl fr a b l r (quotient (temp m) (temp (m + 1))) int_div le1 le2 (λ st x y f h k z o. quotient_is st (temp m) (temp (m + 1)) x y f h k z o) (λ x y f o. quotient_fits x y f o) L R
  binary_gets Rem joined n m1 m fl fr a b l r le1 le2 still L R = divided_gets n m1 m fl fr a b l r (remainder (temp m) (temp (m + 1))) int_rem le1 le2 (λ st x y f h k z o. remainder_is st (temp m) (temp (m + 1)) x y f h k z o) (λ x y f o. remainder_fits x y f) L R

  -- the guard of an index
  index_test : (u : Temps) (k size : ℕ) (i : ℤ) → size < 2 ^ 63 → u k ≡ Some i → test (stored s u) (either (less (temp k) zero_of) (at_most (number (pos size)) (temp k))) ≡ or_else (Some (int_lt i (pos 0))) (Some (int_le (pos size) i))
  unfolding signed unsigned test
  index_test u k size i small h =
      ap (λ o. or_else (both_of o (Some (pos 0)) (λ x y. Some (int_lt x y))) (both_of (ranged (pos size)) o (λ x y. Some (int_le x y)))) h
      ∙ ap (λ o. or_else (Some (int_lt i (pos 0))) (both_of o (Some i) (λ x y. Some (int_le x y)))) (ranged_natural size small)

  index_out : (i size : ℕ) → or_else (Some (int_lt (pos i) (pos 0))) (Some (int_le (pos size) (pos i))) ≡ Some (not (nat_lt i size))
  index_out i size = ap (λ b. or_else (Some b) (Some (nat_le size i))) (lt_false i 0 (omega arith)) ∙ by (nat_lt i size) refl
    where
      by : (b : Bool) → nat_lt i size ≡ b → Some (nat_le size i) ≡ Some (not b)
      by true e = ap Some (let q : nat_le size i ≡ false = grind (arith, nat_tests) in q)
      by false e = ap Some (let q : nat_le size i ≡ true = grind (arith, nat_tests) in q)

  guard_runs : (k size place : ℕ) (sizes : List ℕ) (i : ℤ) (u : Temps) (go : List ℕ → ℕ → Result ℕ TrapKind) (rest : Lines) (G : Store → Ending) (K : ℕ → Ending) → size < 2 ^ 63 → u k ≡ Some i
      → ((j : ℕ) → i ≡ pos j → j < size → Run loop G rest (stored s u) ≡ afterwards (go sizes (place * size + j)) K)
      → Run loop G (index_guard k size rest) (stored s u) ≡ afterwards (indexed (size ∷ sizes) place go i) K
  guard_runs k size place sizes (negsuc j) u go rest G K small h next =
      stop_runs loop G s u (either (less (temp k) zero_of) (at_most (number (pos size)) (temp k))) true Index rest (index_test u k size (negsuc j) small h)
  guard_runs k size place sizes (pos j) u go rest G K small h next =
      stop_runs loop G s u (either (less (temp k) zero_of) (at_most (number (pos size)) (temp k))) (not (nat_lt j size)) Index rest (index_test u k size (pos j) small h ∙ index_out j size)
      ∙ by (nat_lt j size) refl
    where
      by : (b : Bool) → nat_lt j size ≡ b → cond (not b) (returns Index) (Run loop G rest (stored s u)) ≡ afterwards (cond b (go sizes (place * size + j)) (Err Index)) K
      by true e = next j refl (ltb-true j size e)
      by false e = refl

  -- an index in range widens no further than its dimension
  wider : (place size k w : ℕ) → k < size → (place * size + k + 1) * w ≤ (place + 1) * (size * w)
  wider place size k w h =
      let e : place * size + k + 1 ≤ (place + 1) * size = omega (arith, add-mul place 1 size) in
      let m : (place * size + k + 1) * w ≤ (place + 1) * size * w = mul-le-mul e (let r : w ≤ w = omega arith in r) in
      omega (arith, m, mul_assoc (place + 1) size w)

  -- the place that an index in a temp selects
  step_in : (new : Temps) (k : ℕ) (ks : List ℕ) (size : ℕ) (sizes : List ℕ) (place j : ℕ) → new k ≡ Some (pos j) → j < size → place_in new (k ∷ ks) (size ∷ sizes) place ≡ place_in new ks sizes (place * size + j)
  step_in new k ks size sizes place j h lt =
      ap (λ o. some_then o (λ v. some_then (index_in v size) (λ i. place_in new ks sizes (place * size + i)))) h
      ∙ ap (λ b. some_then (cond b (Some j) None) (λ i. place_in new ks sizes (place * size + i))) (lt_true j size lt)

  -- from indices on: the place that the temps select
  abbrev IndexGets : Phrases → Type 0
  IndexGets is =
      (n : ℕ) (sizes : List ℕ) (place : ℕ) → count_of is ≡ length sizes → AllByRecursion (λ size. size < 2 ^ 63) sizes
      → (rest : Lines) (t : Temps) (G : Store → Ending) (K : ℕ → Ending)
      → ((p : ℕ) (u : Temps) → p < (place + 1) * product sizes → Agree n t u
      → ((new : Temps) → Agree (next_all n is) u new → place_in new (spots n is) sizes place ≡ Some p) → Run loop G rest (stored s u) ≡ K p)
      → Run loop G (before_all shapes n sizes is rest) (stored s t) ≡ afterwards (place_of s is sizes place) K

  module _ (names : shapes_of s ≡ shapes) (objects : AllByRecursion IsObject s.bindings) where
    read_gets : (x : Spot) (is : Phrases) (n : ℕ) → Found (object_of s.bindings x.name) (sizes_at shapes x.name) (count_of is) → IndexGets is
        → Gets n (next_all n is) (before_all shapes n (sizes_at shapes x.name) is) (element x.name (spots n is)) (given (place_of s is (sizes_of s x.name) 0) (λ place. Ok (word_of s x.name place)))
    unfolding signed unsigned test
    read_gets x is n f index rest t G K h =
        let b = f.object in
        let sizes = sizes_at shapes x.name in
        let good = f.good in
        index n sizes 0 (f.count ∙ ap length f.same) (subst (λ l. AllByRecursion (λ size. size < 2 ^ 63) l) f.same good.sizes) rest t G
        (λ p. K (word_of s x.name p))
        (λ p u lt au selects.
        let inside : p < length b.words = (let e : product b.sizes ≡ product sizes = ap product f.same in omega (arith, lt, good.whole)) in
        let word = word_found s x.name b p f.is in
        h (word_of s x.name p) u (subst (λ v. FitsSigned w64 v) (sym word) (good.words p)) au
        (λ new an.
        ap (value_at new (spots n is)) f.is
        ∙ ap (λ l. some_then (place_in new (spots n is) l 0) (slice_get b.words)) f.same
        ∙ ap (λ o. some_then o (slice_get b.words)) (selects new an)
        ∙ slice_get-get_or b.words p (pos 0) inside
        ∙ ap Some (sym word)))
        ∙ afterwards_given (place_of s is sizes 0) (λ place. Ok (word_of s x.name place)) K
        ∙ ap (λ l. afterwards (given (place_of s is l 0) (λ place. Ok (word_of s x.name place))) K) (sym (sizes_found s x.name b f.is ∙ f.same))

    literal_is : (v : ℤ) (new : Temps) → FitsSigned w64 v → signed (stored s new) (number v) ≡ Some v
    unfolding signed unsigned test
    literal_is v new f = ranged_fits v f

    mutual
      unfolding value_of place_of

      pub phrase_gets : (e : Phrase) (n : ℕ) → Fits shapes e → Gets n (next n e) (before shapes n e) (value n e) (value_of s e)
      phrase_gets (tree.number v) n fits rest t G K h = h v t fits (agree_self n t) (λ new an. literal_is v new fits)
      phrase_gets (read x is) n fits rest t G K h =
          read_gets x is n (found_in s shapes x.name (count_of is) names objects fits.0) (index_gets is fits.1) rest t G K h
      phrase_gets (unary op e) n fits rest t G K h =
          let d = is_deep e in
          let m = next n e in
          kept_gets d n m (before shapes n e) (value n e) (value_of s e) (next_le n e) (phrase_gets e n fits) rest t G (λ x. K (unary_of op x))
          (λ x u fx au hx. h (unary_of op x) u (unary_fits op x) au (λ new an. unary_is (stored s new) op (kept_value d m (value n e)) x fx (hx new an)))
          ∙ afterwards_given (value_of s e) (λ x. Ok (unary_of op x)) K
      phrase_gets (binary op a b) n fits rest t G K h =
          let joined = is_steady b in
          let f = first_temp op joined n in
          let da = is_deep a in
          let db = is_deep b in
          let m1 = kept_next da (next f a) in
          let m = kept_next db (next m1 b) in
          let le1 : f ≤ m1 = (let p = next_le f a in let k = kept_le da (next f a) in omega arith) in
          let le2 : m1 ≤ m = (let p = next_le m1 b in let k = kept_le db (next m1 b) in omega arith) in
          binary_gets op joined n m1 m (λ rest. before shapes f a (kept_lines da (next f a) (value f a) rest)) (λ rest. before shapes m1 b (kept_lines db (next m1 b) (value m1 b) rest))
          (kept_value da (next f a) (value f a)) (kept_value db (next m1 b) (value m1 b)) (value_of s a) (value_of s b) le1 le2
          (λ e rest. steady_before shapes m1 b rest e)
          (kept_gets da f (next f a) (before shapes f a) (value f a) (value_of s a) (next_le f a) (phrase_gets a f fits.0))
          (kept_gets db m1 (next m1 b) (before shapes m1 b) (value m1 b) (value_of s b) (next_le m1 b) (phrase_gets b m1 fits.1)) rest t G K h

      pub index_gets : (is : Phrases) → FitsAll shapes is → IndexGets is
      index_gets none fits n [] place count small rest t G K h = h place t (omega arith) (agree_self n t) (λ new an. refl)
      index_gets none fits n (size ∷ sizes) place count small rest t G K h = absurd (omega arith)
      index_gets (more e is) fits n [] place count small rest t G K h = absurd (omega arith)
      index_gets (more e is) fits n (size ∷ sizes) place count small rest t G K h =
          let k = next n e in
          let le : n ≤ k = next_le n e in
          phrase_gets e n fits.0 (keep k (value n e) (index_guard k size (before_all shapes (k + 1) sizes is rest))) t G
          (λ i. afterwards (indexed (size ∷ sizes) place (place_of s is) i) K)
          (λ i u fi au hi.
          let one = kept u k i in
          keep_runs loop G s u k (value n e) i (index_guard k size (before_all shapes (k + 1) sizes is rest)) (hi u (agree_self k u))
          ∙ guard_runs k size place sizes i one (place_of s is) (before_all shapes (k + 1) sizes is rest) G K small.0 (kept_self u k i)
          (λ j is_j lt.
          index_gets is fits.1 (k + 1) sizes (place * size + j) (omega arith) small.1 rest one G K
          (λ p w below aw selects.
          h p w (let wide = wider place size j (product sizes) lt in omega (arith, below, wide))
          (agree_then n n t u w (let q : n ≤ n = omega arith in q) au (agree_then n k u one w le (agree_kept n k u i le) (λ q less_q. aw q (omega arith))))
          (λ new an.
          let here : new k ≡ Some (pos j) = an k (let q : k < next_all (k + 1) is = (let r = next_all_le (k + 1) is in omega arith) in q) ∙ aw k (let q : k < k + 1 = omega arith in q) ∙ kept_self u k i ∙ ap Some is_j in
          step_in new k (spots (k + 1) is) size sizes place j here lt ∙ selects new an))))
          ∙ afterwards_given (value_of s e) (indexed (size ∷ sizes) place (place_of s is)) K
