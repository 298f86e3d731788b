-- The machine on the code of an expression: it goes on at the end of the code, with the number on the stack, or traps.
use Rattle.std.proofs.Common.{add-mul, mul-le-mul, mul_assoc, ltb-true, ◌≡◌, ℕ, ℤ, pos, negsuc, ◌+◌, ◌*◌, ◌≤◌, ◌<◌, ◌^◌, ◌*ℤ◌, ◌+ℤ◌, Bool, true, false, cond, List, [], ◌∷◌, ◌++◌, length, drop, Option, Some, None, Result, Ok, Err, refl, sym, ap, ◌∙◌, subst, arith, length-append}
use Rattle.std.specs.Prelude.{slice_get, slice_index, nat_lt}
use Rattle.std.specs.List.{AllByRecursion}
use Rattle.std.specs.Int.{w64, int_wrap}
use Rattle.std.proofs.lemmas.Int.{int_wrap_fits, ints}
use Rattle.std.proofs.lemmas.Bool.Decides.{nat_tests}
use Rattle.p3l_base.specs.declared.outcome.TrapKind.{TrapKind}
use Rattle.p3l_base.specs.declared.outcome.TrapKind.TheVariants.{Index}
use Rattle.p3l_ast.specs.declared.expression.BinOp.{BinOp}
use Rattle.p3l_ast.specs.declared.expression.BinOp.TheVariants as operators
use Rattle.p3l_ast.specs.declared.position.Spot.{Spot}
use Rattle.p3l_ast.specs.Tree.{Phrase, number, read, unary, binary, Phrases, none, more}
use Rattle.p3l_ast.specs.Meaning.Operator.{truth, holds, unary_of, binary_of}
use Rattle.p3l_ast.specs.Meaning.Valuation.{sizes_of, word_of}
use Rattle.p3l_ast.specs.Meaning.Expression.{given, tested, combined, indexed, value_of, place_of}
use Rattle.p3l_code.specs.declared.instr.Instr.{Instr}
use Rattle.p3l_code.specs.declared.instr.Instr.TheVariants.{Push, Load, Step, LoadAt, Unary, Binary, Jump, JumpZero, JumpNonZero}
use Rattle.p3l_code.specs.declared.instr.Code.{Code}
use Rattle.p3l_code.specs.Machine.{Ending, present, after, index_of, machine, Unrolls}
use Rattle.p3l_compile.specs.declared.scope.Slot.{Slot}
use Rattle.p3l_compile.specs.Scope.{Names, found, constant_of, valuation_of, IsLaid}
use Rattle.p3l_compile.specs.Phrase.{operator_size, read_size, phrase_size, index_size, scalar_code, sizes_in, element_code, read_code, operator_code, phrase_code, first_code, index_code, count_of, IsAccess, Fits, FitsAll}
use Rattle.p3l_compile.proofs.Steps.{HasAt, has_front, has_back, step, after_given, after_same}
use Rattle.p3l_compile.proofs.Scopes.{sizes_found, word_none, lies_within, word_found}
use Rattle.p3l_types.specs.Shape.{product}

-- there is one index
abbrev pub IsSingle : Phrases → Type 0
IsSingle none = ⊥
IsSingle (more e none) = Unit {0}
IsSingle (more e (more f is)) = ⊥

-- the code of an operator has its operands' lengths and the operator's size
operator_length : (op : BinOp) (pc m n : ℕ) (left : List Instr) (right : ℕ → List Instr) → length left ≡ m → ((p : ℕ) → length (right p) ≡ n) → length (operator_code op pc left m right n) ≡ m + n + operator_size op
operator_length operators.Or pc m n left right h k =
    let r = k (pc + m + 1) in
    omega (arith, length-append left (JumpNonZero (pc + m + n + 4) ∷ (right (pc + m + 1) ++ (Push (pos 0) ∷ Binary operators.Ne ∷ Jump (pc + m + n + 5) ∷ Push (pos 1) ∷ []))), length-append (right (pc + m + 1)) (Push (pos 0) ∷ Binary operators.Ne ∷ Jump (pc + m + n + 5) ∷ Push (pos 1) ∷ []))
operator_length operators.And pc m n left right h k =
    let r = k (pc + m + 1) in
    omega (arith, length-append left (JumpZero (pc + m + n + 4) ∷ (right (pc + m + 1) ++ (Push (pos 0) ∷ Binary operators.Ne ∷ Jump (pc + m + n + 5) ∷ Push (pos 0) ∷ []))), length-append (right (pc + m + 1)) (Push (pos 0) ∷ Binary operators.Ne ∷ Jump (pc + m + n + 5) ∷ Push (pos 0) ∷ []))
operator_length op pc m n left right h k =
    let r = k (pc + m) in
    omega (arith, length-append left (right (pc + m) ++ Binary op ∷ []), length-append (right (pc + m)) (Binary op ∷ []))

read_length : (slot : Option Slot) (v : ℤ) (is : Phrases) (first index : List Instr) (n : ℕ) → length index ≡ n → (IsSingle is → length first + 1 ≡ n) → length (read_code slot v is first index) ≡ read_size is n
read_length slot v none first index n h one = refl
read_length slot v (more e none) first index n h one = omega (arith, length-append first (element_code slot ∷ []), one tt)
read_length slot v (more e (more f is)) first index n h one = omega (arith, length-append index (element_code slot ∷ []))

mutual
  pub phrase_length : (scope : Names) (pc : ℕ) (e : Phrase) → length (phrase_code scope pc e) ≡ phrase_size e
  phrase_length scope pc (number v) = refl
  phrase_length scope pc (read x is) =
      read_length (found scope x.name) (constant_of scope x.name) is (first_code scope pc is) (index_code scope (pc + 1) (sizes_in (found scope x.name)) is) (index_size is) (index_length scope (pc + 1) (sizes_in (found scope x.name)) is) (first_length scope pc is)
  phrase_length scope pc (unary op e) = let h = phrase_length scope pc e in omega (arith, length-append (phrase_code scope pc e) (Unary op ∷ []))
  phrase_length scope pc (binary op a b) =
      operator_length op pc (phrase_size a) (phrase_size b) (phrase_code scope pc a) (λ p. phrase_code scope p b) (phrase_length scope pc a) (λ p. phrase_length scope p b)

  pub first_length : (scope : Names) (pc : ℕ) (is : Phrases) → IsSingle is → length (first_code scope pc is) + 1 ≡ index_size is
  first_length scope pc none one = absurd one
  first_length scope pc (more e none) one = let h = phrase_length scope pc e in omega arith
  first_length scope pc (more e (more f is)) one = absurd one

  pub index_length : (scope : Names) (pc : ℕ) (sizes : List ℕ) (is : Phrases) → length (index_code scope pc sizes is) ≡ index_size is
  index_length scope pc sizes none = refl
  index_length scope pc sizes (more e is) =
      let h = phrase_length scope pc e in
      let k = index_length scope (pc + phrase_size e + 1) (drop 1 sizes) is in
      let rest = Step (slice_index sizes 0) ∷ index_code scope (pc + phrase_size e + 1) (drop 1 sizes) is in
      omega (arith, length-append (phrase_code scope pc e) rest)

module _ (code : Code) (unrolls : Unrolls code) where
  -- from a place on the machine goes on at the end with the number on the stack, or traps
  abbrev pub Pushes : ℕ → ℕ → List ℤ → List ℤ → ℕ → Result ℤ TrapKind → Type 0
  Pushes pc end stack memory turns r =
      (K : ℤ → Ending) → ((v : ℤ) → machine code end (v ∷ stack) memory turns ≡ K v) → machine code pc stack memory turns ≡ after r K

  at : (p q : ℕ) (stack memory : List ℤ) (turns : ℕ) → p ≡ q → machine code p stack memory turns ≡ machine code q stack memory turns
  at p q stack memory turns e = ap (λ n. machine code n stack memory turns) e

  -- both operands, and the operator
  plain_runs : (op : BinOp) (pc m n : ℕ) (left right : List Instr) (stack memory : List ℤ) (turns : ℕ) (l r : Result ℤ TrapKind) → HasAt code pc (left ++ (right ++ Binary op ∷ [])) → length left ≡ m → length right ≡ n → (HasAt code pc left → Pushes pc (pc + m) stack memory turns l) → ((x : ℤ) → HasAt code (pc + m) right → Pushes (pc + m) (pc + m + n) (x ∷ stack) memory turns r) → Pushes pc (pc + (m + n + 1)) stack memory turns (given l (λ x. given r (binary_of op x)))
  plain_runs op pc m n left right stack memory turns l r has lm ln L R K h =
      let tail = has_back code pc m left (right ++ Binary op ∷ []) lm has in
      let here = (has_back code (pc + m) n right (Binary op ∷ []) ln tail).0 in
      let place : pc + m + n + 1 ≡ pc + (m + n + 1) = omega arith in
      L (has_front code pc left _ has) (λ x. after (given r (binary_of op x)) K)
      (λ x. R x (has_front code (pc + m) right _ tail) (λ y. after (binary_of op x y) K)
      (λ y. step code unrolls (pc + m + n) (y ∷ x ∷ stack) memory turns (Binary op) here
      ∙ after_same (binary_of op x y) (λ v. machine code (pc + m + n + 1) (v ∷ stack) memory turns) K
      (λ v. at (pc + m + n + 1) (pc + (m + n + 1)) (v ∷ stack) memory turns place ∙ h v))
      ∙ after_given r (binary_of op x) K)
      ∙ after_given l (λ x. given r (binary_of op x)) K

  -- the right operand's truth, and the jump past the other way
  tested_runs : (p n : ℕ) (other : ℤ) (right : List Instr) (stack memory : List ℤ) (turns : ℕ) (r : Result ℤ TrapKind) → HasAt code p (right ++ (Push (pos 0) ∷ Binary operators.Ne ∷ Jump (p + n + 4) ∷ Push other ∷ [])) → length right ≡ n → (HasAt code p right → Pushes p (p + n) stack memory turns r) → Pushes p (p + n + 4) stack memory turns (given r tested)
  tested_runs p n other right stack memory turns r has ln R K h =
      let tail = has_back code p n right (Push (pos 0) ∷ Binary operators.Ne ∷ Jump (p + n + 4) ∷ Push other ∷ []) ln has in
      R (has_front code p right _ has) (λ y. K (truth (holds y)))
      (λ y. step code unrolls (p + n) (y ∷ stack) memory turns (Push (pos 0)) tail.0
      ∙ (step code unrolls (p + n + 1) (pos 0 ∷ y ∷ stack) memory turns (Binary operators.Ne) tail.1.0
      ∙ (step code unrolls (p + n + 1 + 1) (truth (holds y) ∷ stack) memory turns (Jump (p + n + 4)) tail.1.1.0
      ∙ h (truth (holds y)))))
      ∙ after_given r tested K

  or_runs : (pc m n : ℕ) (left : List Instr) (right : ℕ → List Instr) (stack memory : List ℤ) (turns : ℕ) (l r : Result ℤ TrapKind) → HasAt code pc (operator_code operators.Or pc left m right n) → length left ≡ m → ((p : ℕ) → length (right p) ≡ n) → (HasAt code pc left → Pushes pc (pc + m) stack memory turns l) → ((p : ℕ) (s : List ℤ) → HasAt code p (right p) → Pushes p (p + n) s memory turns r) → Pushes pc (pc + (m + n + 5)) stack memory turns (combined operators.Or l r)
  or_runs pc m n left right stack memory turns l r has lm ln L R K h =
      let p = pc + m + 1 in
      let other = Push (pos 0) ∷ Binary operators.Ne ∷ Jump (pc + m + n + 5) ∷ Push (pos 1) ∷ [] in
      let tail = has_back code pc m left (JumpNonZero (pc + m + n + 4) ∷ (right p ++ other)) lm has in
      let jump : pc + m + n + 5 ≡ p + n + 4 = omega arith in
      let last : pc + m + 1 + n + 1 + 1 + 1 ≡ pc + m + n + 4 = omega arith in
      let end : p + n + 4 ≡ pc + (m + n + 5) = omega arith in
      let end' : pc + m + n + 4 + 1 ≡ pc + (m + n + 5) = omega arith in
      let back = has_back code p n (right p) other (ln p) tail.1 in
      let pushed : slice_get code.instrs (pc + m + n + 4) ≡ Some (Push (pos 1)) = subst (λ k. slice_get code.instrs k ≡ Some (Push (pos 1))) last back.1.1.1.0 in
      let has' : HasAt code p (right p ++ (Push (pos 0) ∷ Binary operators.Ne ∷ Jump (p + n + 4) ∷ Push (pos 1) ∷ [])) = subst (λ k. HasAt code p (right p ++ (Push (pos 0) ∷ Binary operators.Ne ∷ Jump k ∷ Push (pos 1) ∷ []))) jump tail.1 in
      let by : (b : Bool) → machine code (cond b (pc + m + n + 4) (pc + m + 1)) stack memory turns ≡ after (cond b (Ok (pos 1)) (given r tested)) K =
      λ b. elim b as (λ b. machine code (cond b (pc + m + n + 4) (pc + m + 1)) stack memory turns ≡ after (cond b (Ok (pos 1)) (given r tested)) K) [
        | true ↦ step code unrolls (pc + m + n + 4) stack memory turns (Push (pos 1)) pushed ∙ (at (pc + m + n + 4 + 1) (pc + (m + n + 5)) (pos 1 ∷ stack) memory turns end' ∙ h (pos 1))
        | false ↦ tested_runs p n (pos 1) (right p) stack memory turns r has' (ln p) (R p stack) K (λ v. at (p + n + 4) (pc + (m + n + 5)) (v ∷ stack) memory turns end ∙ h v)
      ] in
      L (has_front code pc left _ has) (λ x. after (cond (holds x) (Ok (pos 1)) (given r tested)) K)
      (λ x. step code unrolls (pc + m) (x ∷ stack) memory turns (JumpNonZero (pc + m + n + 4)) tail.0 ∙ by (holds x))
      ∙ after_given l (λ x. cond (holds x) (Ok (pos 1)) (given r tested)) K

  and_runs : (pc m n : ℕ) (left : List Instr) (right : ℕ → List Instr) (stack memory : List ℤ) (turns : ℕ) (l r : Result ℤ TrapKind) → HasAt code pc (operator_code operators.And pc left m right n) → length left ≡ m → ((p : ℕ) → length (right p) ≡ n) → (HasAt code pc left → Pushes pc (pc + m) stack memory turns l) → ((p : ℕ) (s : List ℤ) → HasAt code p (right p) → Pushes p (p + n) s memory turns r) → Pushes pc (pc + (m + n + 5)) stack memory turns (combined operators.And l r)
  and_runs pc m n left right stack memory turns l r has lm ln L R K h =
      let p = pc + m + 1 in
      let other = Push (pos 0) ∷ Binary operators.Ne ∷ Jump (pc + m + n + 5) ∷ Push (pos 0) ∷ [] in
      let tail = has_back code pc m left (JumpZero (pc + m + n + 4) ∷ (right p ++ other)) lm has in
      let jump : pc + m + n + 5 ≡ p + n + 4 = omega arith in
      let last : pc + m + 1 + n + 1 + 1 + 1 ≡ pc + m + n + 4 = omega arith in
      let end : p + n + 4 ≡ pc + (m + n + 5) = omega arith in
      let end' : pc + m + n + 4 + 1 ≡ pc + (m + n + 5) = omega arith in
      let back = has_back code p n (right p) other (ln p) tail.1 in
      let pushed : slice_get code.instrs (pc + m + n + 4) ≡ Some (Push (pos 0)) = subst (λ k. slice_get code.instrs k ≡ Some (Push (pos 0))) last back.1.1.1.0 in
      let has' : HasAt code p (right p ++ (Push (pos 0) ∷ Binary operators.Ne ∷ Jump (p + n + 4) ∷ Push (pos 0) ∷ [])) = subst (λ k. HasAt code p (right p ++ (Push (pos 0) ∷ Binary operators.Ne ∷ Jump k ∷ Push (pos 0) ∷ []))) jump tail.1 in
      let by : (b : Bool) → machine code (cond b (pc + m + 1) (pc + m + n + 4)) stack memory turns ≡ after (cond b (given r tested) (Ok (pos 0))) K =
      λ b. elim b as (λ b. machine code (cond b (pc + m + 1) (pc + m + n + 4)) stack memory turns ≡ after (cond b (given r tested) (Ok (pos 0))) K) [
        | false ↦ step code unrolls (pc + m + n + 4) stack memory turns (Push (pos 0)) pushed ∙ (at (pc + m + n + 4 + 1) (pc + (m + n + 5)) (pos 0 ∷ stack) memory turns end' ∙ h (pos 0))
        | true ↦ tested_runs p n (pos 0) (right p) stack memory turns r has' (ln p) (R p stack) K (λ v. at (p + n + 4) (pc + (m + n + 5)) (v ∷ stack) memory turns end ∙ h v)
      ] in
      L (has_front code pc left _ has) (λ x. after (cond (holds x) (given r tested) (Ok (pos 0))) K)
      (λ x. step code unrolls (pc + m) (x ∷ stack) memory turns (JumpZero (pc + m + n + 4)) tail.0 ∙ by (holds x))
      ∙ after_given l (λ x. cond (holds x) (given r tested) (Ok (pos 0))) K

  operator_runs : (op : BinOp) (pc m n : ℕ) (left : List Instr) (right : ℕ → List Instr) (stack memory : List ℤ) (turns : ℕ) (l r : Result ℤ TrapKind) → HasAt code pc (operator_code op pc left m right n) → length left ≡ m → ((p : ℕ) → length (right p) ≡ n) → (HasAt code pc left → Pushes pc (pc + m) stack memory turns l) → ((p : ℕ) (s : List ℤ) → HasAt code p (right p) → Pushes p (p + n) s memory turns r) → Pushes pc (pc + (m + n + operator_size op)) stack memory turns (combined op l r)
  operator_runs operators.Or pc m n left right stack memory turns l r has lm ln L R = or_runs pc m n left right stack memory turns l r has lm ln L R
  operator_runs operators.And pc m n left right stack memory turns l r has lm ln L R = and_runs pc m n left right stack memory turns l r has lm ln L R
  operator_runs op pc m n left right stack memory turns l r has lm ln L R =
      plain_runs op pc m n left (right (pc + m)) stack memory turns l r has lm (ln (pc + m)) L (λ x. R (pc + m) (x ∷ stack))

-- an index in range widens no further than its dimension
wider : (place size k w : ℕ) → k < size → (place * size + k + 1) * w ≤ (place + 1) * (size * w)
wider place size k w h =
    let e : place * size + k + 1 ≤ (place + 1) * size = omega (arith, add-mul place 1 size) in
    let m : (place * size + k + 1) * w ≤ (place + 1) * size * w = mul-le-mul e (let r : w ≤ w = omega arith in r) in
    omega (arith, m, mul_assoc (place + 1) size w)

pub some_words : (sizes : List ℕ) → AllByRecursion (λ n. 1 ≤ n) sizes → 1 ≤ product sizes
some_words [] h = omega arith
some_words (size ∷ sizes) h =
    let k = some_words sizes h.1 in
    let m : 1 * 1 ≤ size * product sizes = mul-le-mul h.0 k in omega (arith, m)

wrap_small : (n : ℕ) → n < 2 ^ 63 → int_wrap w64 (pos n) ≡ pos n
wrap_small n h = int_wrap_fits w64 (pos n) (omega (arith, ints))

-- an index that is tested goes on below its size
index_given : (size place : ℕ) (sizes : List ℕ) (i : ℤ) (go : List ℕ → ℕ → Result ℕ TrapKind) (f : ℕ → Ending) (K : ℕ → Ending) → ((k : ℕ) → k < size → f k ≡ after (go sizes (place * size + k)) K) → after (index_of size i) f ≡ after (indexed (size ∷ sizes) place go i) K
index_given size place sizes (negsuc i) go f K h = refl
index_given size place sizes (pos i) go f K h = by (nat_lt i size) refl
  where
    by : (b : Bool) → nat_lt i size ≡ b → after (cond b (Ok i) (Err Index)) f ≡ after (cond b (go sizes (place * size + i)) (Err Index)) K
    by true e = h i (ltb-true i size e)
    by false e = refl

pub below_size : (i size : ℕ) → i < size → index_of size (pos i) ≡ Ok i
below_size i size h = by (nat_lt i size) refl
  where
    by : (b : Bool) → nat_lt i size ≡ b → cond b (Ok i) (Err Index) ≡ Ok i
    by true e = refl
    by false e = absurd (grind (arith, nat_tests))

module _ (code : Code) (unrolls : Unrolls code) (scope : Names) (size : ℕ) (laid : IsLaid scope size) (memory : List ℤ) (turns : ℕ) (whole : length memory ≡ size) where
  -- a scalar or a constant
  scalar_runs : (x : List ℕ) (pc : ℕ) (stack : List ℤ) (o : Option Slot) → found scope x ≡ o → slice_get code.instrs pc ≡ Some (scalar_code o (constant_of scope x)) → IsAccess o 0 → machine code pc stack memory turns ≡ machine code (pc + 1) (word_of (valuation_of scope memory turns) x 0 ∷ stack) memory turns
  scalar_runs x pc stack None f at a =
      step code unrolls pc stack memory turns (Push (constant_of scope x)) at
      ∙ ap (λ v. machine code (pc + 1) (v ∷ stack) memory turns) (sym (word_none scope memory turns x f))
  scalar_runs x pc stack (Some slot) f at a =
      let l = lies_within scope size x slot laid f in
      let w = some_words slot.sizes l.sizes in
      let inside : slot.base + 0 < length memory = omega (arith, l.below, l.words, w) in
      let word = word_found scope memory turns x slot 0 f inside (omega (arith, l.words, w)) in
      let zero_more : slot.base + 0 ≡ slot.base = omega arith in
      let word' : slice_get memory slot.base ≡ Some (word_of (valuation_of scope memory turns) x 0) = subst (λ k. slice_get memory k ≡ Some (word_of (valuation_of scope memory turns) x 0)) zero_more word in
      step code unrolls pc stack memory turns (Load slot.base) at
      ∙ ap (λ o. present o (λ v. machine code (pc + 1) (v ∷ stack) memory turns)) word'

  -- an element
  element_runs : (x : List ℕ) (slot : Slot) (pc place : ℕ) (stack : List ℤ) → found scope x ≡ Some slot → slice_get code.instrs pc ≡ Some (LoadAt slot.base slot.words) → place < slot.words → machine code pc (pos place ∷ stack) memory turns ≡ machine code (pc + 1) (word_of (valuation_of scope memory turns) x place ∷ stack) memory turns
  element_runs x slot pc place stack f at h =
      let l = lies_within scope size x slot laid f in
      let inside : slot.base + place < length memory = omega (arith, l.below) in
      step code unrolls pc (pos place ∷ stack) memory turns (LoadAt slot.base slot.words) at
      ∙ ap (λ r. after r (λ k. present (slice_get memory (slot.base + k)) (λ v. machine code (pc + 1) (v ∷ stack) memory turns))) (below_size place slot.words h)
      ∙ ap (λ o. present o (λ v. machine code (pc + 1) (v ∷ stack) memory turns)) (word_found scope memory turns x slot place f inside h)

  -- from a place on the machine goes on after the indices with the place of the element on the stack, or traps
  abbrev Indexes : Phrases → Type 0
  Indexes is =
      (pc : ℕ) (sizes : List ℕ) (place : ℕ) (stack : List ℤ) → HasAt code pc (index_code scope pc sizes is) → FitsAll scope is → count_of is ≡ length sizes → AllByRecursion (λ n. 1 ≤ n) sizes → (place + 1) * product sizes ≤ 65536 → (K : ℕ → Ending) → ((p : ℕ) → p < (place + 1) * product sizes → machine code (pc + index_size is) (pos p ∷ stack) memory turns ≡ K p) → machine code pc (pos place ∷ stack) memory turns ≡ after (place_of (valuation_of scope memory turns) is sizes place) K

  -- the same of the first index alone: its number is on the stack
  abbrev First : Phrases → Type 0
  First none = Unit {0}
  First (more e is) =
      (pc : ℕ) (stack : List ℤ) → HasAt code pc (phrase_code scope pc e) → Fits scope e → Pushes code unrolls pc (pc + phrase_size e) stack memory turns (value_of (valuation_of scope memory turns) e)

  -- an element of an array of one size is tested where it is read
  one_runs : (x : List ℕ) (e : Phrase) (slot : Slot) (n pc : ℕ) (stack : List ℤ) → found scope x ≡ Some slot → slot.sizes ≡ n ∷ [] → First (more e none) →
      HasAt code pc (phrase_code scope pc e ++ LoadAt slot.base slot.words ∷ []) → Fits scope e →
      Pushes code unrolls pc (pc + (phrase_size e + 1 + 0)) stack memory turns (given (place_of (valuation_of scope memory turns) (more e none) (n ∷ []) 0) (λ place. Ok (word_of (valuation_of scope memory turns) x place)))
  unfolding place_of
  one_runs x e slot n pc stack f sized first has fits K h =
      let s = valuation_of scope memory turns in
      let m = phrase_size e in
      let l = lies_within scope size x slot laid f in
      let words : slot.words ≡ n = let p = ap product sized in omega (arith, l.words, p) in
      let last = (has_back code pc m (phrase_code scope pc e) (LoadAt slot.base slot.words ∷ []) (phrase_length scope pc e) has).0 in
      let end : pc + m + 1 ≡ pc + (m + 1 + 0) = omega arith in
      let go = λ (k : ℕ). present (slice_get memory (slot.base + k)) (λ v. machine code (pc + m + 1) (v ∷ stack) memory turns) in
      let K' : ℕ → Ending = λ p. K (word_of s x p) in
      let word : (k : ℕ) → k < n → go k ≡ K' (0 * n + k) =
      λ k lt. let inside : slot.base + k < length memory = omega (arith, l.below, words) in
      let same : k ≡ 0 * n + k = omega arith in
      ap (λ o. present o (λ v. machine code (pc + m + 1) (v ∷ stack) memory turns)) (word_found scope memory turns x slot k f inside (omega (arith, words)))
      ∙ (ap (λ q. machine code q (word_of s x k ∷ stack) memory turns) end ∙ (h (word_of s x k) ∙ ap K' same)) in
      first pc stack (has_front code pc (phrase_code scope pc e) (LoadAt slot.base slot.words ∷ []) has) fits
      (λ i. after (indexed (n ∷ []) 0 (place_of s none) i) K')
      (λ i. step code unrolls (pc + m) (i ∷ stack) memory turns (LoadAt slot.base slot.words) last
      ∙ (ap (λ w. after (index_of w i) go) words ∙ index_given n 0 [] i (place_of s none) go K' word))
      ∙ after_given (value_of s e) (indexed (n ∷ []) 0 (place_of s none)) K'
      ∙ after_given (place_of s (more e none) (n ∷ []) 0) (λ p. Ok (word_of s x p)) K

  read_runs : (x : Spot) (is : Phrases) → First is → Indexes is → (pc : ℕ) (stack : List ℤ) (o : Option Slot) → found scope x.name ≡ o → HasAt code pc (read_code o (constant_of scope x.name) is (first_code scope pc is) (index_code scope (pc + 1) (sizes_in o) is)) → IsAccess o (count_of is) → FitsAll scope is → Pushes code unrolls pc (pc + read_size is (index_size is)) stack memory turns (given (place_of (valuation_of scope memory turns) is (sizes_of (valuation_of scope memory turns) x.name) 0) (λ place. Ok (word_of (valuation_of scope memory turns) x.name place)))
  unfolding place_of
  read_runs x none first index pc stack o f has access fits K h =
      scalar_runs x.name pc stack o f has.0 access ∙ h (word_of (valuation_of scope memory turns) x.name 0)
  read_runs x (more e none) first index pc stack None f has access fits K h = absurd (let q : 0 + 1 ≡ 0 = access in omega arith)
  read_runs x (more e none) first index pc stack (Some slot) f has access fits K h =
      let s = valuation_of scope memory turns in
      by slot.sizes refl access
      ∙ ap (λ z. after (given (place_of s (more e none) z 0) (λ p. Ok (word_of s x.name p))) K) (sym (sizes_found scope memory turns x.name slot f))
    where
      by : (sizes : List ℕ) → slot.sizes ≡ sizes → 0 + 1 ≡ length sizes → machine code pc stack memory turns ≡ after (given (place_of (valuation_of scope memory turns) (more e none) slot.sizes 0) (λ p. Ok (word_of (valuation_of scope memory turns) x.name p))) K
      by [] sized count = absurd (omega (arith, count))
      by (n ∷ []) sized count =
          one_runs x.name e slot n pc stack f sized first has fits.0 K h
          ∙ ap (λ z. after (given (place_of (valuation_of scope memory turns) (more e none) z 0) (λ p. Ok (word_of (valuation_of scope memory turns) x.name p))) K) (sym sized)
      by (n ∷ (k ∷ sizes)) sized count = absurd (omega (arith, count))
  read_runs x (more e (more d is)) first index pc stack None f has access fits K h = absurd (let q : count_of is + 1 + 1 ≡ 0 = access in omega arith)
  read_runs x (more e (more d is)) first index pc stack (Some slot) f has access fits K h =
      let s = valuation_of scope memory turns in
      let n = index_size (more e (more d is)) in
      let l = lies_within scope size x.name slot laid f in
      let code_of = index_code scope (pc + 1) slot.sizes (more e (more d is)) in
      let last = (has_back code (pc + 1) n code_of (LoadAt slot.base slot.words ∷ []) (index_length scope (pc + 1) slot.sizes (more e (more d is))) has.1).0 in
      let place : pc + 1 + n + 1 ≡ pc + (n + 2) = omega arith in
      let small : (0 + 1) * product slot.sizes ≤ 65536 = omega (arith, l.few, l.words) in
      step code unrolls pc stack memory turns (Push (pos 0)) has.0
      ∙ index (pc + 1) slot.sizes 0 stack (has_front code (pc + 1) code_of (LoadAt slot.base slot.words ∷ []) has.1) fits access l.sizes small
      (λ p. K (word_of s x.name p))
      (λ p b. element_runs x.name slot (pc + 1 + n) p stack f last (omega (arith, b, l.words))
      ∙ (ap (λ q. machine code q (word_of s x.name p ∷ stack) memory turns) place ∙ h (word_of s x.name p)))
      ∙ (after_given (place_of s (more e (more d is)) slot.sizes 0) (λ p. Ok (word_of s x.name p)) K
      ∙ ap (λ z. after (given (place_of s (more e (more d is)) z 0) (λ p. Ok (word_of s x.name p))) K) (sym (sizes_found scope memory turns x.name slot f)))

  mutual
    unfolding value_of place_of

    pub phrase_runs : (e : Phrase) (pc : ℕ) (stack : List ℤ) → HasAt code pc (phrase_code scope pc e) → Fits scope e → Pushes code unrolls pc (pc + phrase_size e) stack memory turns (value_of (valuation_of scope memory turns) e)
    phrase_runs (number v) pc stack has fits K h = step code unrolls pc stack memory turns (Push v) has.0 ∙ h v
    phrase_runs (read x is) pc stack has fits K h =
        read_runs x is (first_runs is) (index_runs is) pc stack (found scope x.name) refl has fits.0 fits.1 K h
    phrase_runs (unary op e) pc stack has fits K h =
        let n = phrase_size e in
        let here = (has_back code pc n (phrase_code scope pc e) (Unary op ∷ []) (phrase_length scope pc e) has).0 in
        let place : pc + n + 1 ≡ pc + (n + 1) = omega arith in
        phrase_runs e pc stack (has_front code pc (phrase_code scope pc e) _ has) fits (λ x. K (unary_of op x))
        (λ x. step code unrolls (pc + n) (x ∷ stack) memory turns (Unary op) here ∙ (ap (λ p. machine code p (unary_of op x ∷ stack) memory turns) place ∙ h (unary_of op x)))
        ∙ after_given (value_of (valuation_of scope memory turns) e) (λ x. Ok (unary_of op x)) K
    phrase_runs (binary op a b) pc stack has fits K h =
        operator_runs code unrolls op pc (phrase_size a) (phrase_size b) (phrase_code scope pc a) (λ p. phrase_code scope p b) stack memory turns (value_of (valuation_of scope memory turns) a) (value_of (valuation_of scope memory turns) b) has (phrase_length scope pc a) (λ p. phrase_length scope p b)
        (λ l. phrase_runs a pc stack l fits.0) (λ p s r. phrase_runs b p s r fits.1) K h

    first_runs : (is : Phrases) → First is
    first_runs none = tt
    first_runs (more e is) = phrase_runs e

    pub index_runs : (is : Phrases) → Indexes is
    index_runs none pc [] place stack has fits count some small K h =
        let e : pc ≡ pc + 0 = omega arith in
        ap (λ p. machine code p (pos place ∷ stack) memory turns) e ∙ h place (omega arith)
    index_runs none pc (n ∷ sizes) place stack has fits count some small K h = absurd (omega arith)
    index_runs (more e is) pc [] place stack has fits count some small K h = absurd (omega arith)
    index_runs (more e is) pc (n ∷ sizes) place stack has fits count some small K h =
        let s = valuation_of scope memory turns in
        let m = phrase_size e in
        let rest = Step n ∷ index_code scope (pc + m + 1) sizes is in
        let tail = has_back code pc m (phrase_code scope pc e) rest (phrase_length scope pc e) has in
        let end : pc + m + 1 + index_size is ≡ pc + (m + 1 + index_size is) = omega arith in
        let w = some_words sizes some.1 in
        phrase_runs e pc (pos place ∷ stack) (has_front code pc (phrase_code scope pc e) rest has) fits.0
        (λ i. after (indexed (n ∷ sizes) place (place_of s is) i) K)
        (λ i. step code unrolls (pc + m) (i ∷ pos place ∷ stack) memory turns (Step n) tail.0
        ∙ index_given n place sizes i (place_of s is) (λ k. machine code (pc + m + 1) (int_wrap w64 ((pos place *ℤ pos n) +ℤ pos k) ∷ stack) memory turns) K
        (λ k lt.
        let wide = wider place n k (product sizes) lt in
        let one : (place * n + k + 1) * 1 ≤ (place * n + k + 1) * product sizes = mul-le-mul (let r : place * n + k + 1 ≤ place * n + k + 1 = omega arith in r) w in
        let fit : place * n + k < 2 ^ 63 = omega (arith, one, wide, small) in
        ap (λ v. machine code (pc + m + 1) (v ∷ stack) memory turns) (wrap_small (place * n + k) fit)
        ∙ index_runs is (pc + m + 1) sizes (place * n + k) stack tail.1 fits.1 (omega arith) some.1 (omega (arith, wide, small)) K
        (λ p b. ap (λ q. machine code q (pos p ∷ stack) memory turns) end ∙ h p (omega (arith, b, wide)))))
        ∙ after_given (value_of s e) (indexed (n ∷ sizes) place (place_of s is)) K
