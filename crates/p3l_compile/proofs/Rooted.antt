-- Each place of compiled code is reached, or has an empty stack.
use Rattle.std.proofs.Common.{◌≡◌, ℕ, ℤ, pos, ◌+◌, ◌<◌, ◌≤◌, ◌⊎◌, inl, inr, ⊎_elim, true, List, [], ◌∷◌, ◌++◌, length, Option, Some, None, refl, sym, ap, ◌∙◌, subst, arith, length-append}
use Rattle.std.specs.Prelude.{slice_get}
use Rattle.std.proofs.lemmas.Bool.{cases_lt}
use Rattle.p3l_ast.specs.declared.expression.BinOp.{BinOp}
use Rattle.p3l_ast.specs.declared.expression.BinOp.TheVariants as operators
use Rattle.p3l_ast.specs.Tree.{Phrase, number, read, unary, binary, Phrases, none, more, Statements, done, assign, if_, if_else, while_, for_}
use Rattle.p3l_code.specs.declared.instr.Instr.{Instr}
use Rattle.p3l_code.specs.declared.instr.Instr.TheVariants.{Push, Step, Unary, Binary, Jump, JumpZero, JumpNonZero, Turn}
use Rattle.p3l_code.specs.declared.instr.Code.{Code}
use Rattle.p3l_code.specs.Safe.{target_of, goes_on, IsReached}
use Rattle.p3l_compile.specs.declared.scope.Slot.{Slot}
use Rattle.p3l_compile.specs.Scope.{Names, found, constant_of}
use Rattle.p3l_compile.specs.Phrase.{operator_size, read_size, phrase_size, index_size, scalar_code, sizes_in, element_code, read_code, operator_code, phrase_code, first_code, index_code}
use Rattle.p3l_compile.specs.Statement.{assign_size, loop_size, statement_size, store_code, store_at_code, assign_code, loop_code, statement_code}
use Rattle.p3l_compile.specs.Depth.{phrase_depths}
use Rattle.p3l_compile.proofs.Steps.{HasAt, has_front, has_back}
use Rattle.p3l_compile.proofs.Phrases.{IsSingle, phrase_length, first_length, index_length}
use Rattle.p3l_compile.proofs.Statements.{statement_length, assign_length, loop_length, stepped_length}
use Rattle.p3l_compile.proofs.Depths.{DepthsAt, depths_front, depths_back, depths_length, phrase_first}
use Rattle.p3l_compile.proofs.StatementDepths.{assign_depths, loop_depths, statement_depths, assign_depths_length, loop_depths_length, statement_depths_length, assign_first, statement_first, here}

module _ (code : Code) (table : List ℕ) where
  -- the places after one, so many of them, are reached or have an empty stack
  abbrev pub Rooted : ℕ → ℕ → Type 0
  Rooted pc n = (q : ℕ) → pc < q → q ≤ pc + n → IsReached code.instrs q ⊎ (slice_get table q ≡ Some 0)

  resize : (pc m n : ℕ) → m ≡ n → Rooted pc m → Rooted pc n
  resize pc m n e h q low high = h q low (omega arith)

  rooted_none : (pc : ℕ) → Rooted pc 0
  rooted_none pc q low high = absurd (omega arith)

  join : (pc m n : ℕ) → Rooted pc m → Rooted (pc + m) n → Rooted pc (m + n)
  join pc m n f g q low high =
      ⊎_elim (λ h. g q h (omega arith)) (λ h. f q low h) (cases_lt (pc + m) q)

  goes : (pc : ℕ) (i : Instr) → slice_get code.instrs pc ≡ Some i → goes_on i ≡ true → Rooted pc 1
  goes pc i at g q low high = let e : q ≡ pc + 1 = omega arith in inl (inl (pc, i, e, at, g))

  -- an instruction, and what follows it
  then : (pc n : ℕ) (i : Instr) → slice_get code.instrs pc ≡ Some i → goes_on i ≡ true → Rooted (pc + 1) n → Rooted pc (n + 1)
  then pc n i at g h = resize pc (1 + n) (n + 1) (omega arith) (join pc 1 n (goes pc i at g) h)

  -- a place that an earlier jump leads to
  jumped : (pc from : ℕ) (i : Instr) → slice_get code.instrs from ≡ Some i → from < pc + 1 → target_of i ≡ Some (pc + 1) → Rooted pc 1
  jumped pc from i at low t q above high =
      let e : q ≡ pc + 1 = omega arith in
      inl (inr (from, i, omega arith, at, t ∙ ap Some (sym e)))

  emptied : (pc : ℕ) → slice_get table (pc + 1) ≡ Some 0 → Rooted pc 1
  emptied pc z q above high = let e : q ≡ pc + 1 = omega arith in inr (subst (λ k. slice_get table k ≡ Some 0) (sym e) z)

  scalar_goes : (o : Option Slot) (v : ℤ) → goes_on (scalar_code o v) ≡ true
  scalar_goes None v = refl
  scalar_goes (Some slot) v = refl

  element_goes : (o : Option Slot) → goes_on (element_code o) ≡ true
  element_goes None = refl
  element_goes (Some slot) = refl

  store_goes : (o : Option Slot) → goes_on (store_code o) ≡ true
  store_goes None = refl
  store_goes (Some slot) = refl

  store_at_goes : (o : Option Slot) → goes_on (store_at_code o) ≡ true
  store_at_goes None = refl
  store_at_goes (Some slot) = refl

  -- the short way
  short_rooted : (jump : Instr) (other : ℤ) (pc m n : ℕ) (left right : List Instr) → length left ≡ m → length right ≡ n → goes_on jump ≡ true → target_of jump ≡ Some (pc + m + n + 4) → HasAt code pc (left ++ (jump ∷ (right ++ (Push (pos 0) ∷ Binary operators.Ne ∷ Jump (pc + m + n + 5) ∷ Push other ∷ [])))) → (HasAt code pc left → Rooted pc m) → (HasAt code (pc + m + 1) right → Rooted (pc + m + 1) n) → Rooted pc (m + n + 5)
  short_rooted jump other pc m n left right lm ln on target at L R =
      let tail = Push (pos 0) ∷ Binary operators.Ne ∷ Jump (pc + m + n + 5) ∷ Push other ∷ [] in
      let p = pc + m + 1 in
      let back = has_back code pc m left (jump ∷ (right ++ tail)) lm at in
      let last = has_back code p n right tail ln back.1 in
      let e : p + n + 1 + 1 + 1 ≡ pc + m + n + 4 = omega arith in
      let t : target_of jump ≡ Some (p + n + 1 + 1 + 1) = target ∙ ap Some (sym e) in
      let four = then (p + n) 3 (Push (pos 0)) last.0 refl
      (then (p + n + 1) 2 (Binary operators.Ne) last.1.0 refl
      (join (p + n + 1 + 1) 1 1 (jumped (p + n + 1 + 1) (pc + m) jump back.0 (omega arith) t) (goes (p + n + 1 + 1 + 1) (Push other) last.1.1.1.0 refl))) in
      resize pc (m + (n + 4 + 1)) (m + n + 5) (omega arith)
      (join pc m (n + 4 + 1) (L (has_front code pc left (jump ∷ (right ++ tail)) at))
      (then (pc + m) (n + 4) jump back.0 on (join p n 4 (R (has_front code p right tail back.1)) four)))

  operator_rooted : (op : BinOp) (pc m n : ℕ) (left : List Instr) (right : ℕ → List Instr) → length left ≡ m → ((p : ℕ) → length (right p) ≡ n) → HasAt code pc (operator_code op pc left m right n) → (HasAt code pc left → Rooted pc m) → ((p : ℕ) → HasAt code p (right p) → Rooted p n) → Rooted pc (m + n + operator_size op)
  operator_rooted operators.Or pc m n left right lm ln at L R =
      short_rooted (JumpNonZero (pc + m + n + 4)) (pos 1) pc m n left (right (pc + m + 1)) lm (ln (pc + m + 1)) refl refl at L (R (pc + m + 1))
  operator_rooted operators.And pc m n left right lm ln at L R =
      short_rooted (JumpZero (pc + m + n + 4)) (pos 0) pc m n left (right (pc + m + 1)) lm (ln (pc + m + 1)) refl refl at L (R (pc + m + 1))
  operator_rooted op pc m n left right lm ln at L R =
      let back = has_back code pc m left (right (pc + m) ++ Binary op ∷ []) lm at in
      let last = has_back code (pc + m) n (right (pc + m)) (Binary op ∷ []) (ln (pc + m)) back in
      resize pc (m + (n + 1)) (m + n + 1) (omega arith)
      (join pc m (n + 1) (L (has_front code pc left (right (pc + m) ++ Binary op ∷ []) at))
      (join (pc + m) n 1 (R (pc + m) (has_front code (pc + m) (right (pc + m)) (Binary op ∷ []) back)) (goes (pc + m + n) (Binary op) last.0 refl)))

  read_rooted : (o : Option Slot) (v : ℤ) (is : Phrases) (first index : List Instr) (n m pc : ℕ) → length index ≡ n → length first ≡ m → (IsSingle is → m + 1 ≡ n) → HasAt code pc (read_code o v is first index) →
      (HasAt code pc first → Rooted pc m) → (HasAt code (pc + 1) index → Rooted (pc + 1) n) → Rooted pc (read_size is n)
  read_rooted o v none first index n m pc long alone one at F I = goes pc (scalar_code o v) at.0 (scalar_goes o v)
  read_rooted o v (more e none) first index n m pc long alone one at F I =
      let last = has_back code pc m first (element_code o ∷ []) alone at in
      resize pc (m + 1) n (omega (arith, one tt))
      (join pc m 1 (F (has_front code pc first (element_code o ∷ []) at)) (goes (pc + m) (element_code o) last.0 (element_goes o)))
  read_rooted o v (more e (more f is)) first index n m pc long alone one at F I =
      let last = has_back code (pc + 1) n index (element_code o ∷ []) long at.1 in
      resize pc (n + 1 + 1) (n + 2) (omega arith)
      (then pc (n + 1) (Push (pos 0)) at.0 refl
      (join (pc + 1) n 1 (I (has_front code (pc + 1) index (element_code o ∷ []) at.1)) (goes (pc + 1 + n) (element_code o) last.0 (element_goes o))))

  mutual
    pub phrase_rooted : (scope : Names) (e : Phrase) (pc : ℕ) → HasAt code pc (phrase_code scope pc e) → Rooted pc (phrase_size e)
    phrase_rooted scope (number v) pc at = goes pc (Push v) at.0 refl
    phrase_rooted scope (read x is) pc at =
        read_rooted (found scope x.name) (constant_of scope x.name) is (first_code scope pc is) (index_code scope (pc + 1) (sizes_in (found scope x.name)) is) (index_size is) (length (first_code scope pc is)) pc (index_length scope (pc + 1) (sizes_in (found scope x.name)) is) refl (first_length scope pc is) at
        (λ h. first_rooted scope is pc h)
        (λ h. index_rooted scope is (pc + 1) (sizes_in (found scope x.name)) h)
    phrase_rooted scope (unary op e) pc at =
        let n = phrase_size e in
        let last = has_back code pc n (phrase_code scope pc e) (Unary op ∷ []) (phrase_length scope pc e) at in
        join pc n 1 (phrase_rooted scope e pc (has_front code pc (phrase_code scope pc e) (Unary op ∷ []) at)) (goes (pc + n) (Unary op) last.0 refl)
    phrase_rooted scope (binary op a b) pc at =
        operator_rooted op pc (phrase_size a) (phrase_size b) (phrase_code scope pc a) (λ p. phrase_code scope p b) (phrase_length scope pc a) (λ p. phrase_length scope p b) at
        (λ h. phrase_rooted scope a pc h) (λ p h. phrase_rooted scope b p h)

    first_rooted : (scope : Names) (is : Phrases) (pc : ℕ) → HasAt code pc (first_code scope pc is) → Rooted pc (length (first_code scope pc is))
    first_rooted scope none pc at = rooted_none pc
    first_rooted scope (more e is) pc at = subst (Rooted pc) (sym (phrase_length scope pc e)) (phrase_rooted scope e pc at)

    pub index_rooted : (scope : Names) (is : Phrases) (pc : ℕ) (sizes : List ℕ) → HasAt code pc (index_code scope pc sizes is) → Rooted pc (index_size is)
    index_rooted scope none pc sizes at = rooted_none pc
    index_rooted scope (more e is) pc sizes at =
        let m = phrase_size e in
        let own = phrase_code scope pc e in
        let back = has_back code pc m own _ (phrase_length scope pc e) at in
        resize pc (m + (index_size is + 1)) (m + 1 + index_size is) (omega arith)
        (join pc m (index_size is + 1) (phrase_rooted scope e pc (has_front code pc own _ at))
        (then (pc + m) (index_size is) (Step _) back.0 refl (index_rooted scope is (pc + m + 1) _ back.1)))

  assign_rooted : (scope : Names) (pc : ℕ) (name : List ℕ) (is : Phrases) (e : Phrase) → HasAt code pc (assign_code scope pc name is e) → Rooted pc (assign_size is e)
  assign_rooted scope pc name none e at =
      let n = phrase_size e in
      let last = has_back code pc n (phrase_code scope pc e) (store_code (found scope name) ∷ []) (phrase_length scope pc e) at in
      join pc n 1 (phrase_rooted scope e pc (has_front code pc (phrase_code scope pc e) (store_code (found scope name) ∷ []) at)) (goes (pc + n) (store_code (found scope name)) last.0 (store_goes (found scope name)))
  assign_rooted scope pc name (more d is) e at =
      let m = index_size (more d is) in
      let n = phrase_size e in
      let o = found scope name in
      let index = index_code scope (pc + 1) (sizes_in o) (more d is) in
      let value = phrase_code scope (pc + 1 + m) e in
      let back = has_back code (pc + 1) m index (value ++ store_at_code o ∷ []) (index_length scope (pc + 1) (sizes_in o) (more d is)) at.1 in
      let last = has_back code (pc + 1 + m) n value (store_at_code o ∷ []) (phrase_length scope (pc + 1 + m) e) back in
      resize pc (m + (n + 1) + 1) (m + n + 2) (omega arith)
      (then pc (m + (n + 1)) (Push (pos 0)) at.0 refl
      (join (pc + 1) m (n + 1) (index_rooted scope (more d is) (pc + 1) (sizes_in o) (has_front code (pc + 1) index (value ++ store_at_code o ∷ []) at.1))
      (join (pc + 1 + m) n 1 (phrase_rooted scope e (pc + 1 + m) (has_front code (pc + 1 + m) value (store_at_code o ∷ []) back)) (goes (pc + 1 + m + n) (store_at_code o) last.0 (store_at_goes o)))))

  -- a loop: its turn stands where the stack is empty
  loop_rooted : (scope : Names) (pc n : ℕ) (body : ℕ → List Instr) (e : Phrase) → length (body (pc + 2)) ≡ n → HasAt code pc (loop_code pc body n (λ p. phrase_code scope p e)) → slice_get table (pc + 1) ≡ Some 0 → (HasAt code (pc + 2) (body (pc + 2)) → Rooted (pc + 2) n) → Rooted pc (loop_size n (phrase_size e))
  loop_rooted scope pc n body e long at start B =
      let m = phrase_size e in
      let p = pc + 2 + n in
      let test = phrase_code scope p e in
      let rest = test ++ JumpNonZero (pc + 1) ∷ [] in
      let two : pc + 1 + 1 ≡ pc + 2 = omega arith in
      let inner = subst (λ k. HasAt code k (body (pc + 2) ++ rest)) two at.1.1 in
      let back = has_back code (pc + 2) n (body (pc + 2)) rest long inner in
      let last = has_back code p m test (JumpNonZero (pc + 1) ∷ []) (phrase_length scope p e) back in
      let tail : Rooted (pc + 1 + 1) (n + (m + 1)) = subst (λ k. Rooted k (n + (m + 1))) (sym two)
      (join (pc + 2) n (m + 1) (B (has_front code (pc + 2) (body (pc + 2)) rest inner))
      (join p m 1 (phrase_rooted scope e p (has_front code p test (JumpNonZero (pc + 1) ∷ []) back)) (goes (p + m) (JumpNonZero (pc + 1)) last.0 refl))) in
      resize pc (1 + (n + (m + 1) + 1)) (n + m + 3) (omega arith)
      (join pc 1 (n + (m + 1) + 1) (emptied pc start) (then (pc + 1) (n + (m + 1)) Turn at.1.0 refl tail))

  pub statement_rooted : (scope : Names) (c : Statements) (pc : ℕ) → HasAt code pc (statement_code scope pc c) → DepthsAt table pc (statement_depths c) → slice_get table (pc + statement_size c) ≡ Some 0 → Rooted pc (statement_size c)
  statement_rooted scope done pc at has end = rooted_none pc
  statement_rooted scope (assign x is e next) pc at has end =
      let m = assign_size is e in
      let own = assign_code scope pc x.name is e in
      let code_next = statement_code scope (pc + m) next in
      let back = depths_back table pc m (assign_depths is e) (statement_depths next) (assign_depths_length is e) has in
      let q : pc + (m + statement_size next) ≡ pc + m + statement_size next = omega arith in
      join pc m (statement_size next) (assign_rooted scope pc x.name is e (has_front code pc own code_next at))
      (statement_rooted scope next (pc + m) (has_back code pc m own code_next (assign_length scope pc x.name is e) at) back (here table (pc + (m + statement_size next)) (pc + m + statement_size next) 0 q end))
  statement_rooted scope (if_ e t next) pc at has end =
      let m = phrase_size e in
      let a = statement_size t in
      let p = pc + m + 1 in
      let z = p + a in
      let back = depths_back table pc m (phrase_depths 0 e) (1 ∷ (statement_depths t ++ statement_depths next)) (depths_length 0 e) has in
      let inner = depths_front table p (statement_depths t) (statement_depths next) back.1 in
      let rest = depths_back table p a (statement_depths t) (statement_depths next) (statement_depths_length t) back.1 in
      let q : pc + (m + 1 + a + statement_size next) ≡ z + statement_size next = omega arith in
      let end' = here table (pc + (m + 1 + a + statement_size next)) (z + statement_size next) 0 q end in
      let at_next = statement_first table next z rest end' in
      let test = phrase_code scope pc e in
      let code_t = statement_code scope p t in
      let code_next = statement_code scope z next in
      let at' = has_back code pc m test (JumpZero z ∷ (code_t ++ code_next)) (phrase_length scope pc e) at in
      resize pc (m + (a + statement_size next + 1)) (m + 1 + a + statement_size next) (omega arith)
      (join pc m (a + statement_size next + 1) (phrase_rooted scope e pc (has_front code pc test (JumpZero z ∷ (code_t ++ code_next)) at))
      (then (pc + m) (a + statement_size next) (JumpZero z) at'.0 refl
      (join p a (statement_size next) (statement_rooted scope t p (has_front code p code_t code_next at'.1) inner at_next)
      (statement_rooted scope next z (has_back code p a code_t code_next (statement_length scope p t) at'.1) rest end'))))
  statement_rooted scope (if_else e t f next) pc at has end =
      let m = phrase_size e in
      let a = statement_size t in
      let b = statement_size f in
      let n = statement_size next in
      let p = pc + m + 1 in
      let o = p + a + 1 in
      let z = o + b in
      let ds = 0 ∷ (statement_depths f ++ statement_depths next) in
      let back = depths_back table pc m (phrase_depths 0 e) (1 ∷ (statement_depths t ++ ds)) (depths_length 0 e) has in
      let inner = depths_front table p (statement_depths t) ds back.1 in
      let after = depths_back table p a (statement_depths t) ds (statement_depths_length t) back.1 in
      let other = depths_front table o (statement_depths f) (statement_depths next) after.1 in
      let rest = depths_back table o b (statement_depths f) (statement_depths next) (statement_depths_length f) after.1 in
      let q : pc + (m + 1 + a + 1 + b + n) ≡ z + n = omega arith in
      let end' = here table (pc + (m + 1 + a + 1 + b + n)) (z + n) 0 q end in
      let at_next = statement_first table next z rest end' in
      let at_other = statement_first table f o other at_next in
      let test = phrase_code scope pc e in
      let code_t = statement_code scope p t in
      let code_f = statement_code scope o f in
      let code_next = statement_code scope z next in
      let tail = Jump z ∷ (code_f ++ code_next) in
      let at' = has_back code pc m test (JumpZero o ∷ (code_t ++ tail)) (phrase_length scope pc e) at in
      let at'' = has_back code p a code_t tail (statement_length scope p t) at'.1 in
      resize pc (m + (a + (1 + (b + n)) + 1)) (m + 1 + a + 1 + b + n) (omega arith)
      (join pc m (a + (1 + (b + n)) + 1) (phrase_rooted scope e pc (has_front code pc test (JumpZero o ∷ (code_t ++ tail)) at))
      (then (pc + m) (a + (1 + (b + n))) (JumpZero o) at'.0 refl
      (join p a (1 + (b + n)) (statement_rooted scope t p (has_front code p code_t tail at'.1) inner after.0)
      (join (p + a) 1 (b + n) (emptied (p + a) at_other)
      (join o b n (statement_rooted scope f o (has_front code o code_f code_next at''.1) other at_next)
      (statement_rooted scope next z (has_back code o b code_f code_next (statement_length scope o f) at''.1) rest end'))))))
  statement_rooted scope (while_ e body next) pc at has end =
      let n = statement_size body in
      let size = loop_size n (phrase_size e) in
      let loop = loop_code pc (λ p. statement_code scope p body) n (λ p. phrase_code scope p e) in
      let long = loop_length pc (λ p. statement_code scope p body) n (λ p. phrase_code scope p e) (phrase_size e) (statement_length scope (pc + 2) body) (phrase_length scope (pc + 2 + n) e) in
      let ds = loop_depths (statement_depths body) (phrase_depths 0 e) in
      let deep = loop_depths_length (statement_depths body) (phrase_depths 0 e) n (phrase_size e) (statement_depths_length body) (depths_length 0 e) in
      let own = depths_front table pc ds (statement_depths next) has in
      let back = depths_back table pc size ds (statement_depths next) deep has in
      let q : pc + (size + statement_size next) ≡ pc + size + statement_size next = omega arith in
      let end' = here table (pc + (size + statement_size next)) (pc + size + statement_size next) 0 q end in
      let code_next = statement_code scope (pc + size) next in
      let two : pc + 1 + 1 ≡ pc + 2 = omega arith in
      let rest = phrase_depths 0 e ++ 1 ∷ [] in
      let inner = subst (λ k. DepthsAt table k (statement_depths body ++ rest)) two own.1.1 in
      let tail = depths_back table (pc + 2) n (statement_depths body) rest (statement_depths_length body) inner in
      join pc size (statement_size next)
      (loop_rooted scope pc n (λ p. statement_code scope p body) e (statement_length scope (pc + 2) body) (has_front code pc loop code_next at) own.1.0
      (λ h. statement_rooted scope body (pc + 2) h (depths_front table (pc + 2) (statement_depths body) rest inner) (test_first e (pc + 2 + n) tail)))
      (statement_rooted scope next (pc + size) (has_back code pc size loop code_next long at) back end')
    where
      test_first : (e : Phrase) (p : ℕ) → DepthsAt table p (phrase_depths 0 e ++ 1 ∷ []) → slice_get table p ≡ Some 0
      test_first e p h = phrase_first table e p 0 (depths_front table p (phrase_depths 0 e) (1 ∷ []) h)
  statement_rooted scope (for_ x is e w y js f body next) pc at has end =
      let m = assign_size is e in
      let start = pc + m in
      let k = statement_size body in
      let g = assign_size js f in
      let n = k + g in
      let size = loop_size n (phrase_size w) in
      let first = assign_code scope pc x.name is e in
      let inner = λ (p : ℕ). statement_code scope p body ++ assign_code scope (p + k) y.name js f in
      let loop = loop_code start inner n (λ p. phrase_code scope p w) in
      let inner_long = stepped_length scope (start + 2) body y.name js f in
      let long = loop_length start inner n (λ p. phrase_code scope p w) (phrase_size w) inner_long (phrase_length scope (start + 2 + n) w) in
      let ids = statement_depths body ++ assign_depths js f in
      let ids_long : length ids ≡ n = (let a = statement_depths_length body in let g = assign_depths_length js f in omega (arith, length-append (statement_depths body) (assign_depths js f))) in
      let ds = loop_depths ids (phrase_depths 0 w) in
      let deep = loop_depths_length ids (phrase_depths 0 w) n (phrase_size w) ids_long (depths_length 0 w) in
      let tail = depths_back table pc m (assign_depths is e) (ds ++ statement_depths next) (assign_depths_length is e) has in
      let own = depths_front table start ds (statement_depths next) tail in
      let back = depths_back table start size ds (statement_depths next) deep tail in
      let whole = m + size + statement_size next in
      let q : pc + whole ≡ start + size + statement_size next = omega arith in
      let end' = here table (pc + whole) (start + size + statement_size next) 0 q end in
      let code_next = statement_code scope (start + size) next in
      let at_loop = has_back code pc m first (loop ++ code_next) (assign_length scope pc x.name is e) at in
      let two : start + 1 + 1 ≡ start + 2 = omega arith in
      let rest = phrase_depths 0 w ++ 1 ∷ [] in
      let ds_inner = depths_front table (start + 2) ids rest (subst (λ j. DepthsAt table j (ids ++ rest)) two own.1.1) in
      let step = depths_back table (start + 2) k (statement_depths body) (assign_depths js f) (statement_depths_length body) ds_inner in
      resize pc (m + (size + statement_size next)) whole (omega arith)
      (join pc m (size + statement_size next) (assign_rooted scope pc x.name is e (has_front code pc first (loop ++ code_next) at))
      (join start size (statement_size next)
      (loop_rooted scope start n inner w inner_long (has_front code start loop code_next at_loop) own.1.0
      (λ h. join (start + 2) k g
      (statement_rooted scope body (start + 2) (has_front code (start + 2) (statement_code scope (start + 2) body) (assign_code scope (start + 2 + k) y.name js f) h)
      (depths_front table (start + 2) (statement_depths body) (assign_depths js f) ds_inner) (assign_first table js f (start + 2 + k) step))
      (assign_rooted scope (start + 2 + k) y.name js f (has_back code (start + 2) k (statement_code scope (start + 2) body) (assign_code scope (start + 2 + k) y.name js f) (statement_length scope (start + 2) body) h))))
      (statement_rooted scope next (start + size) (has_back code start size loop code_next long at_loop) back end')))
