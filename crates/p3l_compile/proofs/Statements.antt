-- The machine on the code of statements: it goes on at the end of the code, with the memory of the valuation that they make, or
-- traps.
use Rattle.std.proofs.Common.{◌≡◌, ℕ, ℤ, zero, suc, pos, ◌+◌, ◌*◌, ◌≤◌, ◌<◌, Bool, true, false, cond, List, [], ◌∷◌, ◌++◌, length, Option, Some, None, Result, Ok, Err, refl, sym, ap, ◌∙◌, subst, arith, length-append, ltb-true, length-set}
use Rattle.std.specs.Prelude.{slice_get, slice_set, nat_lt}
use Rattle.std.proofs.lemmas.Bool.Decides.{nat_tests}
use Rattle.p3l_base.specs.declared.outcome.TrapKind.{TrapKind}
use Rattle.p3l_base.specs.declared.outcome.TrapKind.TheVariants.{Budget}
use Rattle.p3l_ast.specs.declared.position.Spot.{Spot}
use Rattle.p3l_ast.specs.declared.meaning.valuation.Valuation.{Valuation}
use Rattle.p3l_ast.specs.Tree.{Phrase, Phrases, none, more, Statements, done, assign, if_, if_else, while_, for_, join}
use Rattle.p3l_ast.specs.Meaning.Operator.{holds}
use Rattle.p3l_ast.specs.Meaning.Valuation.{with_word, turned}
use Rattle.p3l_ast.specs.Meaning.Expression.{given, value_of, place_of}
use Rattle.p3l_ast.specs.Meaning.Statement.{assigned, chosen, run_by, loop_of, run_of}
use Rattle.p3l_ast.proofs.Turns.{loop_unrolls, run_join, given_same, given_done}
use Rattle.p3l_code.specs.declared.instr.Instr.{Instr}
use Rattle.p3l_code.specs.declared.instr.Instr.TheVariants.{Push, Store, StoreAt, Jump, JumpZero, JumpNonZero, Turn}
use Rattle.p3l_code.specs.declared.instr.Code.{Code}
use Rattle.p3l_code.specs.Machine.{Ending, present, after, written, machine, Unrolls}
use Rattle.p3l_compile.specs.declared.scope.Slot.{Slot}
use Rattle.p3l_compile.specs.Scope.{Names, found, valuation_of, IsLaid}
use Rattle.p3l_compile.specs.Phrase.{phrase_size, index_size, phrase_code, index_code, sizes_in, count_of, Fits}
use Rattle.p3l_compile.specs.Statement.{assign_size, loop_size, statement_size, store_code, store_at_code, assign_code, loop_code, statement_code, IsTarget, FitsAssign, FitsCode}
use Rattle.p3l_compile.proofs.Steps.{HasAt, has_front, has_back, step, after_given}
use Rattle.p3l_compile.proofs.Scopes.{sizes_found, lies_within, set_found}
use Rattle.p3l_compile.proofs.Phrases.{phrase_length, index_length, phrase_runs, index_runs, below_size, some_words}
use Rattle.p3l_types.specs.Shape.{product}

pub assign_length : (scope : Names) (pc : ℕ) (name : List ℕ) (is : Phrases) (e : Phrase) → length (assign_code scope pc name is e) ≡ assign_size is e
assign_length scope pc name none e = let h = phrase_length scope pc e in omega (arith, length-append (phrase_code scope pc e) (store_code (found scope name) ∷ []))
assign_length scope pc name (more d is) e =
    let p = pc + 1 + index_size (more d is) in
    let h = phrase_length scope p e in
    let k = index_length scope (pc + 1) (sizes_in (found scope name)) (more d is) in
    let last = store_at_code (found scope name) ∷ [] in
    omega (arith, length-append (index_code scope (pc + 1) (sizes_in (found scope name)) (more d is)) (phrase_code scope p e ++ last), length-append (phrase_code scope p e) last)

pub loop_length : (pc : ℕ) (body : ℕ → List Instr) (n : ℕ) (condition : ℕ → List Instr) (m : ℕ) → length (body (pc + 2)) ≡ n → length (condition (pc + 2 + n)) ≡ m → length (loop_code pc body n condition) ≡ loop_size n m
loop_length pc body n condition m h k =
    let last = JumpNonZero (pc + 1) ∷ [] in
    omega (arith, length-append (body (pc + 2)) (condition (pc + 2 + n) ++ last), length-append (condition (pc + 2 + n)) last)

pub statement_length : (scope : Names) (pc : ℕ) (c : Statements) → length (statement_code scope pc c) ≡ statement_size c
statement_length scope pc done = refl
statement_length scope pc (assign x is e next) =
    let h = statement_length scope (pc + assign_size is e) next in
    let k = assign_length scope pc x.name is e in
    omega (arith, length-append (assign_code scope pc x.name is e) (statement_code scope (pc + assign_size is e) next))
statement_length scope pc (if_ e if_so next) =
    let test = pc + phrase_size e in
    let end = test + 1 + statement_size if_so in
    let a = statement_code scope (test + 1) if_so in
    let b = statement_code scope end next in
    let la = statement_length scope (test + 1) if_so in
    let lb = statement_length scope end next in
    let le = phrase_length scope pc e in
    omega (arith, length-append (phrase_code scope pc e) (JumpZero end ∷ (a ++ b)), length-append a b)
statement_length scope pc (if_else e if_so if_not next) =
    let test = pc + phrase_size e in
    let other = test + 1 + statement_size if_so + 1 in
    let end = other + statement_size if_not in
    let a = statement_code scope (test + 1) if_so in
    let b = statement_code scope other if_not in
    let c = statement_code scope end next in
    let la = statement_length scope (test + 1) if_so in
    let lb = statement_length scope other if_not in
    let lc = statement_length scope end next in
    let le = phrase_length scope pc e in
    omega (arith, length-append (phrase_code scope pc e) (JumpZero other ∷ (a ++ (Jump end ∷ (b ++ c)))), length-append a (Jump end ∷ (b ++ c)), length-append b c)
statement_length scope pc (while_ e body next) =
    let l = loop_length pc (λ p. statement_code scope p body) (statement_size body) (λ p. phrase_code scope p e) (phrase_size e) (statement_length scope (pc + 2) body) (phrase_length scope (pc + 2 + statement_size body) e) in
    let rest = statement_code scope (pc + loop_size (statement_size body) (phrase_size e)) next in
    let h = statement_length scope (pc + loop_size (statement_size body) (phrase_size e)) next in
    omega (arith, length-append (loop_code pc (λ p. statement_code scope p body) (statement_size body) (λ p. phrase_code scope p e)) rest)
statement_length scope pc (for_ x is e w y js f body next) =
    let start = pc + assign_size is e in
    let n = statement_size body + assign_size js f in
    let turn = λ (p : ℕ). statement_code scope p body ++ assign_code scope (p + statement_size body) y.name js f in
    let lt : length (turn (start + 2)) ≡ n =
    let a = statement_length scope (start + 2) body in
    let b = assign_length scope (start + 2 + statement_size body) y.name js f in
    omega (arith, length-append (statement_code scope (start + 2) body) (assign_code scope (start + 2 + statement_size body) y.name js f)) in
    let l = loop_length start turn n (λ p. phrase_code scope p w) (phrase_size w) lt (phrase_length scope (start + 2 + n) w) in
    let k = assign_length scope pc x.name is e in
    let loop = loop_code start turn n (λ p. phrase_code scope p w) in
    let rest = statement_code scope (start + loop_size n (phrase_size w)) next in
    let h = statement_length scope (start + loop_size n (phrase_size w)) next in
    omega (arith, length-append (assign_code scope pc x.name is e) (loop ++ rest), length-append loop rest)

-- a word that is written into the memory
written_within : (memory : List ℤ) (slot : ℕ) (word : ℤ) → slot < length memory → written memory slot word ≡ Some (slice_set memory slot word)
written_within memory slot word h = by (nat_lt slot (length memory)) refl
  where
    by : (b : Bool) → nat_lt slot (length memory) ≡ b → cond b (Some (slice_set memory slot word)) None ≡ Some (slice_set memory slot word)
    by true e = refl
    by false e = absurd (grind (arith, nat_tests))

pub stepped_length : (scope : Names) (pc : ℕ) (body : Statements) (name : List ℕ) (is : Phrases) (e : Phrase) → length (statement_code scope pc body ++ assign_code scope (pc + statement_size body) name is e) ≡ statement_size body + assign_size is e
stepped_length scope pc body name is e =
    let a = statement_length scope pc body in
    let b = assign_length scope (pc + statement_size body) name is e in
    omega (arith, length-append (statement_code scope pc body) (assign_code scope (pc + statement_size body) name is e))

target_slot : (o : Option Slot) (n : ℕ) → IsTarget o n → (slot : Slot) × (o ≡ Some slot) × (n ≡ length slot.sizes)
target_slot None n h = absurd h
target_slot (Some slot) n h = (slot, refl, h)

module _ (code : Code) (unrolls : Unrolls code) (scope : Names) (size : ℕ) (laid : IsLaid scope size) where
  -- from a place on the machine goes on at the end with the memory of the valuation that comes of its own, or traps; it
  -- counts no turn back
  abbrev Runs : ℕ → ℕ → (Valuation → Result Valuation TrapKind) → Type 0
  Runs pc end run =
      (memory : List ℤ) (turns : ℕ) → length memory ≡ size → (K : Valuation → Ending)
      → ((m : List ℤ) (t : ℕ) → length m ≡ size → turns ≤ t → machine code end [] m t ≡ K (valuation_of scope m t))
      → machine code pc [] memory turns ≡ after (run (valuation_of scope memory turns)) K

  ends_at : (pc end other : ℕ) (run : Valuation → Result Valuation TrapKind) → end ≡ other → Runs pc end run → Runs pc other run
  ends_at pc end other run e r memory turns whole K h =
      r memory turns whole K (λ m t l le. ap (λ p. machine code p [] m t) e ∙ h m t l le)

  -- one after the other
  then_runs : (pc middle end : ℕ) (first next : Valuation → Result Valuation TrapKind) → Runs pc middle first → Runs middle end next → Runs pc end (λ s. given (first s) next)
  then_runs pc middle end first next a b memory turns whole K h =
      a memory turns whole (λ s. after (next s) K) (λ m t l le. b m t l K (λ n u k ge. h n u k (omega arith)))
      ∙ after_given (first (valuation_of scope memory turns)) next K

  -- the machine stores a word, and is where it was otherwise
  store_runs : (x : List ℕ) (slot : Slot) (pc : ℕ) (memory : List ℤ) (turns : ℕ) (v : ℤ) → length memory ≡ size → found scope x ≡ Some slot → slice_get code.instrs pc ≡ Some (Store slot.base) → 0 ≡ length slot.sizes → (K : Valuation → Ending) → ((m : List ℤ) (t : ℕ) → length m ≡ size → turns ≤ t → machine code (pc + 1) [] m t ≡ K (valuation_of scope m t)) → machine code pc (v ∷ []) memory turns ≡ K (with_word (valuation_of scope memory turns) x 0 v)
  store_runs x slot pc memory turns v whole f at scalar K h =
      let l = lies_within scope size x slot laid f in
      let w = some_words slot.sizes l.sizes in
      let zero_more : slot.base + 0 ≡ slot.base = omega arith in
      let inside : slot.base < length memory = omega (arith, l.below, l.words, w) in
      step code unrolls pc (v ∷ []) memory turns (Store slot.base) at
      ∙ ap (λ o. present o (λ m. machine code (pc + 1) [] m turns)) (written_within memory slot.base v inside)
      ∙ h (slice_set memory slot.base v) turns (length-set memory slot.base v ∙ whole) (omega arith)
      ∙ ap K (ap (λ k. valuation_of scope (slice_set memory k v) turns) (sym zero_more) ∙ sym (set_found scope size memory turns x slot 0 v laid f (omega (arith, l.words, w))))

  store_at_runs : (x : List ℕ) (slot : Slot) (pc place : ℕ) (memory : List ℤ) (turns : ℕ) (v : ℤ) → length memory ≡ size → found scope x ≡ Some slot → slice_get code.instrs pc ≡ Some (StoreAt slot.base slot.words) → place < slot.words → (K : Valuation → Ending) → ((m : List ℤ) (t : ℕ) → length m ≡ size → turns ≤ t → machine code (pc + 1) [] m t ≡ K (valuation_of scope m t)) → machine code pc (v ∷ pos place ∷ []) memory turns ≡ K (with_word (valuation_of scope memory turns) x place v)
  store_at_runs x slot pc place memory turns v whole f at lt K h =
      let l = lies_within scope size x slot laid f in
      let inside : slot.base + place < length memory = omega (arith, l.below) in
      step code unrolls pc (v ∷ pos place ∷ []) memory turns (StoreAt slot.base slot.words) at
      ∙ ap (λ r. after r (λ k. present (written memory (slot.base + k) v) (λ m. machine code (pc + 1) [] m turns))) (below_size place slot.words lt)
      ∙ ap (λ o. present o (λ m. machine code (pc + 1) [] m turns)) (written_within memory (slot.base + place) v inside)
      ∙ h (slice_set memory (slot.base + place) v) turns (length-set memory (slot.base + place) v ∙ whole) (omega arith)
      ∙ ap K (sym (set_found scope size memory turns x slot place v laid f lt))

  assign_runs : (x : List ℕ) (is : Phrases) (e : Phrase) (pc : ℕ) → HasAt code pc (assign_code scope pc x is e) → FitsAssign scope x is e → Runs pc (pc + assign_size is e) (assigned x is e)
  unfolding place_of
  assign_runs x none e pc has fits memory turns whole K h =
      let s = valuation_of scope memory turns in
      let n = phrase_size e in
      let t = target_slot (found scope x) 0 fits.0 in
      let last = (has_back code pc n (phrase_code scope pc e) (store_code (found scope x) ∷ []) (phrase_length scope pc e) has).0 ∙ ap (λ o. Some (store_code o)) t.1 in
      let place : pc + n + 1 ≡ pc + (n + 1) = omega arith in
      phrase_runs code unrolls scope size laid memory turns whole e pc [] (has_front code pc (phrase_code scope pc e) (store_code (found scope x) ∷ []) has) fits.2
      (λ v. K (with_word s x 0 v))
      (λ v. store_runs x t.0 (pc + n) memory turns v whole t.1 last t.2 K (λ m u l le. ap (λ p. machine code p [] m u) place ∙ h m u l le))
      ∙ after_given (value_of s e) (λ word. Ok (with_word s x 0 word)) K
  assign_runs x (more d is) e pc has fits memory turns whole K h =
      let s = valuation_of scope memory turns in
      let n = index_size (more d is) in
      let m = phrase_size e in
      let t = target_slot (found scope x) (count_of (more d is)) fits.0 in
      let slot = t.0 in
      let l = lies_within scope size x slot laid t.1 in
      let index = index_code scope (pc + 1) (sizes_in (found scope x)) (more d is) in
      let value = phrase_code scope (pc + 1 + n) e in
      let tail = has_back code (pc + 1) n index (value ++ store_at_code (found scope x) ∷ []) (index_length scope (pc + 1) (sizes_in (found scope x)) (more d is)) has.1 in
      let front = subst (λ o. HasAt code (pc + 1) (index_code scope (pc + 1) (sizes_in o) (more d is))) t.1 (has_front code (pc + 1) index (value ++ store_at_code (found scope x) ∷ []) has.1) in
      let last = (has_back code (pc + 1 + n) m value (store_at_code (found scope x) ∷ []) (phrase_length scope (pc + 1 + n) e) tail).0 ∙ ap (λ o. Some (store_at_code o)) t.1 in
      let place : pc + 1 + n + m + 1 ≡ pc + (n + m + 2) = omega arith in
      let small : (0 + 1) * product slot.sizes ≤ 65536 = omega (arith, l.few, l.words) in
      step code unrolls pc [] memory turns (Push (pos 0)) has.0
      ∙ index_runs code unrolls scope size laid memory turns whole (more d is) (pc + 1) slot.sizes 0 [] front fits.1 t.2 l.sizes small
      (λ p. after (given (value_of s e) (λ word. Ok (with_word s x p word))) K)
      (λ p b. phrase_runs code unrolls scope size laid memory turns whole e (pc + 1 + n) (pos p ∷ []) (has_front code (pc + 1 + n) value (store_at_code (found scope x) ∷ []) tail) fits.2
      (λ v. K (with_word s x p v))
      (λ v. store_at_runs x slot (pc + 1 + n + m) p memory turns v whole t.1 last (omega (arith, b, l.words)) K (λ r u q le. ap (λ z. machine code z [] r u) place ∙ h r u q le))
      ∙ after_given (value_of s e) (λ word. Ok (with_word s x p word)) K)
      ∙ (after_given (place_of s (more d is) slot.sizes 0) (λ p. given (value_of s e) (λ word. Ok (with_word s x p word))) K
      ∙ ap (λ z. after (given (place_of s (more d is) z 0) (λ p. given (value_of s e) (λ word. Ok (with_word s x p word)))) K) (sym (sizes_found scope memory turns x slot t.1)))

  -- a condition, and a jump where it does not hold
  chosen_runs : (pc : ℕ) (e : Phrase) (other end : ℕ) (one two : Valuation → Result Valuation TrapKind) → HasAt code pc (phrase_code scope pc e) → slice_get code.instrs (pc + phrase_size e) ≡ Some (JumpZero other) → Fits scope e → Runs (pc + phrase_size e + 1) end one → Runs other end two → Runs pc end (chosen e one two)
  chosen_runs pc e other end one two has at fits a b memory turns whole K h =
      let s = valuation_of scope memory turns in
      let n = phrase_size e in
      let by : (t : Bool) → machine code (cond t (pc + n + 1) other) [] memory turns ≡ after ((cond t one two) s) K =
      λ t. elim t as (λ t. machine code (cond t (pc + n + 1) other) [] memory turns ≡ after ((cond t one two) s) K)
      [ true ↦ a memory turns whole K h | false ↦ b memory turns whole K h ] in
      phrase_runs code unrolls scope size laid memory turns whole e pc [] has fits (λ x. after ((cond (holds x) one two) s) K)
      (λ x. step code unrolls (pc + n) (x ∷ []) memory turns (JumpZero other) at ∙ by (holds x))
      ∙ after_given (value_of s e) (λ x. (cond (holds x) one two) s) K

  skip_runs : (pc : ℕ) → Runs pc pc Ok
  skip_runs pc memory turns whole K h = h memory turns whole (omega arith)

  jump_runs : (pc middle end : ℕ) (run : Valuation → Result Valuation TrapKind) → slice_get code.instrs middle ≡ Some (Jump end) → Runs pc middle run → Runs pc end run
  jump_runs pc middle end run at a memory turns whole K h =
      a memory turns whole K (λ m t l le. step code unrolls middle [] m t (Jump end) at ∙ h m t l le)

  -- a loop from its condition on, if it goes well from there after each turn
  once_runs : (e : Phrase) (body : Statements) (top test end : ℕ) → HasAt code test (phrase_code scope test e) → slice_get code.instrs (test + phrase_size e) ≡ Some (JumpNonZero top) → slice_get code.instrs top ≡ Some Turn → test + phrase_size e + 1 ≡ end → Fits scope e → Runs (top + 1) test (run_of code.budget body) → (memory : List ℤ) (turns : ℕ) → length memory ≡ size → (K : Valuation → Ending) → ((m : List ℤ) (t : ℕ) → length m ≡ size → turns ≤ t → machine code end [] m t ≡ K (valuation_of scope m t)) → (turns < code.budget → (m : List ℤ) (t : ℕ) → length m ≡ size → turns + 1 ≤ t → machine code test [] m t ≡ after (loop_of code.budget e body (valuation_of scope m t)) K) → machine code test [] memory turns ≡ after (loop_of code.budget e body (valuation_of scope memory turns)) K
  once_runs e body top test end has at turn place fits b memory turns whole K h again =
      let s = valuation_of scope memory turns in
      let n = phrase_size e in
      let run = run_of code.budget body in
      let loop = loop_of code.budget e body in
      let go = λ (s : Valuation). given (given (turned code.budget s) run) loop in
      let more : (t : Bool) → nat_lt turns code.budget ≡ t → cond t (machine code (top + 1) [] memory (turns + 1)) (Some (Err Budget)) ≡ after (given (given (cond t (Ok (valuation_of scope memory (turns + 1))) (Err Budget)) run) loop) K =
      λ t. elim t as (λ t. nat_lt turns code.budget ≡ t → cond t (machine code (top + 1) [] memory (turns + 1)) (Some (Err Budget)) ≡ after (given (given (cond t (Ok (valuation_of scope memory (turns + 1))) (Err Budget)) run) loop) K) [
        | true ↦ λ q.
            b memory (turns + 1) whole (λ s. after (loop s) K) (λ m u l le. again (ltb-true turns code.budget q) m u l le)
            ∙ after_given (run (valuation_of scope memory (turns + 1))) loop K
        | false ↦ λ q. refl
      ] in
      let by : (t : Bool) → machine code (cond t top (test + n + 1)) [] memory turns ≡ after ((cond t go Ok) s) K =
      λ t. elim t as (λ t. machine code (cond t top (test + n + 1)) [] memory turns ≡ after ((cond t go Ok) s) K) [
        | true ↦ step code unrolls top [] memory turns Turn turn ∙ more (nat_lt turns code.budget) refl
        | false ↦ ap (λ p. machine code p [] memory turns) place ∙ h memory turns whole (omega arith)
      ] in
      phrase_runs code unrolls scope size laid memory turns whole e test [] has fits (λ x. after ((cond (holds x) go Ok) s) K)
      (λ x. step code unrolls (test + n) (x ∷ []) memory turns (JumpNonZero top) at ∙ by (holds x))
      ∙ after_given (value_of s e) (λ x. (cond (holds x) go Ok) s) K
      ∙ ap (λ r. after r K) (sym (loop_unrolls code.budget e body s))

  -- a loop from its condition on, as long as so many turns are left
  turns_run : (e : Phrase) (body : Statements) (top test end : ℕ) → HasAt code test (phrase_code scope test e) → slice_get code.instrs (test + phrase_size e) ≡ Some (JumpNonZero top) → slice_get code.instrs top ≡ Some Turn → test + phrase_size e + 1 ≡ end → Fits scope e → Runs (top + 1) test (run_of code.budget body) → (left : ℕ) (memory : List ℤ) (turns : ℕ) → code.budget ≤ turns + left → length memory ≡ size → (K : Valuation → Ending) → ((m : List ℤ) (t : ℕ) → length m ≡ size → turns ≤ t → machine code end [] m t ≡ K (valuation_of scope m t)) → machine code test [] memory turns ≡ after (loop_of code.budget e body (valuation_of scope memory turns)) K
  turns_run e body top test end has at turn place fits b zero memory turns few whole K h =
      once_runs e body top test end has at turn place fits b memory turns whole K h (λ q. absurd (omega arith))
  turns_run e body top test end has at turn place fits b (suc left) memory turns few whole K h =
      once_runs e body top test end has at turn place fits b memory turns whole K h
      (λ q m t l le. turns_run e body top test end has at turn place fits b left m t (omega arith) l K (λ n u k ge. h n u k (omega arith)))

  loop_runs : (e : Phrase) (body : Statements) (pc n : ℕ) (own : ℕ → List Instr) → HasAt code pc (loop_code pc own n (λ p. phrase_code scope p e)) → length (own (pc + 2)) ≡ n → Fits scope e → (HasAt code (pc + 2) (own (pc + 2)) → Runs (pc + 2) (pc + 2 + n) (run_of code.budget body)) → Runs pc (pc + loop_size n (phrase_size e)) (loop_of code.budget e body)
  loop_runs e body pc n own has len fits b memory turns whole K h =
      let test = pc + 2 + n in
      let m = phrase_size e in
      let last = JumpNonZero (pc + 1) ∷ [] in
      let two : pc + 1 + 1 ≡ pc + 2 = omega arith in
      let inner = subst (λ p. HasAt code p (own (pc + 2) ++ (phrase_code scope test e ++ last))) two has.1.1 in
      let tail = has_back code (pc + 2) n (own (pc + 2)) (phrase_code scope test e ++ last) len inner in
      let at = (has_back code test m (phrase_code scope test e) last (phrase_length scope test e) tail).0 in
      let end : test + m + 1 ≡ pc + loop_size n m = omega arith in
      let body_runs = subst (λ p. Runs p test (run_of code.budget body)) (sym two) (b (has_front code (pc + 2) (own (pc + 2)) (phrase_code scope test e ++ last) inner)) in
      step code unrolls pc [] memory turns (Jump test) has.0
      ∙ turns_run e body (pc + 1) test (pc + loop_size n m) (has_front code test (phrase_code scope test e) last tail) at has.1.0 end fits body_runs code.budget memory turns (omega arith) whole K h

  same_runs : (pc end : ℕ) (run other : Valuation → Result Valuation TrapKind) → ((s : Valuation) → run s ≡ other s) → Runs pc end run → Runs pc end other
  same_runs pc end run other e r memory turns whole K h =
      r memory turns whole K h ∙ ap (λ z. after z K) (e (valuation_of scope memory turns))

  -- the body of a `for`, and the assignment after it
  stepped_runs : (body : Statements) (y : Spot) (js : Phrases) (f : Phrase) (pc : ℕ) → HasAt code pc (statement_code scope pc body ++ assign_code scope (pc + statement_size body) y.name js f) → FitsAssign scope y.name js f → (HasAt code pc (statement_code scope pc body) → Runs pc (pc + statement_size body) (run_of code.budget body)) → Runs pc (pc + (statement_size body + assign_size js f)) (run_of code.budget (join body (assign y js f done)))
  unfolding run_of run_by
  stepped_runs body y js f pc has fits b =
      let n = statement_size body in
      let own = statement_code scope pc body in
      let step_of = assign_code scope (pc + n) y.name js f in
      let end : pc + n + assign_size js f ≡ pc + (n + assign_size js f) = omega arith in
      let tail = has_back code pc n own step_of (statement_length scope pc body) has in
      let loop = loop_of code.budget in
      ends_at pc (pc + n + assign_size js f) _ (run_of code.budget (join body (assign y js f done))) end
      (same_runs pc (pc + n + assign_size js f) (λ s. given (run_of code.budget body s) (assigned y.name js f)) (run_of code.budget (join body (assign y js f done)))
      (λ s. given_same (run_by loop body s) (assigned y.name js f) (run_by loop (assign y js f done)) (λ t q. sym (given_done (assigned y.name js f t))) ∙ sym (run_join loop body (assign y js f done) s))
      (then_runs pc (pc + n) (pc + n + assign_size js f) (run_of code.budget body) (assigned y.name js f)
      (b (has_front code pc own step_of has)) (assign_runs y.name js f (pc + n) tail fits)))

  pub statements_run : (c : Statements) (pc : ℕ) → HasAt code pc (statement_code scope pc c) → FitsCode scope c → Runs pc (pc + statement_size c) (run_of code.budget c)
  unfolding run_of run_by
  statements_run done pc has fits = let e : pc ≡ pc + 0 = omega arith in ends_at pc pc (pc + 0) Ok e (skip_runs pc)
  statements_run (assign x is e next) pc has fits =
      let n = assign_size is e in
      let own = assign_code scope pc x.name is e in
      let end : pc + n + statement_size next ≡ pc + (n + statement_size next) = omega arith in
      let tail = has_back code pc n own (statement_code scope (pc + n) next) (assign_length scope pc x.name is e) has in
      ends_at pc (pc + n + statement_size next) (pc + (n + statement_size next)) (λ s. given (assigned x.name is e s) (run_of code.budget next)) end
      (then_runs pc (pc + n) (pc + n + statement_size next) (assigned x.name is e) (run_of code.budget next)
      (assign_runs x.name is e pc (has_front code pc own (statement_code scope (pc + n) next) has) fits.0)
      (statements_run next (pc + n) tail fits.1))
  statements_run (if_ e if_so next) pc has fits =
      let run = run_of code.budget in
      let n = phrase_size e in
      let test = pc + n in
      let end = test + 1 + statement_size if_so in
      let a = statement_code scope (test + 1) if_so in
      let b = statement_code scope end next in
      let last : end + statement_size next ≡ pc + (n + 1 + statement_size if_so + statement_size next) = omega arith in
      let tail = has_back code pc n (phrase_code scope pc e) (JumpZero end ∷ (a ++ b)) (phrase_length scope pc e) has in
      let back = has_back code (test + 1) (statement_size if_so) a b (statement_length scope (test + 1) if_so) tail.1 in
      ends_at pc (end + statement_size next) _ (λ s. given (chosen e (run if_so) Ok s) (run next)) last
      (then_runs pc end (end + statement_size next) (chosen e (run if_so) Ok) (run next)
      (chosen_runs pc e end end (run if_so) Ok (has_front code pc (phrase_code scope pc e) _ has) tail.0 fits.0
      (statements_run if_so (test + 1) (has_front code (test + 1) a b tail.1) fits.1)
      (skip_runs end))
      (statements_run next end back fits.2))
  statements_run (if_else e if_so if_not next) pc has fits =
      let run = run_of code.budget in
      let n = phrase_size e in
      let test = pc + n in
      let middle = test + 1 + statement_size if_so in
      let other = middle + 1 in
      let end = other + statement_size if_not in
      let a = statement_code scope (test + 1) if_so in
      let b = statement_code scope other if_not in
      let d = statement_code scope end next in
      let last : end + statement_size next ≡ pc + (n + 1 + statement_size if_so + 1 + statement_size if_not + statement_size next) = omega arith in
      let tail = has_back code pc n (phrase_code scope pc e) (JumpZero other ∷ (a ++ (Jump end ∷ (b ++ d)))) (phrase_length scope pc e) has in
      let back = has_back code (test + 1) (statement_size if_so) a (Jump end ∷ (b ++ d)) (statement_length scope (test + 1) if_so) tail.1 in
      let rest = has_back code other (statement_size if_not) b d (statement_length scope other if_not) back.1 in
      ends_at pc (end + statement_size next) _ (λ s. given (chosen e (run if_so) (run if_not) s) (run next)) last
      (then_runs pc end (end + statement_size next) (chosen e (run if_so) (run if_not)) (run next)
      (chosen_runs pc e other end (run if_so) (run if_not) (has_front code pc (phrase_code scope pc e) _ has) tail.0 fits.0
      (jump_runs (test + 1) middle end (run if_so) back.0 (statements_run if_so (test + 1) (has_front code (test + 1) a _ tail.1) fits.1))
      (statements_run if_not other (has_front code other b d back.1) fits.2))
      (statements_run next end rest fits.3))
  statements_run (while_ e body next) pc has fits =
      let run = run_of code.budget in
      let n = statement_size body in
      let size_of = loop_size n (phrase_size e) in
      let own = λ (p : ℕ). statement_code scope p body in
      let condition = λ (p : ℕ). phrase_code scope p e in
      let rest = statement_code scope (pc + size_of) next in
      let length_of = loop_length pc own n condition (phrase_size e) (statement_length scope (pc + 2) body) (phrase_length scope (pc + 2 + n) e) in
      let end : pc + size_of + statement_size next ≡ pc + (size_of + statement_size next) = omega arith in
      ends_at pc (pc + size_of + statement_size next) _ (λ s. given (loop_of code.budget e body s) (run next)) end
      (then_runs pc (pc + size_of) (pc + size_of + statement_size next) (loop_of code.budget e body) (run next)
      (loop_runs e body pc n own (has_front code pc (loop_code pc own n condition) rest has) (statement_length scope (pc + 2) body) fits.0 (λ h. statements_run body (pc + 2) h fits.1))
      (statements_run next (pc + size_of) (has_back code pc size_of (loop_code pc own n condition) rest length_of has) fits.2))
  statements_run (for_ x is e w y js f body next) pc has fits =
      let run = run_of code.budget in
      let m = assign_size is e in
      let start = pc + m in
      let n = statement_size body + assign_size js f in
      let size_of = loop_size n (phrase_size w) in
      let own = λ (p : ℕ). statement_code scope p body ++ assign_code scope (p + statement_size body) y.name js f in
      let condition = λ (p : ℕ). phrase_code scope p w in
      let first = assign_code scope pc x.name is e in
      let loop = loop_code start own n condition in
      let rest = statement_code scope (start + size_of) next in
      let turn = join body (assign y js f done) in
      let turn_length = stepped_length scope (start + 2) body y.name js f in
      let length_of = loop_length start own n condition (phrase_size w) turn_length (phrase_length scope (start + 2 + n) w) in
      let tail = has_back code pc m first (loop ++ rest) (assign_length scope pc x.name is e) has in
      let end : start + size_of + statement_size next ≡ pc + (m + size_of + statement_size next) = omega arith in
      ends_at pc (start + size_of + statement_size next) _ (λ s. given (given (assigned x.name is e s) (loop_of code.budget w turn)) (run next)) end
      (then_runs pc (start + size_of) (start + size_of + statement_size next) (λ s. given (assigned x.name is e s) (loop_of code.budget w turn)) (run next)
      (then_runs pc start (start + size_of) (assigned x.name is e) (loop_of code.budget w turn)
      (assign_runs x.name is e pc (has_front code pc first (loop ++ rest) has) fits.0)
      (loop_runs w turn start n own (has_front code start loop rest tail) turn_length fits.1
      (λ h. stepped_runs body y js f (start + 2) h fits.2 (λ k. statements_run body (start + 2) k fits.3))))
      (statements_run next (start + size_of) (has_back code start size_of loop rest length_of tail) fits.4))
