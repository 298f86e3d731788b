-- The code of statements keeps the rules.
use Rattle.std.proofs.Common.{◌≡◌, ℕ, pos, ◌+◌, ◌-◌, ◌<◌, List, [], ◌∷◌, ◌++◌, length, Option, Some, None, refl, sym, ap, ◌∙◌, subst, arith, length-append}
use Rattle.std.specs.Prelude.{slice_get}
use Rattle.std.proofs.lemmas.Option.{same_Some}
use Rattle.p3l_ast.specs.Tree.{Phrase, Phrases, none, more, Statements, done, assign, if_, if_else, while_, for_}
use Rattle.p3l_code.specs.declared.instr.Instr.{Instr}
use Rattle.p3l_code.specs.declared.instr.Instr.TheVariants.{Push, Store, StoreAt, Jump, JumpZero, JumpNonZero, Turn}
use Rattle.p3l_code.specs.declared.instr.Code.{Code}
use Rattle.p3l_code.specs.Safe.{IsWithin, IsFine}
use Rattle.p3l_compile.specs.declared.scope.Slot.{Slot}
use Rattle.p3l_compile.specs.Scope.{Names, found, IsLaid}
use Rattle.p3l_compile.specs.Phrase.{phrase_size, index_size, phrase_code, index_code, sizes_in, count_of, Fits, FitsAll}
use Rattle.p3l_compile.specs.Statement.{assign_size, loop_size, statement_size, store_code, store_at_code, assign_code, loop_code, statement_code, IsTarget, FitsAssign, FitsCode}
use Rattle.p3l_compile.specs.Limits.{IsLimited, AreLimited, KeepsLimits}
use Rattle.p3l_compile.specs.Depth.{phrase_depths, index_depths}
use Rattle.p3l_compile.proofs.Bounds.{limited_depth, limited_index_depth}
use Rattle.p3l_compile.proofs.Scopes.{lies_within}
use Rattle.p3l_compile.proofs.Phrases.{phrase_length, index_length, some_words}
use Rattle.p3l_compile.proofs.Statements.{statement_length, assign_length, loop_length, stepped_length}
use Rattle.p3l_compile.proofs.Steps.{HasAt, has_front, has_back}
use Rattle.p3l_compile.proofs.Depths.{DepthsAt, FineAt, depths_front, depths_back, fine_join, IsOne, one_fine, test_fine, jump_fine, phrase_first, index_first, depths_length, indices_length, phrase_fine, index_fine}

-- the depth of each instruction of statements, which begin and end with an empty stack
abbrev pub assign_depths : Phrases → Phrase → List ℕ
assign_depths none e = phrase_depths 0 e ++ 1 ∷ []
assign_depths (more d is) e = 0 ∷ (index_depths 1 (more d is) ++ (phrase_depths 1 e ++ 2 ∷ []))

abbrev pub loop_depths : List ℕ → List ℕ → List ℕ
loop_depths body condition = 0 ∷ 0 ∷ (body ++ (condition ++ 1 ∷ []))

abbrev pub statement_depths : Statements → List ℕ
statement_depths done = []
statement_depths (assign x is e next) = assign_depths is e ++ statement_depths next
statement_depths (if_ e t next) = phrase_depths 0 e ++ (1 ∷ (statement_depths t ++ statement_depths next))
statement_depths (if_else e t f next) =
    phrase_depths 0 e ++ (1 ∷ (statement_depths t ++ (0 ∷ (statement_depths f ++ statement_depths next))))
statement_depths (while_ e body next) = loop_depths (statement_depths body) (phrase_depths 0 e) ++ statement_depths next
statement_depths (for_ x is e w y js f body next) =
    assign_depths is e ++ (loop_depths (statement_depths body ++ assign_depths js f) (phrase_depths 0 w) ++ statement_depths next)

pub assign_depths_length : (is : Phrases) (e : Phrase) → length (assign_depths is e) ≡ assign_size is e
assign_depths_length none e = let h = depths_length 0 e in omega (arith, length-append (phrase_depths 0 e) (1 ∷ []))
assign_depths_length (more d is) e =
    let h = depths_length 1 e in
    let k = indices_length 1 (more d is) in
    omega (arith, length-append (index_depths 1 (more d is)) (phrase_depths 1 e ++ 2 ∷ []), length-append (phrase_depths 1 e) (2 ∷ []))

pub loop_depths_length : (body condition : List ℕ) (n m : ℕ) → length body ≡ n → length condition ≡ m → length (loop_depths body condition) ≡ loop_size n m
loop_depths_length body condition n m h k =
    omega (arith, length-append body (condition ++ 1 ∷ []), length-append condition (1 ∷ []))

pub statement_depths_length : (c : Statements) → length (statement_depths c) ≡ statement_size c
statement_depths_length done = refl
statement_depths_length (assign x is e next) =
    let h = assign_depths_length is e in
    let k = statement_depths_length next in
    omega (arith, length-append (assign_depths is e) (statement_depths next))
statement_depths_length (if_ e t next) =
    let h = depths_length 0 e in
    let a = statement_depths_length t in
    let k = statement_depths_length next in
    omega (arith, length-append (phrase_depths 0 e) (1 ∷ (statement_depths t ++ statement_depths next)), length-append (statement_depths t) (statement_depths next))
statement_depths_length (if_else e t f next) =
    let h = depths_length 0 e in
    let a = statement_depths_length t in
    let b = statement_depths_length f in
    let k = statement_depths_length next in
    omega (arith, length-append (phrase_depths 0 e) (1 ∷ (statement_depths t ++ (0 ∷ (statement_depths f ++ statement_depths next)))), length-append (statement_depths t) (0 ∷ (statement_depths f ++ statement_depths next)), length-append (statement_depths f) (statement_depths next))
statement_depths_length (while_ e body next) =
    let a = loop_depths_length (statement_depths body) (phrase_depths 0 e) (statement_size body) (phrase_size e) (statement_depths_length body) (depths_length 0 e) in
    let k = statement_depths_length next in
    omega (arith, length-append (loop_depths (statement_depths body) (phrase_depths 0 e)) (statement_depths next))
statement_depths_length (for_ x is e w y js f body next) =
    let h = assign_depths_length is e in
    let g = assign_depths_length js f in
    let b = statement_depths_length body in
    let inner = statement_depths body ++ assign_depths js f in
    let n : length inner ≡ statement_size body + assign_size js f = omega (arith, length-append (statement_depths body) (assign_depths js f)) in
    let a = loop_depths_length inner (phrase_depths 0 w) (statement_size body + assign_size js f) (phrase_size w) n (depths_length 0 w) in
    let k = statement_depths_length next in
    omega (arith, length-append (assign_depths is e) (loop_depths inner (phrase_depths 0 w) ++ statement_depths next), length-append (loop_depths inner (phrase_depths 0 w)) (statement_depths next))

-- statements begin with an empty stack
pub assign_first : (table : List ℕ) (is : Phrases) (e : Phrase) (pc : ℕ) → DepthsAt table pc (assign_depths is e) → slice_get table pc ≡ Some 0
assign_first table none e pc h = phrase_first table e pc 0 (depths_front table pc (phrase_depths 0 e) (1 ∷ []) h)
assign_first table (more d is) e pc h = h.0

pub statement_first : (table : List ℕ) (c : Statements) (pc : ℕ) → DepthsAt table pc (statement_depths c) → slice_get table (pc + statement_size c) ≡ Some 0 → slice_get table pc ≡ Some 0
statement_first table done pc h end = let q : pc + 0 ≡ pc = omega arith in subst (λ k. slice_get table k ≡ Some 0) q end
statement_first table (assign x is e next) pc h end = assign_first table is e pc (depths_front table pc (assign_depths is e) (statement_depths next) h)
statement_first table (if_ e t next) pc h end = phrase_first table e pc 0 (depths_front table pc (phrase_depths 0 e) _ h)
statement_first table (if_else e t f next) pc h end = phrase_first table e pc 0 (depths_front table pc (phrase_depths 0 e) _ h)
statement_first table (while_ e body next) pc h end = h.0
statement_first table (for_ x is e w y js f body next) pc h end = assign_first table is e pc (depths_front table pc (assign_depths is e) _ h)

-- a place that is the same number has the same depth
pub here : (table : List ℕ) (p q d : ℕ) → p ≡ q → slice_get table p ≡ Some d → slice_get table q ≡ Some d
here table p q d e h = subst (λ k. slice_get table k ≡ Some d) e h

module _ (code : Code) (table : List ℕ) (scope : Names) (laid : IsLaid scope code.memory) where
  store_within : (x : List ℕ) (slot : Slot) → found scope x ≡ Some slot → slot.base < code.memory
  store_within x slot f =
      let l = lies_within scope code.memory x slot laid f in
      let w = some_words slot.sizes l.sizes in
      omega (arith, l.below, l.words, w)

  store_at_within : (x : List ℕ) (slot : Slot) → found scope x ≡ Some slot → IsWithin code.memory (StoreAt slot.base slot.words)
  store_at_within x slot f =
      let l = lies_within scope code.memory x slot laid f in
      let w = some_words slot.sizes l.sizes in
      (omega (arith, l.below), omega (arith, l.words, w))

  -- a word, and where it goes
  scalar_fine : (x : List ℕ) (e : Phrase) (pc : ℕ) (o : Option Slot) → found scope x ≡ o → IsTarget o 0 → Fits scope e → IsLimited e → pc + (phrase_size e + 1) < length code.instrs → DepthsAt table pc (phrase_depths 0 e ++ 1 ∷ []) → slice_get table (pc + (phrase_size e + 1)) ≡ Some 0 → FineAt code table pc (phrase_code scope pc e ++ store_code o ∷ [])
  scalar_fine x e pc None f target fits limited inside has end = absurd target
  scalar_fine x e pc (Some slot) f target fits limited inside has end =
      let n = phrase_size e in
      let small = limited_depth e limited in
      let own = depths_front table pc (phrase_depths 0 e) (1 ∷ []) has in
      let last = (depths_back table pc n (phrase_depths 0 e) (1 ∷ []) (depths_length 0 e) has).0 in
      let one : slice_get table (pc + n) ≡ Some (0 + 1) = last in
      let q : pc + (n + 1) ≡ pc + n + 1 = omega arith in
      let b : 1 - 1 + 0 ≡ 0 = omega arith in
      fine_join code table pc n (phrase_code scope pc e) (Store slot.base ∷ []) (phrase_length scope pc e)
      (phrase_fine code table scope laid e pc 0 fits (omega arith) (omega arith) own one)
      (one_fine code table (pc + n) 1 0 (Store slot.base) last (store_within x slot f) refl refl (λ n. tt) (omega arith) b (omega arith) (here table (pc + (n + 1)) (pc + n + 1) 0 q end), tt)

  -- the place of an element, a word, and where it goes
  element_fine : (x : List ℕ) (d : Phrase) (is : Phrases) (e : Phrase) (pc : ℕ) (o : Option Slot) → found scope x ≡ o → IsTarget o (count_of is + 1) → FitsAll scope (more d is) → Fits scope e → AreLimited (more d is) → IsLimited e → pc + (index_size (more d is) + phrase_size e + 2) < length code.instrs → DepthsAt table pc (0 ∷ (index_depths 1 (more d is) ++ (phrase_depths 1 e ++ 2 ∷ []))) → slice_get table (pc + (index_size (more d is) + phrase_size e + 2)) ≡ Some 0 → FineAt code table pc (Push (pos 0) ∷ (index_code scope (pc + 1) (sizes_in o) (more d is) ++ (phrase_code scope (pc + 1 + index_size (more d is)) e ++ store_at_code o ∷ [])))
  element_fine x d is e pc None f target fits own_fits limited own_limited inside has end = absurd target
  element_fine x d is e pc (Some slot) f target fits own_fits limited own_limited inside has end =
      let m = index_size (more d is) in
      let n = phrase_size e in
      let p = pc + 1 + m in
      let l = lies_within scope code.memory x slot laid f in
      let small = limited_depth e own_limited in
      let flat = limited_index_depth (more d is) limited in
      let rest = phrase_depths 1 e ++ 2 ∷ [] in
      let index = depths_front table (pc + 1) (index_depths 1 (more d is)) rest has.1 in
      let tail = depths_back table (pc + 1) m (index_depths 1 (more d is)) rest (indices_length 1 (more d is)) has.1 in
      let value = depths_front table p (phrase_depths 1 e) (2 ∷ []) tail in
      let last = (depths_back table p n (phrase_depths 1 e) (2 ∷ []) (depths_length 1 e) tail).0 in
      let at_value = phrase_first table e p 1 value in
      let two : slice_get table (p + n) ≡ Some (1 + 1) = last in
      let q : pc + (m + n + 2) ≡ p + n + 1 = omega arith in
      let b : 0 - 0 + 1 ≡ 1 = omega arith in
      let b2 : 2 - 2 + 0 ≡ 0 = omega arith in (
        one_fine code table pc 0 1 (Push (pos 0)) has.0 tt refl refl (λ n. tt) (omega arith) b (omega arith) (index_first table (more d is) (pc + 1) 1 index at_value),
        fine_join code table (pc + 1) m (index_code scope (pc + 1) slot.sizes (more d is)) _ (index_length scope (pc + 1) slot.sizes (more d is))
            (index_fine code table scope laid (more d is) (pc + 1) 1 slot.sizes fits target l.sizes (omega arith) (omega arith) (omega arith) index at_value)
            (fine_join code table p n (phrase_code scope p e) (StoreAt slot.base slot.words ∷ []) (phrase_length scope p e)
            (phrase_fine code table scope laid e p 1 own_fits (omega arith) (omega arith) value two)
            (one_fine code table (p + n) 2 0 (StoreAt slot.base slot.words) last (store_at_within x slot f) refl refl (λ n. tt) (omega arith) b2 (omega arith) (here table (pc + (m + n + 2)) (p + n + 1) 0 q end), tt)),
      )

  assign_fine : (x : List ℕ) (is : Phrases) (e : Phrase) (pc : ℕ) → FitsAssign scope x is e → AreLimited is → IsLimited e → pc + assign_size is e < length code.instrs → DepthsAt table pc (assign_depths is e) → slice_get table (pc + assign_size is e) ≡ Some 0 → FineAt code table pc (assign_code scope pc x is e)
  assign_fine x none e pc fits limited own inside has end =
      scalar_fine x e pc (found scope x) refl fits.0 fits.2 own inside has end
  assign_fine x (more d is) e pc fits limited own inside has end =
      element_fine x d is e pc (found scope x) refl fits.0 fits.1 fits.2 limited own inside has end

  -- the jump back to the turn of a loop
  back_fine : (pc top : ℕ) → slice_get table pc ≡ Some 1 → top < length code.instrs → slice_get code.instrs top ≡ Some Turn → slice_get table top ≡ Some 0 → slice_get table (pc + 1) ≡ Some 0 → IsOne code table pc (JumpNonZero top)
  back_fine pc top at inside turn start after e h =
      let q : 1 ≡ e = same_Some 1 e (sym at ∙ h) in
      let b : 0 ≡ 1 - 1 + 0 = omega arith in
      subst (IsFine code table pc (JumpNonZero top)) q (record {
        within = tt;
        leads = (inside, λ back. turn);
        pops_enough = omega arith;
        shallow = omega arith;
        next = after ∙ ap Some b;
        jumps = start ∙ ap Some b;
        ends = tt;
      })

  -- a loop with any body
  loop_fine : (pc n : ℕ) (body : ℕ → List Instr) (ds : List ℕ) (e : Phrase) → length (body (pc + 2)) ≡ n → length ds ≡ n → Fits scope e → IsLimited e → pc + loop_size n (phrase_size e) < length code.instrs → slice_get code.instrs (pc + 1) ≡ Some Turn → DepthsAt table pc (loop_depths ds (phrase_depths 0 e)) → slice_get table (pc + loop_size n (phrase_size e)) ≡ Some 0 → (DepthsAt table (pc + 2) ds → slice_get table (pc + 2 + n) ≡ Some 0 → slice_get table (pc + 2) ≡ Some 0) → (DepthsAt table (pc + 2) ds → slice_get table (pc + 2 + n) ≡ Some 0 → FineAt code table (pc + 2) (body (pc + 2))) → FineAt code table pc (loop_code pc body n (λ p. phrase_code scope p e))
  loop_fine pc n body ds e long deep fits limited inside turn has end first B =
      let m = phrase_size e in
      let p = pc + 2 + n in
      let small = limited_depth e limited in
      let rest = phrase_depths 0 e ++ 1 ∷ [] in
      let two : pc + 1 + 1 ≡ pc + 2 = omega arith in
      let inner = subst (λ k. DepthsAt table k (ds ++ rest)) two has.1.1 in
      let own = depths_front table (pc + 2) ds rest inner in
      let tail = depths_back table (pc + 2) n ds rest deep inner in
      let test = depths_front table p (phrase_depths 0 e) (1 ∷ []) tail in
      let last = (depths_back table p m (phrase_depths 0 e) (1 ∷ []) (depths_length 0 e) tail).0 in
      let one : slice_get table (p + m) ≡ Some (0 + 1) = last in
      let at_test = phrase_first table e p 0 test in
      let q : pc + (n + m + 3) ≡ p + m + 1 = omega arith in
      let b : 0 - 0 + 0 ≡ 0 = omega arith in
      let start = first own at_test in (
        jump_fine code table pc 0 p has.0 (omega arith) (omega arith) (omega arith) at_test,
        (
          one_fine code table (pc + 1) 0 0 Turn has.1.0 tt refl refl (λ n. tt) (omega arith) b (omega arith) (here table (pc + 2) (pc + 1 + 1) 0 (sym two) start),
          subst (λ k. FineAt code table k (body (pc + 2) ++ (phrase_code scope p e ++ JumpNonZero (pc + 1) ∷ []))) (sym two)
              (fine_join code table (pc + 2) n (body (pc + 2)) _ long (B own at_test)
              (fine_join code table p m (phrase_code scope p e) (JumpNonZero (pc + 1) ∷ []) (phrase_length scope p e)
              (phrase_fine code table scope laid e p 0 fits (omega arith) (omega arith) test one)
              (back_fine (p + m) (pc + 1) last (omega arith) turn has.1.0 (here table (pc + (n + m + 3)) (p + m + 1) 0 q end), tt))),
        ),
      )

  pub statement_fine : (c : Statements) (pc : ℕ) → HasAt code pc (statement_code scope pc c) → FitsCode scope c → KeepsLimits c → pc + statement_size c < length code.instrs → DepthsAt table pc (statement_depths c) → slice_get table (pc + statement_size c) ≡ Some 0 → FineAt code table pc (statement_code scope pc c)
  statement_fine done pc at fits limits inside has end = tt
  statement_fine (assign x is e next) pc at fits limits inside has end =
      let m = assign_size is e in
      let own = depths_front table pc (assign_depths is e) (statement_depths next) has in
      let back = depths_back table pc m (assign_depths is e) (statement_depths next) (assign_depths_length is e) has in
      let q : pc + (m + statement_size next) ≡ pc + m + statement_size next = omega arith in
      let end' = here table (pc + (m + statement_size next)) (pc + m + statement_size next) 0 q end in
      fine_join code table pc m (assign_code scope pc x.name is e) (statement_code scope (pc + m) next) (assign_length scope pc x.name is e)
      (assign_fine x.name is e pc fits.0 limits.0 limits.1 (omega arith) own (statement_first table next (pc + m) back end'))
      (statement_fine next (pc + m) (has_back code pc m (assign_code scope pc x.name is e) (statement_code scope (pc + m) next) (assign_length scope pc x.name is e) at) fits.1 limits.2 (omega arith) back end')
  statement_fine (if_ e t next) pc at fits limits inside has end =
      let m = phrase_size e in
      let p = pc + m + 1 in
      let z = p + statement_size t in
      let small = limited_depth e limits.0 in
      let own = depths_front table pc (phrase_depths 0 e) (1 ∷ (statement_depths t ++ statement_depths next)) has in
      let back = depths_back table pc m (phrase_depths 0 e) (1 ∷ (statement_depths t ++ statement_depths next)) (depths_length 0 e) has in
      let one : slice_get table (pc + m) ≡ Some (0 + 1) = back.0 in
      let inner = depths_front table p (statement_depths t) (statement_depths next) back.1 in
      let rest = depths_back table p (statement_size t) (statement_depths t) (statement_depths next) (statement_depths_length t) back.1 in
      let q : pc + (m + 1 + statement_size t + statement_size next) ≡ z + statement_size next = omega arith in
      let end' = here table (pc + (m + 1 + statement_size t + statement_size next)) (z + statement_size next) 0 q end in
      let at_next = statement_first table next z rest end' in
      let at_t = statement_first table t p inner at_next in
      let code_t = statement_code scope p t in
      let code_next = statement_code scope z next in
      let at' = (has_back code pc m (phrase_code scope pc e) (JumpZero z ∷ (code_t ++ code_next)) (phrase_length scope pc e) at).1 in
      let b : 0 + 1 - 1 + 0 ≡ 0 = omega arith in
      fine_join code table pc m (phrase_code scope pc e) (JumpZero z ∷ (code_t ++ code_next)) (phrase_length scope pc e)
      (phrase_fine code table scope laid e pc 0 fits.0 (omega arith) (omega arith) own one) (
        test_fine code table (pc + m) 0 z (JumpZero z) one tt refl refl (λ n. tt) (omega arith) b (omega arith) (omega arith) (omega arith) at_t at_next,
        fine_join code table p (statement_size t) code_t code_next (statement_length scope p t)
            (statement_fine t p (has_front code p code_t code_next at') fits.1 limits.1 (omega arith) inner at_next)
            (statement_fine next z (has_back code p (statement_size t) code_t code_next (statement_length scope p t) at') fits.2 limits.2 (omega arith) rest end'),
      )
  statement_fine (if_else e t f next) pc at fits limits inside has end =
      let m = phrase_size e in
      let p = pc + m + 1 in
      let o = p + statement_size t + 1 in
      let z = o + statement_size f in
      let small = limited_depth e limits.0 in
      let ds = 0 ∷ (statement_depths f ++ statement_depths next) in
      let own = depths_front table pc (phrase_depths 0 e) (1 ∷ (statement_depths t ++ ds)) has in
      let back = depths_back table pc m (phrase_depths 0 e) (1 ∷ (statement_depths t ++ ds)) (depths_length 0 e) has in
      let one : slice_get table (pc + m) ≡ Some (0 + 1) = back.0 in
      let inner = depths_front table p (statement_depths t) ds back.1 in
      let after = depths_back table p (statement_size t) (statement_depths t) ds (statement_depths_length t) back.1 in
      let other = depths_front table o (statement_depths f) (statement_depths next) after.1 in
      let rest = depths_back table o (statement_size f) (statement_depths f) (statement_depths next) (statement_depths_length f) after.1 in
      let whole = m + 1 + statement_size t + 1 + statement_size f + statement_size next in
      let q : pc + whole ≡ z + statement_size next = omega arith in
      let end' = here table (pc + whole) (z + statement_size next) 0 q end in
      let at_next = statement_first table next z rest end' in
      let at_other = statement_first table f o other at_next in
      let at_t = statement_first table t p inner after.0 in
      let code_t = statement_code scope p t in
      let code_f = statement_code scope o f in
      let code_next = statement_code scope z next in
      let at' = (has_back code pc m (phrase_code scope pc e) (JumpZero o ∷ (code_t ++ (Jump z ∷ (code_f ++ code_next)))) (phrase_length scope pc e) at).1 in
      let at'' = (has_back code p (statement_size t) code_t (Jump z ∷ (code_f ++ code_next)) (statement_length scope p t) at').1 in
      let b : 0 + 1 - 1 + 0 ≡ 0 = omega arith in
      fine_join code table pc m (phrase_code scope pc e) (JumpZero o ∷ (code_t ++ (Jump z ∷ (code_f ++ code_next)))) (phrase_length scope pc e)
      (phrase_fine code table scope laid e pc 0 fits.0 (omega arith) (omega arith) own one) (
        test_fine code table (pc + m) 0 o (JumpZero o) one tt refl refl (λ n. tt) (omega arith) b (omega arith) (omega arith) (omega arith) at_t at_other,
        fine_join code table p (statement_size t) code_t (Jump z ∷ (code_f ++ code_next)) (statement_length scope p t)
            (statement_fine t p (has_front code p code_t (Jump z ∷ (code_f ++ code_next)) at') fits.1 limits.1 (omega arith) inner after.0) (
              jump_fine code table (p + statement_size t) 0 z after.0 (omega arith) (omega arith) (omega arith) at_next,
              fine_join code table o (statement_size f) code_f code_next (statement_length scope o f)
                  (statement_fine f o (has_front code o code_f code_next at'') fits.2 limits.2 (omega arith) other at_next)
                  (statement_fine next z (has_back code o (statement_size f) code_f code_next (statement_length scope o f) at'') fits.3 limits.3 (omega arith) rest end'),
            ),
      )
  statement_fine (while_ e body next) pc at fits limits inside has end =
      let n = statement_size body in
      let size = loop_size n (phrase_size e) in
      let loop = loop_code pc (λ p. statement_code scope p body) n (λ p. phrase_code scope p e) in
      let long = loop_length pc (λ p. statement_code scope p body) n (λ p. phrase_code scope p e) (phrase_size e) (statement_length scope (pc + 2) body) (phrase_length scope (pc + 2 + n) e) in
      let ds = loop_depths (statement_depths body) (phrase_depths 0 e) in
      let deep = loop_depths_length (statement_depths body) (phrase_depths 0 e) n (phrase_size e) (statement_depths_length body) (depths_length 0 e) in
      let own = depths_front table pc ds (statement_depths next) has in
      let back = depths_back table pc size ds (statement_depths next) deep has in
      let q : pc + (size + statement_size next) ≡ pc + size + statement_size next = omega arith in
      let end' = here table (pc + (size + statement_size next)) (pc + size + statement_size next) 0 q end in
      let code_next = statement_code scope (pc + size) next in
      let at' = has_front code pc loop code_next at in
      let two : pc + 1 + 1 ≡ pc + 2 = omega arith in
      let at_body = subst (λ k. HasAt code k (statement_code scope (pc + 2) body ++ (phrase_code scope (pc + 2 + n) e ++ JumpNonZero (pc + 1) ∷ []))) two at'.1.1 in
      fine_join code table pc size loop code_next long
      (loop_fine pc n (λ p. statement_code scope p body) (statement_depths body) e (statement_length scope (pc + 2) body) (statement_depths_length body) fits.0 limits.0 (omega arith) at'.1.0 own (statement_first table next (pc + size) back end')
      (λ h z. statement_first table body (pc + 2) h z)
      (λ h z. statement_fine body (pc + 2) (has_front code (pc + 2) (statement_code scope (pc + 2) body) _ at_body) fits.1 limits.1 (omega arith) h z))
      (statement_fine next (pc + size) (has_back code pc size loop code_next long at) fits.2 limits.2 (omega arith) back end')
  statement_fine (for_ x is e w y js f body next) pc at fits limits inside has end =
      let m = assign_size is e in
      let start = pc + m in
      let k = statement_size body in
      let n = k + assign_size js f in
      let size = loop_size n (phrase_size w) in
      let first = assign_code scope pc x.name is e in
      let inner = λ (p : ℕ). statement_code scope p body ++ assign_code scope (p + k) y.name js f in
      let loop = loop_code start inner n (λ p. phrase_code scope p w) in
      let inner_long = stepped_length scope (start + 2) body y.name js f in
      let long = loop_length start inner n (λ p. phrase_code scope p w) (phrase_size w) inner_long (phrase_length scope (start + 2 + n) w) in
      let ids = statement_depths body ++ assign_depths js f in
      let ids_long : length ids ≡ n = (let a = statement_depths_length body in let g = assign_depths_length js f in omega (arith, length-append (statement_depths body) (assign_depths js f))) in
      let ds = loop_depths ids (phrase_depths 0 w) in
      let deep = loop_depths_length ids (phrase_depths 0 w) n (phrase_size w) ids_long (depths_length 0 w) in
      let front = depths_front table pc (assign_depths is e) (ds ++ statement_depths next) has in
      let tail = depths_back table pc m (assign_depths is e) (ds ++ statement_depths next) (assign_depths_length is e) has in
      let own = depths_front table start ds (statement_depths next) tail in
      let back = depths_back table start size ds (statement_depths next) deep tail in
      let whole = m + size + statement_size next in
      let q : pc + whole ≡ start + size + statement_size next = omega arith in
      let end' = here table (pc + whole) (start + size + statement_size next) 0 q end in
      let code_next = statement_code scope (start + size) next in
      let at_loop = has_back code pc m first (loop ++ code_next) (assign_length scope pc x.name is e) at in
      let at' = has_front code start loop code_next at_loop in
      let two : start + 1 + 1 ≡ start + 2 = omega arith in
      let at_body = subst (λ k. HasAt code k (inner (start + 2) ++ (phrase_code scope (start + 2 + n) w ++ JumpNonZero (start + 1) ∷ []))) two at'.1.1 in
      let at_inner = has_front code (start + 2) (inner (start + 2)) _ at_body in
      let at_step : start + 2 + k + assign_size js f ≡ start + 2 + n = omega arith in
      fine_join code table pc m first (loop ++ code_next) (assign_length scope pc x.name is e)
      (assign_fine x.name is e pc fits.0 limits.0 limits.1 (omega arith) front own.0)
      (fine_join code table start size loop code_next long
      (loop_fine start n inner ids w inner_long ids_long fits.1 limits.2 (omega arith) at'.1.0 own (statement_first table next (start + size) back end')
      (λ h z. statement_first table body (start + 2) (depths_front table (start + 2) (statement_depths body) (assign_depths js f) h)
      (assign_first table js f (start + 2 + k) (depths_back table (start + 2) k (statement_depths body) (assign_depths js f) (statement_depths_length body) h)))
      (λ h z. let step = depths_back table (start + 2) k (statement_depths body) (assign_depths js f) (statement_depths_length body) h in
      fine_join code table (start + 2) k (statement_code scope (start + 2) body) (assign_code scope (start + 2 + k) y.name js f) (statement_length scope (start + 2) body)
      (statement_fine body (start + 2) (has_front code (start + 2) (statement_code scope (start + 2) body) (assign_code scope (start + 2 + k) y.name js f) at_inner) fits.3 limits.5 (omega arith)
      (depths_front table (start + 2) (statement_depths body) (assign_depths js f) h) (assign_first table js f (start + 2 + k) step))
      (assign_fine y.name js f (start + 2 + k) fits.2 limits.3 limits.4 (omega arith) step (here table (start + 2 + n) (start + 2 + k + assign_size js f) 0 (sym at_step) z))))
      (statement_fine next (start + size) (has_back code start size loop code_next long at_loop) fits.4 limits.6 (omega arith) back end'))
