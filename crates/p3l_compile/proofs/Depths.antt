-- The code of an expression keeps the rules.
use Rattle.std.proofs.Common.{◌≡◌, ℕ, ℤ, pos, ◌+◌, ◌-◌, ◌<◌, ◌≤◌, true, List, [], ◌∷◌, ◌++◌, length, Option, Some, None, refl, sym, ap, ◌∙◌, subst, arith, length-append}
use Rattle.std.specs.Prelude.{slice_get}
use Rattle.std.specs.List.{AllByRecursion}
use Rattle.std.proofs.lemmas.Option.{same_Some}
use Rattle.p3l_ast.specs.declared.expression.BinOp.{BinOp}
use Rattle.p3l_ast.specs.declared.expression.BinOp.TheVariants as operators
use Rattle.p3l_ast.specs.declared.position.Spot.{Spot}
use Rattle.p3l_ast.specs.Tree.{Phrase, number, read, unary, binary, Phrases, none, more}
use Rattle.p3l_code.specs.declared.instr.Instr.{Instr}
use Rattle.p3l_code.specs.declared.instr.Instr.TheVariants.{Push, Load, Step, LoadAt, Unary, Binary, Jump, JumpZero, JumpNonZero}
use Rattle.p3l_code.specs.declared.instr.Code.{Code}
use Rattle.p3l_code.specs.Safe.{pops, target_of, goes_on, IsWithin, Leads, depth_after, next_of, Agrees, EndsAt, IsFine}
use Rattle.p3l_compile.specs.declared.scope.Slot.{Slot}
use Rattle.p3l_compile.specs.Scope.{Names, found, constant_of, IsLaid}
use Rattle.p3l_compile.specs.Phrase.{operator_size, read_size, phrase_size, index_size, scalar_code, sizes_in, read_code, operator_code, phrase_code, first_code, index_code, count_of, IsAccess, Fits, FitsAll}
use Rattle.p3l_compile.proofs.Scopes.{lies_within}
use Rattle.p3l_compile.specs.Depth.{phrase_depth, index_depth, read_depths, operator_depths, phrase_depths, first_depths, index_depths}
use Rattle.p3l_compile.proofs.Phrases.{IsSingle, phrase_length, index_length, some_words}

-- the depths stand in the table from this place on
abbrev pub DepthsAt : List ℕ → ℕ → List ℕ → Type 0
DepthsAt table pc [] = Unit {0}
DepthsAt table pc (d ∷ ds) = (slice_get table pc ≡ Some d) × DepthsAt table (pc + 1) ds

pub depths_front : (table : List ℕ) (pc : ℕ) (a b : List ℕ) → DepthsAt table pc (a ++ b) → DepthsAt table pc a
depths_front table pc [] b h = tt
depths_front table pc (d ∷ a) b h = (h.0, depths_front table (pc + 1) a b h.1)

pub depths_back : (table : List ℕ) (pc n : ℕ) (a b : List ℕ) → length a ≡ n → DepthsAt table pc (a ++ b) → DepthsAt table (pc + n) b
depths_back table pc n [] b e h = let q : pc ≡ pc + n = omega arith in subst (λ k. DepthsAt table k b) q h
depths_back table pc n (d ∷ a) b e h =
    let q : pc + 1 + length a ≡ pc + n = omega arith in
    subst (λ k. DepthsAt table k b) q (depths_back table (pc + 1) (length a) a b refl h.1)

-- each instruction is fine where it stands
abbrev pub FineAt : Code → List ℕ → ℕ → List Instr → Type 0
FineAt code table pc [] = Unit {0}
FineAt code table pc (i ∷ is) = ((d : ℕ) → slice_get table pc ≡ Some d → IsFine code table pc i d) × FineAt code table (pc + 1) is

pub fine_join : (code : Code) (table : List ℕ) (pc n : ℕ) (a b : List Instr) → length a ≡ n → FineAt code table pc a → FineAt code table (pc + n) b → FineAt code table pc (a ++ b)
fine_join code table pc n [] b e f g = let q : pc + n ≡ pc = omega arith in subst (λ k. FineAt code table k b) q g
fine_join code table pc n (i ∷ a) b e f g =
    let q : pc + n ≡ pc + 1 + length a = omega arith in
    (f.0, fine_join code table (pc + 1) (length a) a b refl f.1 (subst (λ k. FineAt code table k b) q g))

module _ (code : Code) (table : List ℕ) where
  abbrev pub IsOne : ℕ → Instr → Type 0
  IsOne pc i = (d : ℕ) → slice_get table pc ≡ Some d → IsFine code table pc i d

  -- an instruction that goes on and does not jump
  pub one_fine : (pc d next : ℕ) (i : Instr) → slice_get table pc ≡ Some d → IsWithin code.memory i → target_of i ≡ None → goes_on i ≡ true → ((n : ℕ) → EndsAt n i) → pops i ≤ d → depth_after d i ≡ next → next ≤ 1024 → slice_get table (pc + 1) ≡ Some next → IsOne pc i
  one_fine pc d next i at within still on ends enough leaves small after e h =
      let q : d ≡ e = same_Some d e (sym at ∙ h) in
      subst (IsFine code table pc i) q (record {
        within = within;
        leads = subst (Leads code.instrs pc) (sym still) tt;
        pops_enough = enough;
        shallow = omega arith;
        next = subst (λ b. Agrees table (depth_after d i) (next_of pc b)) (sym on) (after ∙ ap Some (sym leaves));
        jumps = subst (Agrees table (depth_after d i)) (sym still) tt;
        ends = ends d;
      })

  -- a jump forward that goes on too
  pub test_fine : (pc d to : ℕ) (i : Instr) → slice_get table pc ≡ Some (d + 1) → IsWithin code.memory i → target_of i ≡ Some to → goes_on i ≡ true → ((n : ℕ) → EndsAt n i) → pops i ≤ d + 1 → depth_after (d + 1) i ≡ d → d ≤ 1024 → pc < to → to < length code.instrs → slice_get table (pc + 1) ≡ Some d → slice_get table to ≡ Some d → IsOne pc i
  test_fine pc d to i at within jump on ends enough leaves small forward inside after other e h =
      let q : d + 1 ≡ e = same_Some (d + 1) e (sym at ∙ h) in
      subst (IsFine code table pc i) q (record {
        within = within;
        leads = subst (Leads code.instrs pc) (sym jump) (inside, λ back. absurd (omega arith));
        pops_enough = enough;
        shallow = omega arith;
        next = subst (λ b. Agrees table (depth_after (d + 1) i) (next_of pc b)) (sym on) (after ∙ ap Some (sym leaves));
        jumps = subst (Agrees table (depth_after (d + 1) i)) (sym jump) (other ∙ ap Some (sym leaves));
        ends = ends (d + 1);
      })

  pub jump_fine : (pc d to : ℕ) → slice_get table pc ≡ Some d → d ≤ 1024 → pc < to → to < length code.instrs → slice_get table to ≡ Some d → IsOne pc (Jump to)
  jump_fine pc d to at small forward inside other e h =
      let q : d ≡ e = same_Some d e (sym at ∙ h) in
      let same : d ≡ d - 0 + 0 = omega arith in
      subst (IsFine code table pc (Jump to)) q (record {
        within = tt;
        leads = (inside, λ back. absurd (omega arith));
        pops_enough = omega arith;
        shallow = omega arith;
        next = tt;
        jumps = other ∙ ap Some same;
        ends = tt;
      })

  -- both operands, and the operator
  plain_fine : (op : BinOp) (pc m n d : ℕ) (left right : List Instr) (ls rs : List ℕ) → length left ≡ m → length right ≡ n → length ls ≡ m → length rs ≡ n → d + 2 ≤ 1024 → DepthsAt table pc (ls ++ (rs ++ (d + 2) ∷ [])) → slice_get table (pc + (m + n + 1)) ≡ Some (d + 1) → (DepthsAt table pc ls → slice_get table (pc + m) ≡ Some (d + 1) → FineAt code table pc left) → (DepthsAt table (pc + m) rs → slice_get table (pc + m + n) ≡ Some (d + 2) → FineAt code table (pc + m) right) → (DepthsAt table (pc + m) rs → slice_get table (pc + m) ≡ Some (d + 1)) → FineAt code table pc (left ++ (right ++ Binary op ∷ []))
  plain_fine op pc m n d left right ls rs lm ln lls lrs small has end L R first =
      let tail = depths_back table pc m ls (rs ++ (d + 2) ∷ []) lls has in
      let own = depths_front table (pc + m) rs ((d + 2) ∷ []) tail in
      let last = (depths_back table (pc + m) n rs ((d + 2) ∷ []) lrs tail).0 in
      let place : pc + (m + n + 1) ≡ pc + m + n + 1 = omega arith in
      let leaves : d + 2 - 2 + 1 ≡ d + 1 = omega arith in
      fine_join code table pc m left (right ++ Binary op ∷ []) lm (L (depths_front table pc ls (rs ++ (d + 2) ∷ []) has) (first own))
      (fine_join code table (pc + m) n right (Binary op ∷ []) ln (R own last)
      (one_fine (pc + m + n) (d + 2) (d + 1) (Binary op) last tt refl refl (λ n. tt) (omega arith) leaves (omega arith) (subst (λ k. slice_get table k ≡ Some (d + 1)) place end), tt))

  -- the short way: whichever jump decides, and whatever the other way gives
  short_fine : (jump : Instr) (other : ℤ) (pc m n d : ℕ) (left right : List Instr) (ls rs : List ℕ) → target_of jump ≡ Some (pc + m + n + 4) → goes_on jump ≡ true → IsWithin code.memory jump → ((n : ℕ) → EndsAt n jump) → pops jump ≤ d + 1 → depth_after (d + 1) jump ≡ d → length left ≡ m → length right ≡ n → length ls ≡ m → length rs ≡ n → d + 2 ≤ 1024 → pc + (m + n + 5) < length code.instrs → DepthsAt table pc (ls ++ ((d + 1) ∷ (rs ++ ((d + 1) ∷ (d + 2) ∷ (d + 1) ∷ d ∷ [])))) → slice_get table (pc + (m + n + 5)) ≡ Some (d + 1) → (DepthsAt table pc ls → slice_get table (pc + m) ≡ Some (d + 1) → FineAt code table pc left) → (DepthsAt table (pc + m + 1) rs → slice_get table (pc + m + 1 + n) ≡ Some (d + 1) → FineAt code table (pc + m + 1) right) → (DepthsAt table (pc + m + 1) rs → slice_get table (pc + m + 1) ≡ Some d) → FineAt code table pc (left ++ (jump ∷ (right ++ (Push (pos 0) ∷ Binary operators.Ne ∷ Jump (pc + m + n + 5) ∷ Push other ∷ []))))
  short_fine jump other pc m n d left right ls rs target on within ends enough leaves lm ln lls lrs small inside has end L R first =
      let rest = (d + 1) ∷ (d + 2) ∷ (d + 1) ∷ d ∷ [] in
      let p = pc + m + 1 in
      let tail = depths_back table pc m ls ((d + 1) ∷ (rs ++ rest)) lls has in
      let own = depths_front table p rs rest tail.1 in
      let back = depths_back table p n rs rest lrs tail.1 in
      let e4 : p + n + 1 + 1 + 1 ≡ pc + m + n + 4 = omega arith in
      let e5 : pc + (m + n + 5) ≡ pc + m + n + 5 = omega arith in
      let e6 : pc + (m + n + 5) ≡ p + n + 1 + 1 + 1 + 1 = omega arith in
      let b1 : d + 1 - 0 + 1 ≡ d + 2 = omega arith in
      let b2 : d + 2 - 2 + 1 ≡ d + 1 = omega arith in
      let b3 : d - 0 + 1 ≡ d + 1 = omega arith in
      fine_join code table pc m left _ lm (L (depths_front table pc ls ((d + 1) ∷ (rs ++ rest)) has) tail.0) (
        test_fine (pc + m) d (pc + m + n + 4) jump tail.0 within target on ends enough leaves (omega arith) (omega arith) (omega arith) (first own) (subst (λ k. slice_get table k ≡ Some d) e4 back.1.1.1.0),
        fine_join code table p n right _ ln (R own back.0) (
          one_fine (p + n) (d + 1) (d + 2) (Push (pos 0)) back.0 tt refl refl (λ n. tt) (omega arith) b1 small back.1.0,
          (
            one_fine (p + n + 1) (d + 2) (d + 1) (Binary operators.Ne) back.1.0 tt refl refl (λ n. tt) (omega arith) b2 (omega arith) back.1.1.0,
            (
              jump_fine (p + n + 1 + 1) (d + 1) (pc + m + n + 5) back.1.1.0 (omega arith) (omega arith) (omega arith) (subst (λ k. slice_get table k ≡ Some (d + 1)) e5 end),
              (
                one_fine (p + n + 1 + 1 + 1) d (d + 1) (Push other) back.1.1.1.0 tt refl refl (λ n. tt) (omega arith) b3 (omega arith) (subst (λ k. slice_get table k ≡ Some (d + 1)) e6 end),
                tt,
              ),
            ),
          ),
        ),
      )

  operator_fine : (op : BinOp) (pc m n d : ℕ) (left : List Instr) (right : ℕ → List Instr) (ls : List ℕ) (rs : ℕ → List ℕ) → length left ≡ m → ((p : ℕ) → length (right p) ≡ n) → length ls ≡ m → ((k : ℕ) → length (rs k) ≡ n) → d + 2 ≤ 1024 → pc + (m + n + operator_size op) < length code.instrs → DepthsAt table pc (operator_depths op d ls rs) → slice_get table (pc + (m + n + operator_size op)) ≡ Some (d + 1) → (DepthsAt table pc ls → slice_get table (pc + m) ≡ Some (d + 1) → FineAt code table pc left) → ((p k : ℕ) → k ≤ d + 1 → p + n < length code.instrs → DepthsAt table p (rs k) → slice_get table (p + n) ≡ Some (k + 1) → FineAt code table p (right p)) → ((p k : ℕ) → DepthsAt table p (rs k) → slice_get table p ≡ Some k) → FineAt code table pc (operator_code op pc left m right n)
  operator_fine operators.Or pc m n d left right ls rs lm ln lls lrs small inside has end L R first =
      let b : d + 1 - 1 + 0 ≡ d = omega arith in
      short_fine (JumpNonZero (pc + m + n + 4)) (pos 1) pc m n d left (right (pc + m + 1)) ls (rs d) refl refl tt (λ n. tt) (omega arith) b lm (ln (pc + m + 1)) lls (lrs d) small inside has end L (R (pc + m + 1) d (omega arith) (omega arith)) (first (pc + m + 1) d)
  operator_fine operators.And pc m n d left right ls rs lm ln lls lrs small inside has end L R first =
      let b : d + 1 - 1 + 0 ≡ d = omega arith in
      short_fine (JumpZero (pc + m + n + 4)) (pos 0) pc m n d left (right (pc + m + 1)) ls (rs d) refl refl tt (λ n. tt) (omega arith) b lm (ln (pc + m + 1)) lls (lrs d) small inside has end L (R (pc + m + 1) d (omega arith) (omega arith)) (first (pc + m + 1) d)
  operator_fine op pc m n d left right ls rs lm ln lls lrs small inside has end L R first =
      let two : d + 1 + 1 ≡ d + 2 = omega arith in
      plain_fine op pc m n d left (right (pc + m)) ls (rs (d + 1)) lm (ln (pc + m)) lls (lrs (d + 1)) small has end L
      (λ h e. R (pc + m) (d + 1) (omega arith) (omega arith) h (e ∙ ap Some (sym two))) (first (pc + m) (d + 1))

operator_depths_length : (op : BinOp) (d m n : ℕ) (ls : List ℕ) (rs : ℕ → List ℕ) → length ls ≡ m → ((k : ℕ) → length (rs k) ≡ n) → length (operator_depths op d ls rs) ≡ m + n + operator_size op
operator_depths_length operators.Or d m n ls rs h k =
    let r = k d in
    let rest = (d + 1) ∷ (d + 2) ∷ (d + 1) ∷ d ∷ [] in
    omega (arith, length-append ls ((d + 1) ∷ (rs d ++ rest)), length-append (rs d) rest)
operator_depths_length operators.And d m n ls rs h k =
    let r = k d in
    let rest = (d + 1) ∷ (d + 2) ∷ (d + 1) ∷ d ∷ [] in
    omega (arith, length-append ls ((d + 1) ∷ (rs d ++ rest)), length-append (rs d) rest)
operator_depths_length op d m n ls rs h k =
    let r = k (d + 1) in
    omega (arith, length-append ls (rs (d + 1) ++ (d + 2) ∷ []), length-append (rs (d + 1)) ((d + 2) ∷ []))

read_depths_length : (d n : ℕ) (is : Phrases) (first index : List ℕ) → length index ≡ n → (IsSingle is → length first + 1 ≡ n) → length (read_depths d is first index) ≡ read_size is n
read_depths_length d n none first index h one = refl
read_depths_length d n (more e none) first index h one = omega (arith, length-append first ((d + 1) ∷ []), one tt)
read_depths_length d n (more e (more f is)) first index h one = omega (arith, length-append index ((d + 1) ∷ []))

mutual
  pub depths_length : (d : ℕ) (e : Phrase) → length (phrase_depths d e) ≡ phrase_size e
  depths_length d (number v) = refl
  depths_length d (read x is) = read_depths_length d (index_size is) is (first_depths d is) (index_depths (d + 1) is) (indices_length (d + 1) is) (first_depths_length d is)
  depths_length d (unary op e) = let h = depths_length d e in omega (arith, length-append (phrase_depths d e) ((d + 1) ∷ []))
  depths_length d (binary op a b) = operator_depths_length op d (phrase_size a) (phrase_size b) (phrase_depths d a) (λ n. phrase_depths n b) (depths_length d a) (λ n. depths_length n b)

  first_depths_length : (d : ℕ) (is : Phrases) → IsSingle is → length (first_depths d is) + 1 ≡ index_size is
  first_depths_length d none one = absurd one
  first_depths_length d (more e none) one = let h = depths_length d e in omega arith
  first_depths_length d (more e (more f is)) one = absurd one

  pub indices_length : (d : ℕ) (is : Phrases) → length (index_depths d is) ≡ index_size is
  indices_length d none = refl
  indices_length d (more e is) =
      let h = depths_length d e in
      let k = indices_length d is in
      omega (arith, length-append (phrase_depths d e) ((d + 1) ∷ index_depths d is))

-- an expression begins at its own depth
operator_first : (op : BinOp) (table : List ℕ) (pc d : ℕ) (ls : List ℕ) (rs : ℕ → List ℕ) → DepthsAt table pc (operator_depths op d ls rs) → DepthsAt table pc ls
operator_first operators.Or table pc d ls rs h = depths_front table pc ls ((d + 1) ∷ (rs d ++ ((d + 1) ∷ (d + 2) ∷ (d + 1) ∷ d ∷ []))) h
operator_first operators.And table pc d ls rs h = depths_front table pc ls ((d + 1) ∷ (rs d ++ ((d + 1) ∷ (d + 2) ∷ (d + 1) ∷ d ∷ []))) h
operator_first op table pc d ls rs h = depths_front table pc ls (rs (d + 1) ++ (d + 2) ∷ []) h

pub phrase_first : (table : List ℕ) (e : Phrase) (pc d : ℕ) → DepthsAt table pc (phrase_depths d e) → slice_get table pc ≡ Some d
phrase_first table (number v) pc d h = h.0
phrase_first table (read x none) pc d h = h.0
phrase_first table (read x (more e none)) pc d h = phrase_first table e pc d (depths_front table pc (phrase_depths d e) ((d + 1) ∷ []) h)
phrase_first table (read x (more e (more f is))) pc d h = h.0
phrase_first table (unary op e) pc d h = phrase_first table e pc d (depths_front table pc (phrase_depths d e) ((d + 1) ∷ []) h)
phrase_first table (binary op a b) pc d h =
    phrase_first table a pc d (operator_first op table pc d (phrase_depths d a) (λ n. phrase_depths n b) h)

pub index_first : (table : List ℕ) (is : Phrases) (pc d : ℕ) → DepthsAt table pc (index_depths d is) → slice_get table (pc + index_size is) ≡ Some d → slice_get table pc ≡ Some d
index_first table none pc d h e = let q : pc + 0 ≡ pc = omega arith in subst (λ k. slice_get table k ≡ Some d) q e
index_first table (more e is) pc d h end = phrase_first table e pc d (depths_front table pc (phrase_depths d e) ((d + 1) ∷ index_depths d is) h)

module _ (code : Code) (table : List ℕ) (scope : Names) (laid : IsLaid scope code.memory) where
  scalar_within : (x : List ℕ) (o : Option Slot) → found scope x ≡ o → (v : ℤ) → IsWithin code.memory (scalar_code o v)
  scalar_within x None f v = tt
  scalar_within x (Some slot) f v =
      let l = lies_within scope code.memory x slot laid f in
      let w = some_words slot.sizes l.sizes in
      omega (arith, l.below, l.words, w)

  element_within : (x : List ℕ) (slot : Slot) → found scope x ≡ Some slot → IsWithin code.memory (LoadAt slot.base slot.words)
  element_within x slot f =
      let l = lies_within scope code.memory x slot laid f in
      let w = some_words slot.sizes l.sizes in
      (omega (arith, l.below), omega (arith, l.words, w))

  scalar_fine : (x : List ℕ) (o : Option Slot) → found scope x ≡ o → (v : ℤ) (pc d : ℕ) → slice_get table pc ≡ Some d → d + 1 ≤ 1024 → slice_get table (pc + 1) ≡ Some (d + 1) → FineAt code table pc (scalar_code o v ∷ [])
  scalar_fine x None f v pc d at small after =
      let b : d - 0 + 1 ≡ d + 1 = omega arith in
      (one_fine code table pc d (d + 1) (Push v) at tt refl refl (λ n. tt) (omega arith) b small after, tt)
  scalar_fine x (Some slot) f v pc d at small after =
      let b : d - 0 + 1 ≡ d + 1 = omega arith in
      (one_fine code table pc d (d + 1) (Load slot.base) at (scalar_within x (Some slot) f v) refl refl (λ n. tt) (omega arith) b small after, tt)

  abbrev IndexFine : Phrases → Type 0
  IndexFine is =
      (pc d : ℕ) (sizes : List ℕ) → FitsAll scope is → count_of is ≡ length sizes → AllByRecursion (λ n. 1 ≤ n) sizes → 1 ≤ d → d + index_depth is + 1 ≤ 1024 → pc + index_size is < length code.instrs → DepthsAt table pc (index_depths d is) → slice_get table (pc + index_size is) ≡ Some d → FineAt code table pc (index_code scope pc sizes is)

  abbrev FirstFine : Phrases → Type 0
  FirstFine none = Unit {0}
  FirstFine (more e is) =
      (pc d : ℕ) → Fits scope e → d + phrase_depth e + 1 ≤ 1024 → pc + phrase_size e < length code.instrs → DepthsAt table pc (phrase_depths d e) → slice_get table (pc + phrase_size e) ≡ Some (d + 1) → FineAt code table pc (phrase_code scope pc e)

  read_fine : (x : Spot) (is : Phrases) → FirstFine is → IndexFine is → (pc d : ℕ) (o : Option Slot) → found scope x.name ≡ o → IsAccess o (count_of is) → FitsAll scope is → d + (1 + index_depth is) + 1 ≤ 1024 → pc + read_size is (index_size is) < length code.instrs → DepthsAt table pc (read_depths d is (first_depths d is) (index_depths (d + 1) is)) → slice_get table (pc + read_size is (index_size is)) ≡ Some (d + 1) → FineAt code table pc (read_code o (constant_of scope x.name) is (first_code scope pc is) (index_code scope (pc + 1) (sizes_in o) is))
  read_fine x none first index pc d o f access fits small inside has end =
      scalar_fine x.name o f (constant_of scope x.name) pc d has.0 (omega arith) end
  read_fine x (more e none) first index pc d None f access fits small inside has end = absurd (let q : 0 + 1 ≡ 0 = access in omega arith)
  read_fine x (more e none) first index pc d (Some slot) f access fits small inside has end =
      let m = phrase_size e in
      let ds = phrase_depths d e in
      let own = depths_front table pc ds ((d + 1) ∷ []) has in
      let last = (depths_back table pc m ds ((d + 1) ∷ []) (depths_length d e) has).0 in
      let place : pc + (m + 1 + 0) ≡ pc + m + 1 = omega arith in
      let b : d + 1 - 1 + 1 ≡ d + 1 = omega arith in
      fine_join code table pc m (phrase_code scope pc e) (LoadAt slot.base slot.words ∷ []) (phrase_length scope pc e) (first pc d fits.0 (omega arith) (omega arith) own last)
      (one_fine code table (pc + m) (d + 1) (d + 1) (LoadAt slot.base slot.words) last (element_within x.name slot f) refl refl (λ n. tt) (omega arith) b (omega arith) (subst (λ k. slice_get table k ≡ Some (d + 1)) place end), tt)
  read_fine x (more e (more g is)) first index pc d None f access fits small inside has end = absurd (let q : count_of is + 1 + 1 ≡ 0 = access in omega arith)
  read_fine x (more e (more g is)) first index pc d (Some slot) f access fits small inside has end =
      let n = index_size (more e (more g is)) in
      let l = lies_within scope code.memory x.name slot laid f in
      let ds = index_depths (d + 1) (more e (more g is)) in
      let own = depths_front table (pc + 1) ds ((d + 1) ∷ []) has.1 in
      let last = (depths_back table (pc + 1) n ds ((d + 1) ∷ []) (indices_length (d + 1) (more e (more g is))) has.1).0 in
      let place : pc + (n + 2) ≡ pc + 1 + n + 1 = omega arith in
      let b : d - 0 + 1 ≡ d + 1 = omega arith in
      let b2 : d + 1 - 1 + 1 ≡ d + 1 = omega arith in
      let code_of = index_code scope (pc + 1) slot.sizes (more e (more g is)) in (
        one_fine code table pc d (d + 1) (Push (pos 0)) has.0 tt refl refl (λ n. tt) (omega arith) b (omega arith) (index_first table (more e (more g is)) (pc + 1) (d + 1) own last),
        fine_join code table (pc + 1) n code_of (LoadAt slot.base slot.words ∷ []) (index_length scope (pc + 1) slot.sizes (more e (more g is)))
            (index (pc + 1) (d + 1) slot.sizes fits access l.sizes (omega arith) (omega arith) (omega arith) own last)
            (one_fine code table (pc + 1 + n) (d + 1) (d + 1) (LoadAt slot.base slot.words) last (element_within x.name slot f) refl refl (λ n. tt) (omega arith) b2 (omega arith) (subst (λ k. slice_get table k ≡ Some (d + 1)) place end), tt),
      )

  mutual
    pub phrase_fine : (e : Phrase) (pc d : ℕ) → Fits scope e → d + phrase_depth e + 1 ≤ 1024 → pc + phrase_size e < length code.instrs → DepthsAt table pc (phrase_depths d e) → slice_get table (pc + phrase_size e) ≡ Some (d + 1) → FineAt code table pc (phrase_code scope pc e)
    phrase_fine (number v) pc d fits small inside has end =
        let b : d - 0 + 1 ≡ d + 1 = omega arith in
        (one_fine code table pc d (d + 1) (Push v) has.0 tt refl refl (λ n. tt) (omega arith) b (omega arith) end, tt)
    phrase_fine (read x is) pc d fits small inside has end =
        read_fine x is (first_fine is) (index_fine is) pc d (found scope x.name) refl fits.0 fits.1 small inside has end
    phrase_fine (unary op e) pc d fits small inside has end =
        let n = phrase_size e in
        let ds = phrase_depths d e in
        let own = depths_front table pc ds ((d + 1) ∷ []) has in
        let last = (depths_back table pc n ds ((d + 1) ∷ []) (depths_length d e) has).0 in
        let place : pc + (n + 1) ≡ pc + n + 1 = omega arith in
        let b : d + 1 - 1 + 1 ≡ d + 1 = omega arith in
        fine_join code table pc n (phrase_code scope pc e) (Unary op ∷ []) (phrase_length scope pc e) (phrase_fine e pc d fits small (omega arith) own last)
        (one_fine code table (pc + n) (d + 1) (d + 1) (Unary op) last tt refl refl (λ n. tt) (omega arith) b (omega arith) (subst (λ k. slice_get table k ≡ Some (d + 1)) place end), tt)
    phrase_fine (binary op a b) pc d fits small inside has end =
        operator_fine code table op pc (phrase_size a) (phrase_size b) d (phrase_code scope pc a) (λ p. phrase_code scope p b) (phrase_depths d a) (λ n. phrase_depths n b)
        (phrase_length scope pc a) (λ p. phrase_length scope p b) (depths_length d a) (λ n. depths_length n b) (omega arith) inside has end
        (λ h e. phrase_fine a pc d fits.0 (omega arith) (omega arith) h e)
        (λ p k le within h e. phrase_fine b p k fits.1 (omega arith) within h e)
        (λ p k h. phrase_first table b p k h)

    first_fine : (is : Phrases) → FirstFine is
    first_fine none = tt
    first_fine (more e is) = phrase_fine e

    pub index_fine : (is : Phrases) → IndexFine is
    index_fine none pc d sizes fits count some one small inside has end = tt
    index_fine (more e is) pc d [] fits count some one small inside has end = absurd (omega arith)
    index_fine (more e is) pc d (n ∷ sizes) fits count some one small inside has end =
        let m = phrase_size e in
        let ds = phrase_depths d e in
        let rest = (d + 1) ∷ index_depths d is in
        let own = depths_front table pc ds rest has in
        let back = depths_back table pc m ds rest (depths_length d e) has in
        let place : pc + (m + 1 + index_size is) ≡ pc + m + 1 + index_size is = omega arith in
        let end' = subst (λ k. slice_get table k ≡ Some d) place end in
        let b : d + 1 - 2 + 1 ≡ d = omega arith in
        fine_join code table pc m (phrase_code scope pc e) _ (phrase_length scope pc e) (phrase_fine e pc d fits.0 (omega arith) (omega arith) own back.0) (
          one_fine code table (pc + m) (d + 1) d (Step n) back.0 some.0 refl refl (λ n. tt) (omega arith) b (omega arith) (index_first table is (pc + m + 1) d back.1 end'),
          index_fine is (pc + m + 1) d sizes fits.1 (omega arith) some.1 one (omega arith) (omega arith) back.1 end',
        )
