-- The C of statements: it continues with the objects of the valuation that the statements make, or
-- returns their trap.
use Rattle.std.proofs.Common.{◌≡◌, ℕ, ℤ, zero, suc, ◌+◌, ◌%◌, ◌^◌, ◌≤◌, ◌<◌, Bool, true, false, cond, List, length, Some, None, Result, Ok, Err, refl, sym, ap, ◌∙◌, subst, arith, ltb-true}
use Rattle.std.specs.Prelude.{nat_lt, nat_le}
use Rattle.std.specs.List.{AllByRecursion}
use Rattle.std.proofs.lemmas.Bool.Decides.{nat_tests}
use native.Mathlib.Nat.{mod-eq_of_lt}
use Rattle.p3l_base.specs.declared.outcome.TrapKind.{TrapKind}
use Rattle.p3l_base.specs.declared.outcome.TrapKind.TheVariants.{Budget}
use Rattle.p3l_ast.specs.declared.position.Spot.{Spot}
use Rattle.p3l_ast.specs.declared.meaning.valuation.Valuation.{Valuation}
use Rattle.p3l_ast.specs.Tree as tree
use Rattle.p3l_ast.specs.Tree.{Phrase, Phrases, Statements, assign, if_, if_else, while_, for_, join}
use Rattle.p3l_ast.specs.Meaning.Operator.{holds}
use Rattle.p3l_ast.specs.Meaning.Valuation.{with_word, turned}
use Rattle.p3l_ast.specs.Meaning.Expression.{given, value_of, place_of}
use Rattle.p3l_ast.specs.Meaning.Statement.{assigned, chosen, run_by, loop_of, run_of}
use Rattle.p3l_ast.proofs.Turns.{loop_unrolls, run_join, given_same, given_done}
use Rattle.p3l_types.specs.Shape.{product}
use Rattle.p3l_c.specs.Helper.{some_then}
use Rattle.p3l_c.specs.Syntax.{Signed, Test, spent, Lines, done, write, turn, choose, forever}
use Rattle.p3l_c.specs.Machine.{Temps, Store, Ending, goes, returns, and_then, known, written, element_at, place_in, object_of, signed, unsigned, test, runs_by, loops_by}
use Rattle.p3l_c.specs.Translate.{Shapes, sizes_at, test_of, next_all, spots, value, before, assign_lines, turn_lines, lines}
use Rattle.p3l_c.specs.Condition.{count_of, IsDeclared, Fits, FitsAssign, FitsLines, shapes_of, IsObject, stored}
use Rattle.p3l_c.proofs.Helpers.{lt_true}
use Rattle.p3l_c.proofs.Operators.{test_is}
use Rattle.p3l_c.proofs.Steps.{afterwards, afterwards_given, then_then, agree_self, Run, stop_runs, choose_runs}
use Rattle.p3l_c.proofs.Objects.{found_in, sizes_found, shapes_written, objects_written}
use Rattle.p3l_c.proofs.Expressions.{phrase_gets, index_gets}

-- a word that is written to an element
write_runs : (loop : Lines → Test → Lines → Store → Ending) (G : Store → Ending) (s : Valuation) (t : Temps) (x : List ℕ) (ks : List ℕ) (e : Signed) (v : ℤ) (place : ℕ) (rest : Lines) → signed (stored s t) e ≡ Some v → element_at t ks (object_of s.bindings x) ≡ Some place → Run loop G (write x ks e rest) (stored s t) ≡ Run loop G rest (stored (with_word s x place v) t)
unfolding runs_by
write_runs loop G s t x ks e v place rest h k =
    ap (λ o. and_then (known o (λ v. known (written (stored s t) x ks v) (runs_by loop rest))) G) h
    ∙ ap (λ o. and_then (known (some_then o (λ p. Some (stored (with_word s x p v) t))) (runs_by loop rest)) G) k

-- variables are among the names
module _ (variables shapes : Shapes) (among : (name : List ℕ) (n : ℕ) → IsDeclared variables name n → IsDeclared shapes name n) (budget : ℕ) (small : budget < 2 ^ 63) where
  -- the names have their sizes, int64_t has the words, and the turns are within the budget
  pub record IsSound (s : Valuation) : Type 0 where
    pub names : shapes_of s ≡ shapes
    pub objects : AllByRecursion IsObject s.bindings
    pub turns : s.turns ≤ budget

  -- lines do what a step makes of a valuation
  abbrev pub Does : ℕ → (Lines → Lines) → (Valuation → Result Valuation TrapKind) → Type 0
  Does fuel front run =
      (s : Valuation) → IsSound s → budget < s.turns + fuel → (rest : Lines) (t : Temps) (G : Store → Ending) (K : Valuation → Ending) →
      ((m : Valuation) (u : Temps) → IsSound m → s.turns ≤ m.turns → Run (loops_by fuel) G rest (stored m u) ≡ K m) →
      Run (loops_by fuel) G (front rest) (stored s t) ≡ afterwards (run s) K

  then_does : (fuel : ℕ) (one two : Lines → Lines) (run next : Valuation → Result Valuation TrapKind) → Does fuel one run → Does fuel two next → Does fuel (λ rest. one (two rest)) (λ s. given (run s) next)
  then_does fuel one two run next a b s sound more rest t G K h =
      a s sound more (two rest) t G (λ m. afterwards (next m) K)
      (λ m u sm le. b m sm (omega arith) rest u G K (λ n w sn le2. h n w sn (omega arith)))
      ∙ afterwards_given (run s) next K

  same_does : (fuel : ℕ) (front : Lines → Lines) (run other : Valuation → Result Valuation TrapKind) → ((s : Valuation) → run s ≡ other s) → Does fuel front run → Does fuel front other
  same_does fuel front run other e a s sound more rest t G K h = a s sound more rest t G K h ∙ ap (λ r. afterwards r K) (e s)

  assign_does : (fuel : ℕ) (x : List ℕ) (is : Phrases) (e : Phrase) → FitsAssign variables shapes x is e → Does fuel (assign_lines shapes x is e) (assigned x is e)
  assign_does fuel x is e fits s sound more rest t G K h =
      let loop = loops_by fuel in
      let f = found_in s shapes x (count_of is) sound.names sound.objects (among x (count_of is) fits.0) in
      let b = f.object in
      let sizes = sizes_at shapes x in
      let good = f.good in
      let m = next_all 0 is in
      index_gets shapes loop s sound.names sound.objects is fits.1 0 sizes 0 (f.count ∙ ap length f.same) (subst (λ l. AllByRecursion (λ size. size < 2 ^ 63) l) f.same good.sizes)
      (before shapes m e (write x (spots 0 is) (value m e) rest)) t G
      (λ p. afterwards (given (value_of s e) (λ word. Ok (with_word s x p word))) K)
      (λ p u lt au selects.
      let inside : p < length b.words = (let q : product b.sizes ≡ product sizes = ap product f.same in omega (arith, lt, good.whole)) in
      phrase_gets shapes loop s sound.names sound.objects e m fits.2 (write x (spots 0 is) (value m e) rest) u G
      (λ v. K (with_word s x p v))
      (λ v w fv aw hv.
      write_runs loop G s w x (spots 0 is) (value m e) v p rest (hv w (agree_self _ w))
      (ap (element_at w (spots 0 is)) f.is
      ∙ ap (λ o. some_then o (λ place. cond (nat_lt place (length b.words)) (Some place) None)) (ap (λ l. place_in w (spots 0 is) l 0) f.same ∙ selects w aw)
      ∙ ap (λ c. cond c (Some p) None) (lt_true p (length b.words) inside))
      ∙ h (with_word s x p v) w
      (record { names = shapes_written s shapes x p v sound.names; objects = objects_written x p v s.bindings fv sound.objects; turns = sound.turns })
      (omega arith))
      ∙ afterwards_given (value_of s e) (λ word. Ok (with_word s x p word)) K)
      ∙ afterwards_given (place_of s is sizes 0) (λ p. given (value_of s e) (λ word. Ok (with_word s x p word))) K
      ∙ ap (λ l. afterwards (given (place_of s is l 0) (λ p. given (value_of s e) (λ word. Ok (with_word s x p word)))) K) (sym (sizes_found s x b f.is ∙ f.same))

  -- a loop, as long as it is given more turns than are left of the budget
  loop_runs : (e : Phrase) (body : Statements) (front : Lines → Lines) → Fits shapes e → ((fuel : ℕ) → Does fuel front (run_of budget body)) → (fuel : ℕ) (s : Valuation) → IsSound s → budget < s.turns + fuel
      → (t : Temps) (G : Store → Ending) (K : Valuation → Ending) → ((m : Valuation) (u : Temps) → IsSound m → s.turns ≤ m.turns → G (stored m u) ≡ K m)
      → and_then (loops_by fuel (before shapes 0 e done) (test_of (value 0 e)) (turn_lines budget (front done)) (stored s t)) G ≡ afterwards (loop_of budget e body s) K
  unfolding runs_by loops_by signed unsigned test
  loop_runs e body front fits b zero s sound more t G K h = absurd (omega (arith, sound.turns))
  loop_runs e body front fits b (suc fuel) s sound more t G K h =
      let L = loops_by fuel in
      let pre = before shapes 0 e done in
      let c = test_of (value 0 e) in
      let after = turn_lines budget (front done) in
      let again = L pre c after in
      let run = run_of budget body in
      let loop = loop_of budget e body in
      let go = λ (s : Valuation). given (given (turned budget s) run) loop in
      let ways = λ (p : Bool). cond p (λ (st : Store). and_then (runs_by L after st) again) goes in
      let G1 = λ (m : Store). and_then (known (test m c) (λ p. (ways p) m)) G in
      let G2 = λ (st : Store). and_then (again st) G in
      let next : Valuation = record s { turns = s.turns + 1 } in
      then_then (runs_by L pre (stored s t)) (λ m. known (test m c) (λ p. (ways p) m)) G
      ∙ phrase_gets shapes L s sound.names sound.objects e 0 fits done t G1 (λ x. afterwards ((cond (holds x) go Ok) s) K)
      (λ x u fx au hx.
      let turning : (p : Bool) → nat_lt s.turns budget ≡ p → cond (nat_le budget s.turns) (returns Budget) (Run L G2 (turn (front done)) (stored s u)) ≡ afterwards (given (given (cond p (Ok next) (Err Budget)) run) loop) K =
      λ p. elim p as (λ p. nat_lt s.turns budget ≡ p → cond (nat_le budget s.turns) (returns Budget) (Run L G2 (turn (front done)) (stored s u)) ≡ afterwards (given (given (cond p (Ok next) (Err Budget)) run) loop) K) [
        | true ↦ λ q.
            let lt : s.turns < budget = ltb-true s.turns budget q in
            let no : nat_le budget s.turns ≡ false = grind (arith, nat_tests) in
            let count : (s.turns + 1) % 2 ^ 64 ≡ s.turns + 1 = mod-eq_of_lt (let r : s.turns + 1 < 2 ^ 64 = omega arith in r) in
            ap (λ d. cond d (returns Budget) (Run L G2 (turn (front done)) (stored s u))) no
            ∙ ap (λ n. Run L G2 (front done) (record { objects = s.bindings; temps = u; turns = n })) count
            ∙ b fuel next (record { names = sound.names; objects = sound.objects; turns = (let r : s.turns + 1 ≤ budget = omega arith in r) }) (omega arith) done u G2 (λ m. afterwards (loop m) K)
            (λ m w sm le. loop_runs e body front fits b fuel m sm (omega (arith, le)) w G K (λ n z sn le2. h n z sn (omega (arith, le, le2))))
            ∙ afterwards_given (run next) loop K
        | false ↦ λ q.
            let yes : nat_le budget s.turns ≡ true = grind (arith, nat_tests) in
            ap (λ d. cond d (returns Budget) (Run L G2 (turn (front done)) (stored s u))) yes
      ] in
      let way : (p : Bool) → and_then ((ways p) (stored s u)) G ≡ afterwards ((cond p go Ok) s) K =
      λ p. elim p as (λ p. and_then ((ways p) (stored s u)) G ≡ afterwards ((cond p go Ok) s) K) [
        | true ↦
            then_then (runs_by L after (stored s u)) again G
            ∙ stop_runs L G2 s u (spent budget) (nat_le budget s.turns) Budget (turn (front done)) refl
            ∙ turning (nat_lt s.turns budget) refl
        | false ↦ h s u sound (omega arith)
      ] in
      ap (λ o. and_then (known o (λ p. (ways p) (stored s u))) G) (test_is (stored s u) (value 0 e) x (hx u (agree_self _ u)))
      ∙ way (holds x))
      ∙ afterwards_given (value_of s e) (λ x. (cond (holds x) go Ok) s) K
      ∙ ap (λ r. afterwards r K) (sym (loop_unrolls budget e body s))

  while_does : (e : Phrase) (body : Statements) (front : Lines → Lines) → Fits shapes e → ((fuel : ℕ) → Does fuel front (run_of budget body)) → (fuel : ℕ)
      → Does fuel (λ rest. forever (before shapes 0 e done) (test_of (value 0 e)) (turn_lines budget (front done)) rest) (loop_of budget e body)
  unfolding runs_by
  while_does e body front fits b fuel s sound more rest t G K h =
      let L = loops_by fuel in
      then_then (L (before shapes 0 e done) (test_of (value 0 e)) (turn_lines budget (front done)) (stored s t)) (runs_by L rest) G
      ∙ loop_runs e body front fits b fuel s sound more t (λ st. Run L G rest st) K h

  -- one of two ways
  choose_does : (fuel : ℕ) (e : Phrase) (one two : Lines → Lines) (run other : Valuation → Result Valuation TrapKind) → Fits shapes e → Does fuel one run → Does fuel two other
      → Does fuel (λ rest. before shapes 0 e (choose (test_of (value 0 e)) (one done) (two done) rest)) (chosen e run other)
  unfolding runs_by
  choose_does fuel e one two run other fits a b s sound more rest t G K h =
      let L = loops_by fuel in
      let c = test_of (value 0 e) in
      let way : (u : Temps) (p : Bool) → and_then (runs_by L (cond p (one done) (two done)) (stored s u)) (λ st. Run L G rest st) ≡ afterwards ((cond p run other) s) K =
      λ u p. elim p as (λ p. and_then (runs_by L (cond p (one done) (two done)) (stored s u)) (λ st. Run L G rest st) ≡ afterwards ((cond p run other) s) K) [
        | true ↦ a s sound more done u (λ st. Run L G rest st) K h
        | false ↦ b s sound more done u (λ st. Run L G rest st) K h
      ] in
      phrase_gets shapes L s sound.names sound.objects e 0 fits (choose c (one done) (two done) rest) t G (λ x. afterwards ((cond (holds x) run other) s) K)
      (λ x u fx au hx.
      choose_runs L G s u c (holds x) (one done) (two done) rest (test_is (stored s u) (value 0 e) x (hx u (agree_self _ u))) ∙ way u (holds x))
      ∙ afterwards_given (value_of s e) (λ x. (cond (holds x) run other) s) K

  nothing_does : (fuel : ℕ) → Does fuel (λ rest. rest) Ok
  nothing_does fuel s sound more rest t G K h = h s t sound (omega arith)

  -- the body of a `for`, and the assignment after it
  stepped_does : (fuel : ℕ) (body : Statements) (y : Spot) (js : Phrases) (f : Phrase) → FitsAssign variables shapes y.name js f → Does fuel (lines shapes budget body) (run_of budget body)
      → Does fuel (λ rest. lines shapes budget body (assign_lines shapes y.name js f rest)) (run_of budget (join body (assign y js f tree.done)))
  unfolding run_of run_by
  stepped_does fuel body y js f fits b =
      let loop = loop_of budget in
      same_does fuel _ (λ s. given (run_of budget body s) (assigned y.name js f)) (run_of budget (join body (assign y js f tree.done)))
      (λ s. given_same (run_by loop body s) (assigned y.name js f) (run_by loop (assign y js f tree.done)) (λ t q. sym (given_done (assigned y.name js f t))) ∙ sym (run_join loop body (assign y js f tree.done) s))
      (then_does fuel (lines shapes budget body) (assign_lines shapes y.name js f) (run_of budget body) (assigned y.name js f) b (assign_does fuel y.name js f fits))

  pub statements_do : (c : Statements) → FitsLines variables shapes c → (fuel : ℕ) → Does fuel (lines shapes budget c) (run_of budget c)
  unfolding run_of run_by
  statements_do tree.done fits fuel = nothing_does fuel
  statements_do (assign x is e after) fits fuel =
      then_does fuel (assign_lines shapes x.name is e) (lines shapes budget after) (assigned x.name is e) (run_of budget after)
      (assign_does fuel x.name is e fits.0) (statements_do after fits.1 fuel)
  statements_do (if_ e if_so after) fits fuel =
      then_does fuel (λ rest. before shapes 0 e (choose (test_of (value 0 e)) (lines shapes budget if_so done) done rest)) (lines shapes budget after) (chosen e (run_of budget if_so) Ok) (run_of budget after)
      (choose_does fuel e (lines shapes budget if_so) (λ rest. rest) (run_of budget if_so) Ok fits.0 (statements_do if_so fits.1 fuel) (nothing_does fuel))
      (statements_do after fits.2 fuel)
  statements_do (if_else e if_so if_not after) fits fuel =
      then_does fuel (λ rest. before shapes 0 e (choose (test_of (value 0 e)) (lines shapes budget if_so done) (lines shapes budget if_not done) rest)) (lines shapes budget after) (chosen e (run_of budget if_so) (run_of budget if_not)) (run_of budget after)
      (choose_does fuel e (lines shapes budget if_so) (lines shapes budget if_not) (run_of budget if_so) (run_of budget if_not) fits.0 (statements_do if_so fits.1 fuel) (statements_do if_not fits.2 fuel))
      (statements_do after fits.3 fuel)
  statements_do (while_ e body after) fits fuel =
      then_does fuel (λ rest. forever (before shapes 0 e done) (test_of (value 0 e)) (turn_lines budget (lines shapes budget body done)) rest) (lines shapes budget after) (loop_of budget e body) (run_of budget after)
      (while_does e body (lines shapes budget body) fits.0 (statements_do body fits.1) fuel)
      (statements_do after fits.2 fuel)
  statements_do (for_ x is e w y js f body after) fits fuel =
      let all = join body (assign y js f tree.done) in
      let loop = λ (rest : Lines). forever (before shapes 0 w done) (test_of (value 0 w)) (turn_lines budget (lines shapes budget body (assign_lines shapes y.name js f done))) rest in
      then_does fuel (λ rest. assign_lines shapes x.name is e (loop rest)) (lines shapes budget after) (λ s. given (assigned x.name is e s) (loop_of budget w all)) (run_of budget after)
      (then_does fuel (assign_lines shapes x.name is e) loop (assigned x.name is e) (loop_of budget w all)
      (assign_does fuel x.name is e fits.0)
      (while_does w all (λ rest. lines shapes budget body (assign_lines shapes y.name js f rest)) fits.1 (λ n. stepped_does n body y js f fits.2 (statements_do body fits.3 n)) fuel))
      (statements_do after fits.4 fuel)
