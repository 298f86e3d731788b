-- Loops unroll, whatever number of turns their definition recurs on.
use Rattle.std.proofs.Common.{◌≡◌, ℕ, zero, suc, ◌+◌, ◌<◌, ◌≤◌, Bool, true, false, cond, List, Result, Ok, Err, refl, sym, ap, ◌∙◌, arith}
use Rattle.std.specs.Prelude.{nat_lt}
use Rattle.std.proofs.lemmas.Bool.Decides.{nat_tests}
use Rattle.p3l_base.specs.declared.outcome.TrapKind.{TrapKind}
use Rattle.p3l_base.specs.declared.outcome.TrapKind.TheVariants.{Budget}
use Rattle.p3l_ast.specs.declared.meaning.valuation.Valuation.{Valuation}
use Rattle.p3l_ast.specs.Tree.{Phrase, Phrases, Statements, done, assign, if_, if_else, while_, for_, join}
use Rattle.p3l_ast.specs.Meaning.Operator.{holds}
use Rattle.p3l_ast.specs.Meaning.Valuation.{sizes_of, with_word, turned}
use Rattle.p3l_ast.specs.Meaning.Expression.{given, value_of, place_of}
use Rattle.p3l_ast.specs.Meaning.Statement.{assigned, chosen, run_by, loop_by, loop_of, run_of}

-- an Ok of `given` comes of an Ok, and `go` returns Ok on its value
given_ok : {A B : Type 0} (P : Type 0) (r : Result A TrapKind) (go : A → Result B TrapKind) (y : B) → given r go ≡ Ok y → ((x : A) → r ≡ Ok x → go x ≡ Ok y → P) → P
given_ok P (Ok x) go y h k = k x refl h
given_ok P (Err trap) go y h k = absurd cc

pub given_same : {A B : Type 0} (r : Result A TrapKind) (go other : A → Result B TrapKind) → ((x : A) → r ≡ Ok x → go x ≡ other x) → given r go ≡ given r other
given_same (Ok x) go other h = h x refl
given_same (Err trap) go other h = refl

pub given_given : {A B C : Type 0} (r : Result A TrapKind) (go : A → Result B TrapKind) (next : B → Result C TrapKind) → given (given r go) next ≡ given r (λ x. given (go x) next)
given_given (Ok x) go next = refl
given_given (Err trap) go next = refl

pub given_done : {A : Type 0} (r : Result A TrapKind) → given r Ok ≡ r
given_done (Ok x) = refl
given_done (Err trap) = refl

-- an assignment counts no turn
assigned_turns : (name : List ℕ) (index : Phrases) (e : Phrase) (s t : Valuation) → assigned name index e s ≡ Ok t → s.turns ≡ t.turns
assigned_turns name index e s t h =
    given_ok (s.turns ≡ t.turns) (place_of s index (sizes_of s name) 0) (λ place. given (value_of s e) (λ word. Ok (with_word s name place word))) t h
    (λ place p k. given_ok (s.turns ≡ t.turns) (value_of s e) (λ word. Ok (with_word s name place word)) t k
    (λ word q w. ap (λ r. turns_in r s) w))
  where
    turns_in : Result Valuation TrapKind → Valuation → ℕ
    turns_in (Ok x) s = x.turns
    turns_in (Err trap) s = s.turns

-- a way that is chosen counts what it counts
chosen_grows : (e : Phrase) (one other : Valuation → Result Valuation TrapKind) (s t : Valuation) → chosen e one other s ≡ Ok t → (one s ≡ Ok t → s.turns ≤ t.turns) → (other s ≡ Ok t → s.turns ≤ t.turns) → s.turns ≤ t.turns
chosen_grows e one other s t h p q =
    given_ok (s.turns ≤ t.turns) (value_of s e) (λ x. (cond (holds x) one other) s) t h (λ x v k. by (holds x) k)
  where
    by : (b : Bool) → (cond b one other) s ≡ Ok t → s.turns ≤ t.turns
    by true k = p k
    by false k = q k

chosen_same : (e : Phrase) (one other first second : Valuation → Result Valuation TrapKind) (s : Valuation) → one s ≡ first s → other s ≡ second s → chosen e one other s ≡ chosen e first second s
chosen_same e one other first second s p q = given_same (value_of s e) (λ x. (cond (holds x) one other) s) (λ x. (cond (holds x) first second) s) (λ x v. by (holds x))
  where
    by : (b : Bool) → (cond b one other) s ≡ (cond b first second) s
    by true = p
    by false = q

-- a loop never counts back
abbrev Grows : (Phrase → Statements → Valuation → Result Valuation TrapKind) → Type 0
Grows loop = (e : Phrase) (body : Statements) (s t : Valuation) → loop e body s ≡ Ok t → s.turns ≤ t.turns

-- from n turns on two loops do the same
abbrev Agree : ℕ → (Phrase → Statements → Valuation → Result Valuation TrapKind) → (Phrase → Statements → Valuation → Result Valuation TrapKind) → Type 0
Agree n loop other = (e : Phrase) (body : Statements) (s : Valuation) → n ≤ s.turns → loop e body s ≡ other e body s

-- one after another
then_grows : (r : Result Valuation TrapKind) (go : Valuation → Result Valuation TrapKind) (s t : Valuation) → given r go ≡ Ok t → ((m : Valuation) → r ≡ Ok m → s.turns ≤ m.turns) → ((m : Valuation) → go m ≡ Ok t → m.turns ≤ t.turns) → s.turns ≤ t.turns
then_grows r go s t h p q = given_ok (s.turns ≤ t.turns) r go t h (λ m k l. let a = p m k in let b = q m l in omega arith)

kept : Valuation → Result Valuation TrapKind
kept s = Ok s

ok_same : (s t : Valuation) → kept s ≡ Ok t → s.turns ≤ t.turns
unfolding kept
ok_same s t h = let q : s ≡ t = cc in let e : s.turns ≡ t.turns = ap (λ x. x.turns) q in omega arith

pub run_grows : (loop : Phrase → Statements → Valuation → Result Valuation TrapKind) → Grows loop → (statements : Statements) (s t : Valuation) → run_by loop statements s ≡ Ok t → s.turns ≤ t.turns
unfolding run_by kept
run_grows loop g done s t h = ok_same s t h
run_grows loop g (assign x index e next) s t h =
    then_grows (assigned x.name index e s) (run_by loop next) s t h
    (λ m k. let q = assigned_turns x.name index e s m k in omega arith)
    (λ m k. run_grows loop g next m t k)
run_grows loop g (if_ e one next) s t h =
    then_grows (chosen e (run_by loop one) Ok s) (run_by loop next) s t h
    (λ m k. chosen_grows e (run_by loop one) Ok s m k (run_grows loop g one s m) (ok_same s m))
    (λ m k. run_grows loop g next m t k)
run_grows loop g (if_else e one other next) s t h =
    then_grows (chosen e (run_by loop one) (run_by loop other) s) (run_by loop next) s t h
    (λ m k. chosen_grows e (run_by loop one) (run_by loop other) s m k (run_grows loop g one s m) (run_grows loop g other s m))
    (λ m k. run_grows loop g next m t k)
run_grows loop g (while_ e body next) s t h =
    then_grows (loop e body s) (run_by loop next) s t h (λ m k. g e body s m k) (λ m k. run_grows loop g next m t k)
run_grows loop g (for_ x index e w y indices f body next) s t h =
    then_grows (given (assigned x.name index e s) (loop w (join body (assign y indices f done)))) (run_by loop next) s t h
    (λ m k. then_grows (assigned x.name index e s) (loop w (join body (assign y indices f done))) s m k
    (λ n l. let q = assigned_turns x.name index e s n l in omega arith)
    (λ n l. g w (join body (assign y indices f done)) n m l))
    (λ m k. run_grows loop g next m t k)

-- the same first step, and the same after it
then_same : (r q : Result Valuation TrapKind) (go other : Valuation → Result Valuation TrapKind) → r ≡ q → ((m : Valuation) → r ≡ Ok m → go m ≡ other m) → given r go ≡ given q other
then_same r q go other p h = given_same r go other h ∙ ap (λ x. given x other) p

pub run_same : (n : ℕ) (loop other : Phrase → Statements → Valuation → Result Valuation TrapKind) → Agree n loop other → Grows loop → (statements : Statements) (s : Valuation) → n ≤ s.turns → run_by loop statements s ≡ run_by other statements s
unfolding run_by kept
run_same n loop other a g done s h = refl
run_same n loop other a g (assign x index e next) s h =
    then_same (assigned x.name index e s) _ (run_by loop next) (run_by other next) refl
    (λ m k. run_same n loop other a g next m (let q = assigned_turns x.name index e s m k in omega arith))
run_same n loop other a g (if_ e one next) s h =
    then_same (chosen e (run_by loop one) Ok s) _ (run_by loop next) (run_by other next)
    (chosen_same e (run_by loop one) Ok (run_by other one) Ok s (run_same n loop other a g one s h) refl)
    (λ m k. run_same n loop other a g next m (let q = chosen_grows e (run_by loop one) Ok s m k (run_grows loop g one s m) (ok_same s m) in omega arith))
run_same n loop other a g (if_else e one two next) s h =
    then_same (chosen e (run_by loop one) (run_by loop two) s) _ (run_by loop next) (run_by other next)
    (chosen_same e (run_by loop one) (run_by loop two) (run_by other one) (run_by other two) s (run_same n loop other a g one s h) (run_same n loop other a g two s h))
    (λ m k. run_same n loop other a g next m (let q = chosen_grows e (run_by loop one) (run_by loop two) s m k (run_grows loop g one s m) (run_grows loop g two s m) in omega arith))
run_same n loop other a g (while_ e body next) s h =
    then_same (loop e body s) _ (run_by loop next) (run_by other next) (a e body s h)
    (λ m k. run_same n loop other a g next m (let q = g e body s m k in omega arith))
run_same n loop other a g (for_ x index e w y indices f body next) s h =
    let all = join body (assign y indices f done) in
    then_same (given (assigned x.name index e s) (loop w all)) _ (run_by loop next) (run_by other next)
    (then_same (assigned x.name index e s) _ (loop w all) (other w all) refl (λ m k. a w all m (let q = assigned_turns x.name index e s m k in omega arith)))
    (λ m k. run_same n loop other a g next m
    (let q = then_grows (assigned x.name index e s) (loop w all) s m k (λ n l. let q = assigned_turns x.name index e s n l in omega arith) (λ n l. g w all n m l) in omega arith))

-- one turn more
pub turned_ok : (budget : ℕ) (s t : Valuation) → turned budget s ≡ Ok t → (s.turns < budget) × (t.turns ≡ s.turns + 1)
turned_ok budget s t h = by (nat_lt s.turns budget) refl h
  where
    by : (b : Bool) → nat_lt s.turns budget ≡ b → cond b (Ok (record s { turns = s.turns + 1 })) (Err Budget) ≡ Ok t → (s.turns < budget) × (t.turns ≡ s.turns + 1)
    by true e k = (grind (arith, nat_tests), (let q : record s { turns = s.turns + 1 } ≡ t = cc in sym (ap (λ x. x.turns) q)))
    by false e k = absurd cc

turned_over : (budget : ℕ) (s : Valuation) → budget ≤ s.turns → turned budget s ≡ Err Budget
turned_over budget s h = let e : nat_lt s.turns budget ≡ false = grind (arith, nat_tests) in rw e refl

-- one turn of a loop, and what comes after it
abbrev turn_by : (Valuation → Result Valuation TrapKind) → (Valuation → Result Valuation TrapKind) → ℕ → Valuation → Result Valuation TrapKind
turn_by body again budget s = given (given (turned budget s) body) again

turn_grows : (body again : Valuation → Result Valuation TrapKind) (budget : ℕ) (s t : Valuation) → ((m n : Valuation) → body m ≡ Ok n → m.turns ≤ n.turns) → ((m n : Valuation) → again m ≡ Ok n → m.turns ≤ n.turns) → turn_by body again budget s ≡ Ok t → s.turns ≤ t.turns
turn_grows body again budget s t p q h =
    then_grows (given (turned budget s) body) again s t h
    (λ m k. then_grows (turned budget s) body s m k (λ n l. let r = (turned_ok budget s n l).1 in omega arith) (λ n l. p n m l))
    (λ m k. q m t k)

pub loop_grows : (budget f : ℕ) → Grows (loop_by budget f)
unfolding loop_by kept
loop_grows budget zero e body s t h = chosen_grows e (λ s. Err Budget) Ok s t h (λ k. absurd cc) (ok_same s t)
loop_grows budget (suc f) e body s t h =
    chosen_grows e (turn_by (run_by (loop_by budget f) body) (loop_by budget f e body) budget) Ok s t h
    (turn_grows (run_by (loop_by budget f) body) (loop_by budget f e body) budget s t (run_grows (loop_by budget f) (loop_grows budget f) body) (loop_grows budget f e body))
    (ok_same s t)

-- the turns that are left suffice
pub loop_same : (budget f g : ℕ) (e : Phrase) (body : Statements) (s : Valuation) → budget ≤ s.turns + f → budget ≤ s.turns + g → loop_by budget f e body s ≡ loop_by budget g e body s
unfolding loop_by
loop_same budget zero zero e body s p q = refl
loop_same budget zero (suc g) e body s p q =
    chosen_same e (λ s. Err Budget) Ok (turn_by (run_by (loop_by budget g) body) (loop_by budget g e body) budget) Ok s
    (sym (ap (λ r. given (given r (run_by (loop_by budget g) body)) (loop_by budget g e body)) (turned_over budget s (omega arith)))) refl
loop_same budget (suc f) zero e body s p q =
    chosen_same e (turn_by (run_by (loop_by budget f) body) (loop_by budget f e body) budget) Ok (λ s. Err Budget) Ok s
    (ap (λ r. given (given r (run_by (loop_by budget f) body)) (loop_by budget f e body)) (turned_over budget s (omega arith))) refl
loop_same budget (suc f) (suc g) e body s p q =
    chosen_same e (turn_by (run_by (loop_by budget f) body) (loop_by budget f e body) budget) Ok (turn_by (run_by (loop_by budget g) body) (loop_by budget g e body) budget) Ok s
    (then_same (given (turned budget s) (run_by (loop_by budget f) body)) _ (loop_by budget f e body) (loop_by budget g e body)
    (then_same (turned budget s) _ (run_by (loop_by budget f) body) (run_by (loop_by budget g) body) refl
    (λ m k. let t = turned_ok budget s m k in
    run_same m.turns (loop_by budget f) (loop_by budget g) (λ e b n l. loop_same budget f g e b n (omega (arith, t.1)) (omega (arith, t.1))) (loop_grows budget f) body m (omega arith)))
    (λ m k. given_ok _ (turned budget s) (run_by (loop_by budget f) body) m k
    (λ n l o. let t = turned_ok budget s n l in let r = run_grows (loop_by budget f) (loop_grows budget f) body n m o in
    loop_same budget f g e body m (omega (arith, t.1)) (omega (arith, t.1)))))
    refl

-- a loop is a turn and the loop again, as long as the condition holds
pub loop_unrolls : (budget : ℕ) (e : Phrase) (body : Statements) (s : Valuation) → loop_of budget e body s ≡ chosen e (λ t. given (given (turned budget t) (run_of budget body)) (loop_of budget e body)) Ok s
unfolding loop_of run_of loop_by
loop_unrolls zero e body s =
    chosen_same e (λ t. Err Budget) Ok (turn_by (run_of zero body) (loop_of zero e body) zero) Ok s
    (sym (ap (λ r. given (given r (run_of zero body)) (loop_of zero e body)) (turned_over zero s (omega arith)))) refl
loop_unrolls (suc f) e body s =
    chosen_same e (turn_by (run_by (loop_by (suc f) f) body) (loop_by (suc f) f e body) (suc f)) Ok (turn_by (run_of (suc f) body) (loop_of (suc f) e body) (suc f)) Ok s
    (then_same (given (turned (suc f) s) (run_by (loop_by (suc f) f) body)) _ (loop_by (suc f) f e body) (loop_of (suc f) e body)
    (then_same (turned (suc f) s) _ (run_by (loop_by (suc f) f) body) (run_of (suc f) body) refl
    (λ m k. let t = turned_ok (suc f) s m k in
    run_same m.turns (loop_by (suc f) f) (loop_of (suc f)) (λ e b n l. loop_same (suc f) f (suc f) e b n (omega (arith, t.1)) (omega (arith, t.1))) (loop_grows (suc f) f) body m (omega arith)))
    (λ m k. given_ok _ (turned (suc f) s) (run_by (loop_by (suc f) f) body) m k
    (λ n l o. let t = turned_ok (suc f) s n l in let r = run_grows (loop_by (suc f) f) (loop_grows (suc f) f) body n m o in
    loop_same (suc f) f (suc f) e body m (omega (arith, t.1)) (omega (arith, t.1)))))
    refl

-- statements one after another
pub run_join : (loop : Phrase → Statements → Valuation → Result Valuation TrapKind) (first next : Statements) (s : Valuation) → run_by loop (join first next) s ≡ given (run_by loop first s) (run_by loop next)
unfolding run_by
run_join loop done next s = refl
run_join loop (assign x index e rest) next s =
    given_same (assigned x.name index e s) _ _ (λ m k. run_join loop rest next m) ∙ sym (given_given (assigned x.name index e s) (run_by loop rest) (run_by loop next))
run_join loop (if_ e one rest) next s =
    given_same (chosen e (run_by loop one) Ok s) _ _ (λ m k. run_join loop rest next m) ∙ sym (given_given (chosen e (run_by loop one) Ok s) (run_by loop rest) (run_by loop next))
run_join loop (if_else e one other rest) next s =
    given_same (chosen e (run_by loop one) (run_by loop other) s) _ _ (λ m k. run_join loop rest next m) ∙ sym (given_given (chosen e (run_by loop one) (run_by loop other) s) (run_by loop rest) (run_by loop next))
run_join loop (while_ e body rest) next s =
    given_same (loop e body s) _ _ (λ m k. run_join loop rest next m) ∙ sym (given_given (loop e body s) (run_by loop rest) (run_by loop next))
run_join loop (for_ x index e w y indices f body rest) next s =
    let whole = given (assigned x.name index e s) (loop w (join body (assign y indices f done))) in
    given_same whole _ _ (λ m k. run_join loop rest next m) ∙ sym (given_given whole (run_by loop rest) (run_by loop next))
