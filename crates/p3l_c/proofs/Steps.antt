-- One statement of C after another.
use Rattle.std.proofs.Common.{◌≡◌, ℕ, ℤ, ◌≤◌, ◌<◌, Bool, true, false, cond, Some, Result, Ok, Err, refl, ap, ◌∙◌, arith, nat_eq}
use Rattle.std.proofs.lemmas.Bool.Decides.{nat_tests}
use Rattle.p3l_base.specs.declared.outcome.TrapKind.{TrapKind}
use Rattle.p3l_ast.specs.declared.meaning.valuation.Valuation.{Valuation}
use Rattle.p3l_ast.specs.Meaning.Expression.{given}
use Rattle.p3l_c.specs.Syntax.{Signed, Test, Lines, keep, stop_if, choose}
use Rattle.p3l_c.specs.Machine.{Temps, Store, Ending, goes, returns, undefined, unfinished, and_then, known, kept, signed, test, runs_by}
use Rattle.p3l_c.specs.Condition.{stored}

-- a result and its continuation: a trap is returned
abbrev pub afterwards : {A : Type 0} → Result A TrapKind → (A → Ending) → Ending
afterwards (Ok x) K = K x
afterwards (Err trap) K = returns trap

pub afterwards_given : {A B : Type 0} (r : Result A TrapKind) (go : A → Result B TrapKind) (K : B → Ending) → afterwards r (λ x. afterwards (go x) K) ≡ afterwards (given r go) K
afterwards_given (Ok x) go K = refl
afterwards_given (Err trap) go K = refl

pub afterwards_same : {A : Type 0} (r : Result A TrapKind) (K L : A → Ending) → ((x : A) → K x ≡ L x) → afterwards r K ≡ afterwards r L
afterwards_same (Ok x) K L h = h x
afterwards_same (Err trap) K L h = refl

pub then_then : (e : Ending) (go next : Store → Ending) → and_then (and_then e go) next ≡ and_then e (λ st. and_then (go st) next)
then_then (goes st) go next = refl
then_then (returns trap) go next = refl
then_then undefined go next = refl
then_then unfinished go next = refl

-- temps below n are the same
abbrev pub Agree : ℕ → Temps → Temps → Type 0
Agree n old new = (k : ℕ) → k < n → new k ≡ old k

pub agree_self : (n : ℕ) (t : Temps) → Agree n t t
agree_self n t k h = refl

pub agree_then : (n m : ℕ) (a b c : Temps) → n ≤ m → Agree n a b → Agree m b c → Agree n a c
agree_then n m a b c le p q k h = q k (omega arith) ∙ p k h

pub eq_self : (k : ℕ) → nat_eq k k ≡ true
eq_self k = grind (arith, nat_tests)

pub eq_other : (j k : ℕ) → j < k → nat_eq j k ≡ false
eq_other j k h = grind (arith, nat_tests)

pub kept_self : (t : Temps) (k : ℕ) (v : ℤ) → kept t k v k ≡ Some v
kept_self t k v = ap (λ b. cond b (Some v) (t k)) (eq_self k)

pub kept_other : (t : Temps) (k : ℕ) (v : ℤ) (j : ℕ) → j < k → kept t k v j ≡ t j
kept_other t k v j h = ap (λ b. cond b (Some v) (t j)) (eq_other j k h)

pub agree_kept : (n k : ℕ) (t : Temps) (v : ℤ) → n ≤ k → Agree n t (kept t k v)
agree_kept n k t v le j h = kept_other t k v j (omega arith)

-- an expression has a value as long as the temps below m are the same
abbrev pub Holds : Valuation → Temps → ℕ → Signed → ℤ → Type 0
Holds s t m e v = (new : Temps) → Agree m t new → signed (stored s new) e ≡ Some v

pub holds_later : (s : Valuation) (t new : Temps) (m n : ℕ) (e : Signed) (v : ℤ) → m ≤ n → Agree m t new → Holds s t m e v → Holds s new n e v
holds_later s t new m n e v le a h last b = h last (agree_then m n t new last le a b)

module _ (loop : Lines → Test → Lines → Store → Ending) (G : Store → Ending) where
  -- statements, and what comes after them
  abbrev pub Run : Lines → Store → Ending
  Run c st = and_then (runs_by loop c st) G

  pub keep_runs : (s : Valuation) (t : Temps) (k : ℕ) (e : Signed) (v : ℤ) (rest : Lines) → signed (stored s t) e ≡ Some v → Run (keep k e rest) (stored s t) ≡ Run rest (stored s (kept t k v))
  unfolding runs_by
  keep_runs s t k e v rest h = ap (λ o. and_then (known o (λ v. runs_by loop rest (stored s (kept t k v)))) G) h

  pub stop_runs : (s : Valuation) (t : Temps) (c : Test) (b : Bool) (trap : TrapKind) (rest : Lines) → test (stored s t) c ≡ Some b → Run (stop_if c trap rest) (stored s t) ≡ cond b (returns trap) (Run rest (stored s t))
  unfolding runs_by
  stop_runs s t c b trap rest h = ap (λ o. and_then (known o (λ t'. (cond t' (λ s. returns trap) (runs_by loop rest)) (stored s t))) G) h ∙ by b
    where
      by : (b : Bool) → and_then ((cond b (λ s. returns trap) (runs_by loop rest)) (stored s t)) G ≡ cond b (returns trap) (and_then (runs_by loop rest (stored s t)) G)
      by true = refl
      by false = refl

pub choose_runs : (loop : Lines → Test → Lines → Store → Ending) (G : Store → Ending) (s : Valuation) (t : Temps) (c : Test) (b : Bool) (one two rest : Lines) → test (stored s t) c ≡ Some b → and_then (runs_by loop (choose c one two rest) (stored s t)) G ≡ and_then (runs_by loop (cond b one two) (stored s t)) (λ st. and_then (runs_by loop rest st) G)
unfolding runs_by
choose_runs loop G s t c b one two rest h =
    ap (λ o. and_then (known o (λ t'. and_then ((cond t' (runs_by loop one) (runs_by loop two)) (stored s t)) (runs_by loop rest))) G) h ∙ by b
  where
    by : (b : Bool) → and_then (and_then ((cond b (runs_by loop one) (runs_by loop two)) (stored s t)) (runs_by loop rest)) G ≡ and_then (runs_by loop (cond b one two) (stored s t)) (λ st. and_then (runs_by loop rest st) G)
    by true = then_then (runs_by loop one (stored s t)) (runs_by loop rest) G
    by false = then_then (runs_by loop two (stored s t)) (runs_by loop rest) G
