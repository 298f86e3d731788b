-- The turns of a loop, one at a time.
use Rattle.std.proofs.Common.{◌≡◌, ℕ, ℤ, zero, suc, ◌-◌, ◌<◌, true, false, if◌then◌else◌, List, refl, arith, ap, sym, ◌∙◌}
use Rattle.p3l_base.specs.declared.outcome.Outcome.{Outcome}
use Rattle.p3l_base.specs.declared.outcome.Outcome.TheVariants.{Value, Trapped}
use Rattle.p3l_base.specs.declared.outcome.Trap.{Trap}
use Rattle.p3l_skel.specs.Item.{on_value, is_done, turned}

module _ (body condition : List ℤ → Outcome) (spent : Outcome) where
  -- a turn, where there is one left
  turn : ℕ → Outcome → Outcome
  turn left outcome =
      on_value (λ result. on_value (λ answer. if is_done answer then Value result else turned body condition spent left result) (condition result)) outcome

  turned-step : (n : ℕ) (words : List ℤ) → 0 < n → turned body condition spent n words ≡ turn (n - 1) (body words)
  unfolding turn
  turned-step zero words some = absurd (omega arith)
  turned-step (suc n) words some = let e : suc n - 1 ≡ n = omega arith in rw e refl

  pub turned-body_trap : (n : ℕ) (words : List ℤ) (trap : Trap) → 0 < n → Trapped trap ≡ body words → Trapped trap ≡ turned body condition spent n words
  unfolding turn
  turned-body_trap n words trap some is = ap (turn (n - 1)) is ∙ sym (turned-step n words some)

  -- the outcome after the condition
  after : ℕ → List ℤ → Outcome → Outcome
  after left result answer = on_value (λ a. if is_done a then Value result else turned body condition spent left result) answer

  turned-body : (n : ℕ) (words next : List ℤ) → 0 < n → Value next ≡ body words → after (n - 1) next (condition next) ≡ turned body condition spent n words
  unfolding turn after
  turned-body n words next some is = ap (turn (n - 1)) is ∙ sym (turned-step n words some)

  pub turned-condition_trap : (n : ℕ) (words next : List ℤ) (trap : Trap) → 0 < n → Value next ≡ body words → Trapped trap ≡ condition next → Trapped trap ≡ turned body condition spent n words
  unfolding after
  turned-condition_trap n words next trap some is test = ap (after (n - 1) next) test ∙ turned-body n words next some is

  pub turned-done : (n : ℕ) (words next answer : List ℤ) → 0 < n → Value next ≡ body words → Value answer ≡ condition next → is_done answer ≡ true → Value next ≡ turned body condition spent n words
  unfolding after
  turned-done n words next answer some is test done =
      sym (ap (λ b. if b then Value next else turned body condition spent (n - 1) next) done) ∙ (ap (after (n - 1) next) test ∙ turned-body n words next some is)

  pub turned-again : (n : ℕ) (words next answer : List ℤ) → 0 < n → Value next ≡ body words → Value answer ≡ condition next → is_done answer ≡ false → turned body condition spent (n - 1) next ≡ turned body condition spent n words
  unfolding after
  turned-again n words next answer some is test more =
      sym (ap (λ b. if b then Value next else turned body condition spent (n - 1) next) more) ∙ (ap (after (n - 1) next) test ∙ turned-body n words next some is)

  pub turned-none : (n : ℕ) (words : List ℤ) → n ≡ 0 → spent ≡ turned body condition spent n words
  turned-none n words none = ap (λ m. turned body condition spent m words) (sym none)
