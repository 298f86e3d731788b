-- Entries that are checked one after another, with the variables and ports in their places.
use Rattle.std.proofs.Common.{◌≡◌, ℕ, zero, suc, ◌+◌, ◌<◌, List, [], ◌∷◌, length, get_or, drop, Ok, Err, Option, Some, None, refl, sym, ap, ◌∙◌, add-one}
use Rattle.std.specs.Prelude.{slice_get}
use Rattle.std.proofs.lemmas.List.{drop_more}
use Rattle.p3l_ast.specs.declared.position.Pos.{Pos}
use Rattle.p3l_ast.specs.declared.refusal.SourceRefusal.{SourceRefusal}
use Rattle.p3l_types.specs.Verdict.{Verdict, given}
use Rattle.p3l_body.specs.declared.var.Var.{Var}
use Rattle.p3l_calls.specs.Plain.{first, after_first, in_order}

-- the first element after k dropped ones is element k
pub first-drop : {A : Type 0} (xs : List A) (k : ℕ) → first (drop k xs) ≡ slice_get xs k
first-drop [] zero = refl
first-drop [] (suc k) = refl
first-drop (x ∷ xs) zero = refl
first-drop (x ∷ xs) (suc k) = first-drop xs k

pub after_first-drop : {A : Type 0} (xs : List A) (k : ℕ) → after_first (drop k xs) ≡ drop (k + 1) xs
after_first-drop xs k = rw add-one (by xs k)
  where
    by : {A : Type 0} (ys : List A) (i : ℕ) → after_first (drop i ys) ≡ drop (suc i) ys
    by [] zero = refl
    by [] (suc i) = refl
    by (y ∷ ys) zero = refl
    by (y ∷ ys) (suc i) = by ys i

-- the list from a place on
pub drop-some : {A : Type 0} (xs : List A) (k : ℕ) (x : A) → slice_get xs k ≡ Some x → drop k xs ≡ x ∷ drop (k + 1) xs
drop-some xs k x e = rw add-one (by xs k x e)
  where
    by : {A : Type 0} (ys : List A) (i : ℕ) (y : A) → slice_get ys i ≡ Some y → drop i ys ≡ y ∷ drop (suc i) ys
    by [] i y e = absurd cc
    by (z ∷ zs) zero y e = let same : z ≡ y = cc in ap (λ w. w ∷ zs) same
    by (z ∷ zs) (suc i) y e = by zs i y e

pub drop-none : {A : Type 0} (xs : List A) (k : ℕ) → slice_get xs k ≡ None → drop k xs ≡ []
drop-none [] zero e = refl
drop-none [] (suc k) e = refl
drop-none (x ∷ xs) zero e = absurd cc
drop-none (x ∷ xs) (suc k) e = drop-none xs k e

module _ {A : Type 0} (rule : Option Var → Option Var → A → Verdict) (place : Pos) (vars ports : List Var) (xs : List A) where
  -- the rules of the entries that are left, one step on
  in_order-step : (k : ℕ) (d : A) → k < length xs →
      in_order rule place (drop k vars) (drop k ports) (drop k xs)
      ≡ given (rule (slice_get vars k) (slice_get ports k) (get_or xs k d)) (λ y. in_order rule place (drop (k + 1) vars) (drop (k + 1) ports) (drop (k + 1) xs))
  in_order-step k d h =
      rw (drop_more xs k d h)
      (ap (λ v. given v (λ y. in_order rule place (after_first (drop k vars)) (after_first (drop k ports)) (drop (k + 1) xs)))
      (ap (λ o. rule o (first (drop k ports)) (get_or xs k d)) (first-drop vars k) ∙ ap (λ o. rule (slice_get vars k) o (get_or xs k d)) (first-drop ports k))
      ∙ ap (λ vs. given (rule (slice_get vars k) (slice_get ports k) (get_or xs k d)) (λ y. in_order rule place vs (after_first (drop k ports)) (drop (k + 1) xs))) (after_first-drop vars k)
      ∙ ap (λ ps. given (rule (slice_get vars k) (slice_get ports k) (get_or xs k d)) (λ y. in_order rule place (drop (k + 1) vars) ps (drop (k + 1) xs))) (after_first-drop ports k))

  -- the rule of the rest, if that of its next entry is broken and if it is kept
  pub in_order-broken : (k : ℕ) (x : A) (e : SourceRefusal) → k < length xs → x ≡ get_or xs k x →
      rule (slice_get vars k) (slice_get ports k) x ≡ Err e → in_order rule place (drop k vars) (drop k ports) (drop k xs) ≡ Err e
  in_order-broken k x e h is broken =
      in_order-step k x h
      ∙ ap (λ y. given (rule (slice_get vars k) (slice_get ports k) y) (λ z. in_order rule place (drop (k + 1) vars) (drop (k + 1) ports) (drop (k + 1) xs))) (sym is)
      ∙ ap (λ v. given v (λ z. in_order rule place (drop (k + 1) vars) (drop (k + 1) ports) (drop (k + 1) xs))) broken

  pub in_order-kept : (k : ℕ) (x : A) (u : Unit {0}) → k < length xs → x ≡ get_or xs k x →
      rule (slice_get vars k) (slice_get ports k) x ≡ Ok u →
      in_order rule place (drop k vars) (drop k ports) (drop k xs) ≡ in_order rule place (drop (k + 1) vars) (drop (k + 1) ports) (drop (k + 1) xs)
  in_order-kept k x u h is keeps =
      in_order-step k x h
      ∙ ap (λ y. given (rule (slice_get vars k) (slice_get ports k) y) (λ z. in_order rule place (drop (k + 1) vars) (drop (k + 1) ports) (drop (k + 1) xs))) (sym is)
      ∙ ap (λ v. given v (λ z. in_order rule place (drop (k + 1) vars) (drop (k + 1) ports) (drop (k + 1) xs))) keeps

pub ruleset entries = (in_order-broken, in_order-kept)
