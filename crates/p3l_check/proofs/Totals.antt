-- Words of variables, and types of variables, one after another.
use Rattle.std.proofs.Common.{◌≡◌, ℕ, ◌+◌, ◌<◌, ◌≤◌, false, ◌&&◌, List, [], ◌∷◌, length, drop, get_or, refl, sym, ap, ◌∙◌, arith}
use Rattle.std.specs.Prelude.{bytes_eq}
use Rattle.std.proofs.lemmas.List.{drop_more, drop_all}
use Rattle.p3l_types.specs.Shape.{product}
use Rattle.p3l_body.specs.declared.var.Var.{Var}
use Rattle.p3l_calls.specs.Port.{total}
use Rattle.p3l_check.specs.Skeleton.{same_types}

-- the words of those that are left, one step on and at the end
pub total-step : (vars : List Var) (k : ℕ) (var : Var) → k < length vars → var ≡ get_or vars k var →
    total (drop k vars) ≡ product var.shape.sizes + total (drop (k + 1) vars)
total-step vars k var inside is =
    ap total (drop_more vars k var inside) ∙ ap (λ (v : Var). product v.shape.sizes + total (drop (k + 1) vars)) (sym is)

pub total-end : (vars : List Var) (k : ℕ) → length vars ≤ k → total (drop k vars) ≡ 0
total-end vars k past = ap total (drop_all k vars past)

pub ruleset totals = (total-step, total-end)

types-cons : (vars left : List Var) (var other : Var) → 1 ≤ length left → other ≡ get_or left 0 other →
    same_types (var ∷ vars) left ≡ (bytes_eq var.shape.sizes other.shape.sizes && same_types vars (drop 1 left))
types-cons vars [] var other some is = absurd (omega (arith, some))
types-cons vars (o ∷ left) var other some is = ap (λ (v : Var). bytes_eq var.shape.sizes v.shape.sizes && same_types vars left) (sym is)

-- the types of those that are left, one step on and at the end
pub types-step : (vars left : List Var) (k : ℕ) (var other : Var) → k < length vars → var ≡ get_or vars k var → 1 ≤ length left → other ≡ get_or left 0 other →
    same_types (drop k vars) left ≡ (bytes_eq var.shape.sizes other.shape.sizes && same_types (drop (k + 1) vars) (drop 1 left))
types-step vars left k var other inside is some first =
    ap (λ vs. same_types vs left) (drop_more vars k var inside)
    ∙ (ap (λ v. same_types (v ∷ drop (k + 1) vars) left) (sym is) ∙ types-cons (drop (k + 1) vars) left var other some first)

types-nil : (var : Var) (vars left : List Var) → length left ≡ 0 → same_types (var ∷ vars) left ≡ false
types-nil var vars [] none = refl
types-nil var vars (o ∷ left) none = absurd (omega (arith, none))

pub types-short : (vars left : List Var) (k : ℕ) (var : Var) → k < length vars → length left ≡ 0 → same_types (drop k vars) left ≡ false
types-short vars left k var inside none = ap (λ vs. same_types vs left) (drop_more vars k var inside) ∙ types-nil (get_or vars k var) (drop (k + 1) vars) left none

pub types-all : (vars left : List Var) (k : ℕ) → length vars ≤ k → same_types (drop k vars) left ≡ same_types [] left
types-all vars left k past = ap (λ vs. same_types vs left) (drop_all k vars past)

pub ruleset types = (types-step, types-short, types-all)
