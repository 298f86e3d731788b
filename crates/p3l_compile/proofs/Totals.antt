-- Variables that are left.
use Rattle.std.proofs.Common.{◌≡◌, ℕ, suc, ◌+◌, ◌<◌, List, [], ◌∷◌, ◌++◌, length, get_or, drop, sym, ap, ◌∙◌, subst, drop-cons, add-one, append_assoc}
use Rattle.std.specs.List.{AllByRecursion}
use Rattle.p3l_body.specs.declared.var.Var.{Var}
use Rattle.p3l_body.specs.Eval.{width}
use Rattle.p3l_compile.specs.declared.scope.Slot.{Slot}
use Rattle.p3l_compile.specs.Scope.{slot_at, slots_from}
use Rattle.p3l_compile.specs.Condition.{total, AreFresh, IsArray}

module _ (vars : List Var) (i : ℕ) (v : Var) (inside : i < length vars) (is : v ≡ get_or vars i v) where
  pub next_left : drop i vars ≡ v ∷ drop (i + 1) vars
  next_left = rw add-one (drop-cons vars i v inside ∙ ap (λ x. x ∷ drop (suc i) vars) (sym is))

  pub total_left : total (drop i vars) ≡ width v + total (drop (i + 1) vars)
  unfolding next_left
  total_left = ap total next_left

  pub array_left : AllByRecursion IsArray (drop i vars) → IsArray v
  array_left h = (subst (AllByRecursion IsArray) next_left h).0

  pub arrays_left : AllByRecursion IsArray (drop i vars) → AllByRecursion IsArray (drop (i + 1) vars)
  arrays_left h = (subst (AllByRecursion IsArray) next_left h).1

  pub fresh_left : (slots : List (List ℕ × Slot)) (base : ℕ) → AreFresh slots base (drop i vars) → AreFresh slots base (v ∷ drop (i + 1) vars)
  fresh_left slots base h = subst (AreFresh slots base) next_left h

  pub slots_left : (slots : List (List ℕ × Slot)) (base : ℕ) → (slots ++ (v.name, slot_at base v) ∷ []) ++ slots_from (base + width v) (drop (i + 1) vars) ≡ slots ++ slots_from base (drop i vars)
  slots_left slots base =
      append_assoc slots ((v.name, slot_at base v) ∷ []) (slots_from (base + width v) (drop (i + 1) vars))
      ∙ ap (λ l. slots ++ slots_from base l) (sym next_left)
