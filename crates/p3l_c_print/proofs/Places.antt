-- The variables of a body, found by their names.
use Rattle.std.proofs.Common.{◌≡◌, ℕ, ◌+◌, ◌<◌, ◌≤◌, drop, get_or, length, Bool, true, false, cond, List, [], ◌∷◌, Some, None, refl, sym, ap, ◌∙◌}
use Rattle.std.specs.Prelude.{bytes_eq, map, Option}
use Rattle.std.specs.Map.{lookup}
use Rattle.std.proofs.lemmas.Slice.Eq.{bytes_eq-Decides}
use Rattle.std.proofs.lemmas.Bool.{false_from_ne_true}
use Rattle.std.proofs.lemmas.List.{drop_more, drop_all}
use Rattle.p3l_body.specs.declared.var.Var.{Var}
use Rattle.p3l_c.specs.Translate.{given_sizes, declared, sizes_at}
use Rattle.p3l_c_print.specs.declared.names.VariablePlace.{VariablePlace}
use Rattle.p3l_c_print.specs.declared.names.Kind.{Kind}
use Rattle.p3l_c_print.specs.Name.{shape_of, entered, all_entered}

-- equality of names does not depend on their order
pub eq_flip : (a b : List ℕ) → bytes_eq a b ≡ bytes_eq b a
eq_flip a b = by (bytes_eq b a) refl
  where
    by : (t : Bool) → bytes_eq b a ≡ t → bytes_eq a b ≡ t
    by true e = (bytes_eq-Decides a b).1 (sym ((bytes_eq-Decides b a).0 e))
    by false e = false_from_ne_true (bytes_eq a b) (λ h. let k = (bytes_eq-Decides b a).1 (sym ((bytes_eq-Decides a b).0 h)) in cc)

abbrev pub place_sizes : Option VariablePlace → List ℕ
place_sizes None = []
place_sizes (Some place) = place.sizes

-- the sizes of a name are those of its variable
pub sizes_found : (places : List (List ℕ × VariablePlace)) (name : List ℕ) → sizes_at (map shape_of places) name ≡ place_sizes (lookup (bytes_eq name) places)
sizes_found [] name = refl
sizes_found (p ∷ places) name =
    ap (λ t. given_sizes (cond t (Some p.1.sizes) (declared (map shape_of places) name))) (eq_flip p.0 name) ∙ by (sizes_found places name) (bytes_eq name p.0)
  where
    by : sizes_at (map shape_of places) name ≡ place_sizes (lookup (bytes_eq name) places) → (t : Bool) → given_sizes (cond t (Some p.1.sizes) (declared (map shape_of places) name)) ≡ place_sizes (cond t (Some p.1) (lookup (bytes_eq name) places))
    by go true = refl
    by go false = go

-- a variable is added, and then those after it
pub entered_step : (kind : Kind) (vars : List Var) (i : ℕ) (var : Var) (places : List (List ℕ × VariablePlace)) → i < length vars → var ≡ get_or vars i var
    → all_entered kind (i + 1) (drop (i + 1) vars) (entered kind i var places) ≡ all_entered kind i (drop i vars) places
unfolding all_entered
entered_step kind vars i var places inside is =
    let here : drop i vars ≡ var ∷ drop (i + 1) vars = drop_more vars i var inside ∙ ap (λ y. y ∷ drop (i + 1) vars) (sym is) in
    rw here refl

pub entered_end : (kind : Kind) (vars : List Var) (i : ℕ) (places : List (List ℕ × VariablePlace)) → length vars ≤ i → all_entered kind i (drop i vars) places ≡ places
unfolding all_entered
entered_end kind vars i places past = rw (drop_all i vars past) refl
