-- The identifiers of the variables of a body: their numbers tell them apart.
use Rattle.std.proofs.Common.{◌≡◌, ℕ, zero, suc, ◌+◌, ◌<◌, ◌≤◌, ◌^◌, ◌⊎◌, List, [], ◌∷◌, ◌++◌, length, drop, get_or, Bool, true, false, cond, is_some, IsSome, Option, Some, None, decimal, refl, sym, ap, subst, ◌∙◌, inl, inr, ⊎_elim, arith, true≢false, length-append}
use Rattle.std.specs.Prelude.{bytes_eq}
use Rattle.std.specs.Map.{lookup}
use Rattle.std.specs.Str.Parse.{AllDigits}
use Rattle.std.specs.Char.{digit_value}
use Rattle.std.proofs.lemmas.Fmt.{decimal_injective, decimal_is_IsNumeral, length-decimal-le}
use Rattle.std.proofs.lemmas.Slice.Eq.{bytes_eq-Decides}
use Rattle.p3l_body.specs.declared.var.Var.{Var}
use Rattle.p3l_c_print.specs.declared.names.Kind.{Kind}
use Rattle.p3l_c_print.specs.declared.names.Kind.TheVariants.{In, Out, Local}
use Rattle.p3l_c_print.specs.declared.names.VariablePlace.{VariablePlace}
use Rattle.p3l_body.specs.Seq.{SeqTree}
use Rattle.p3l_c_print.specs.Name.{Names, kind_text, kept_name, place_text, found_text, name_text, entered, all_entered, names_of}
use Rattle.p3l_c_print.specs.Laws.{vars_of, IsCountable, IsVariable, IsDistinct}
use Rattle.p3l_c_print.proofs.Kept.{kept_le}

-- texts whose first bytes differ
differ : (a b : ℕ) (s t : List ℕ) → a < b → ¬ (a ∷ s ≡ b ∷ t)
differ a b s t less e = let same : a ≡ b = ap (λ l. get_or l 0 0) e in omega arith

-- identifiers begin with their kind
kinds_same : (k l : Kind) (s t : List ℕ) → kind_text k ++ s ≡ kind_text l ++ t → (k ≡ l) × (s ≡ t)
kinds_same In In s t e = (refl, ap (drop 2) e)
kinds_same In Out s t e = absurd (differ 105 111 _ _ (omega arith) e)
kinds_same In Local s t e = absurd (differ 105 118 _ _ (omega arith) e)
kinds_same Out In s t e = absurd (differ 105 111 _ _ (omega arith) (sym e))
kinds_same Out Out s t e = (refl, ap (drop 3) e)
kinds_same Out Local s t e = absurd (differ 111 118 _ _ (omega arith) e)
kinds_same Local In s t e = absurd (differ 105 118 _ _ (omega arith) (sym e))
kinds_same Local Out s t e = absurd (differ 111 118 _ _ (omega arith) (sym e))
kinds_same Local Local s t e = (refl, ap (drop 1) e)

-- `_` is no digit, so digits end there
no_digit : (c : ℕ) → c ≡ 95 → ¬ (digit_value c < 10)
no_digit c is h = let low : digit_value 95 < 10 = subst (λ d. digit_value d < 10) is h in omega arith

digits_same : (ds es s t : List ℕ) → AllDigits 10 ds → AllDigits 10 es → ds ++ 95 ∷ s ≡ es ++ 95 ∷ t → ds ≡ es
digits_same [] [] s t p q e = refl
digits_same [] (c ∷ es) s t p q e = absurd (no_digit c (sym (ap (λ l. get_or l 0 0) e)) q.0)
digits_same (d ∷ ds) [] s t p q e = absurd (no_digit d (ap (λ l. get_or l 0 0) e) p.0)
digits_same (d ∷ ds) (c ∷ es) s t p q e =
    let first : d ≡ c = ap (λ l. get_or l 0 0) e in
    let later : ds ≡ es = digits_same ds es s t p.1 q.1 (ap (drop 1) e) in
    ap (λ x. x ∷ ds) first ∙ ap (λ xs. c ∷ xs) later

-- and then with their number
numbers_same : (m n : ℕ) (s t : List ℕ) → m < 2 ^ 64 → n < 2 ^ 64 → decimal m ++ 95 ∷ s ≡ decimal n ++ 95 ∷ t → m ≡ n
numbers_same m n s t p q e =
    decimal_injective m n p q (digits_same (decimal m) (decimal n) s t (decimal_is_IsNumeral m p).0.1 (decimal_is_IsNumeral n q).0.1 e)

-- the name of the variable with a number
abbrev name_at : List Var → ℕ → Option (List ℕ)
name_at [] n = None
name_at (v ∷ vs) zero = Some v.name
name_at (v ∷ vs) (suc n) = name_at vs n

name_within : (vs : List Var) (n : ℕ) (name : List ℕ) → name_at vs n ≡ Some name → n < length vs
name_within [] n name e = absurd (true≢false (sym (ap is_some e)))
name_within (v ∷ vs) zero name e = omega arith
name_within (v ∷ vs) (suc n) name e = let below = name_within vs n name e in omega arith

-- a look-up where one variable was added
found_more : (name last : List ℕ) (its place : VariablePlace) (places : List (List ℕ × VariablePlace)) → lookup (bytes_eq name) (places ++ (last, its) ∷ []) ≡ Some place
    → (lookup (bytes_eq name) places ≡ Some place) ⊎ ((name ≡ last) × (its ≡ place))
found_more name last its place [] e = by (bytes_eq name last) refl e
  where
    by : (t : Bool) → bytes_eq name last ≡ t → cond t (Some its) None ≡ Some place → (None ≡ Some place) ⊎ ((name ≡ last) × (its ≡ place))
    by true is e = inr ((bytes_eq-Decides name last).0 is, ap (λ (o : Option VariablePlace). elim o as (λ _. VariablePlace) [ Some p ↦ p | None ↦ its ]) e)
    by false is e = inl e
found_more name last its place (p ∷ places) e = by (bytes_eq name p.0) (found_more name last its place places) e
  where
    by : (t : Bool) → (lookup (bytes_eq name) (places ++ (last, its) ∷ []) ≡ Some place → (lookup (bytes_eq name) places ≡ Some place) ⊎ ((name ≡ last) × (its ≡ place)))
        → cond t (Some p.1) (lookup (bytes_eq name) (places ++ (last, its) ∷ [])) ≡ Some place
        → (cond t (Some p.1) (lookup (bytes_eq name) places) ≡ Some place) ⊎ ((name ≡ last) × (its ≡ place))
    by true go e = inl e
    by false go e = go e

-- the number of each variable is its place among those of its kind
abbrev AreNumbered : (Kind → List Var) → List (List ℕ × VariablePlace) → Type 0
AreNumbered vars places = (name : List ℕ) (place : VariablePlace) → lookup (bytes_eq name) places ≡ Some place → name_at (vars place.kind) place.number ≡ Some name

one_numbered : (vars : Kind → List Var) (kind : Kind) (n : ℕ) (var : Var) (places : List (List ℕ × VariablePlace))
    → name_at (vars kind) n ≡ Some var.name → AreNumbered vars places → AreNumbered vars (entered kind n var places)
one_numbered vars kind n var places here go = by (is_some (lookup (bytes_eq var.name) places))
  where
    its : VariablePlace
    its = record { kind = kind; number = n; sizes = var.shape.sizes }

    by : (t : Bool) → AreNumbered vars (cond t places (places ++ (var.name, its) ∷ []))
    by true = go
    by false = λ name place e. ⊎_elim (go name place)
        (λ new. subst (λ (p : VariablePlace). name_at (vars p.kind) p.number ≡ Some name) new.1 (here ∙ ap Some (sym new.0)))
        (found_more name var.name its place places e)

-- the variables from a number on
abbrev Follow : List Var → ℕ → List Var → Type 0
Follow rest n whole = (k : ℕ) (name : List ℕ) → name_at rest k ≡ Some name → name_at whole (n + k) ≡ Some name

all_numbered : (vars : Kind → List Var) (kind : Kind) (n : ℕ) (rest : List Var) (places : List (List ℕ × VariablePlace))
    → Follow rest n (vars kind) → AreNumbered vars places → AreNumbered vars (all_entered kind n rest places)
unfolding all_entered
all_numbered vars kind n [] places follow go = go
all_numbered vars kind n (var ∷ rest) places follow go =
    let here : name_at (vars kind) n ≡ Some var.name = ap (name_at (vars kind)) (omega arith) ∙ follow 0 var.name refl in
    all_numbered vars kind (n + 1) rest (entered kind n var places)
    (λ k name e. ap (name_at (vars kind)) (omega arith) ∙ follow (suc k) name e)
    (one_numbered vars kind n var places here go)

from_first : (vs : List Var) → Follow vs 0 vs
from_first vs k name e = ap (name_at vs) (omega arith) ∙ e

variables_numbered : (seq : SeqTree) → AreNumbered (vars_of seq) (names_of seq).places
variables_numbered seq =
    all_numbered (vars_of seq) Local 0 seq.locals _ (from_first seq.locals)
    (all_numbered (vars_of seq) Out 0 seq.outs _ (from_first seq.outs)
    (all_numbered (vars_of seq) In 0 seq.ins [] (from_first seq.ins) (λ name place e. absurd (true≢false (sym (ap is_some e))))))

-- identifiers are short
kind_short : (kind : Kind) → length (kind_text kind) ≤ 3
kind_short In = omega arith
kind_short Out = omega arith
kind_short Local = omega arith

place_short : (name : List ℕ) (place : VariablePlace) → place.number < 2 ^ 64 → length (place_text name place) ≤ 63
place_short name place small =
    let digits = length-decimal-le 20 place.number (omega arith) (omega arith) small in
    let kept = kept_le name in
    let kind = kind_short place.kind in
    let front = length-append (kind_text place.kind) (decimal place.number ++ (95 ∷ kept_name name)) in
    let back = length-append (decimal place.number) (95 ∷ kept_name name) in
    omega arith

-- a variable is written as its identifier
object_is : (names : Names) (name : List ℕ) (place : VariablePlace) → lookup (bytes_eq name) names.places ≡ Some place → name_text names name ≡ place_text name place
unfolding name_text
object_is names name place is = ap (found_text names name) is

found_is : (o : Option VariablePlace) → IsSome o → (place : VariablePlace) × (o ≡ Some place)
found_is (Some place) h = (place, refl)
found_is None h = absurd (true≢false (sym h))

given_name : Option (List ℕ) → List ℕ
given_name (Some name) = name
given_name None = []

-- two variables with one number of one kind are one
one_variable : (seq : SeqTree) (name other : List ℕ) (place its : VariablePlace)
    → name_at (vars_of seq place.kind) place.number ≡ Some name → name_at (vars_of seq its.kind) its.number ≡ Some other
    → place.kind ≡ its.kind → place.number ≡ its.number → name ≡ other
unfolding given_name
one_variable seq name other place its here there kinds numbers =
    ap given_name (sym here ∙ ap (λ k. name_at (vars_of seq k) place.number) kinds ∙ ap (name_at (vars_of seq its.kind)) numbers ∙ there)

-- a number of a variable is one of 64 bits
number_small : (seq : SeqTree) (name : List ℕ) (place : VariablePlace) → IsCountable seq → lookup (bytes_eq name) (names_of seq).places ≡ Some place → place.number < 2 ^ 64
number_small seq name place few at =
    let below = name_within (vars_of seq place.kind) place.number name (variables_numbered seq name place at) in
    let bound = few place.kind in
    omega arith

pub distinct : (seq : SeqTree) (name : List ℕ) → IsCountable seq → IsVariable seq name → IsDistinct seq name
distinct seq name few known =
    let here = found_is (lookup (bytes_eq name) (names_of seq).places) known in
    let small = number_small seq name here.0 few here.1 in
    let text = object_is (names_of seq) name here.0 here.1 in
    record {
      significant = subst (λ t. length t ≤ 63) (sym text) (place_short name here.0 small);
      own = λ other also same.
          let there = found_is (lookup (bytes_eq other) (names_of seq).places) also in
          let kinds = kinds_same here.0.kind there.0.kind _ _ (sym text ∙ same ∙ object_is (names_of seq) other there.0 there.1) in
          one_variable seq name other here.0 there.0 (variables_numbered seq name here.0 here.1) (variables_numbered seq other there.0 there.1) kinds.0
          (numbers_same here.0.number there.0.number _ _ small (number_small seq other there.0 few there.1) kinds.1);
    }
