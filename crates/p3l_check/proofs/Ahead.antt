-- Names that are defined at a place or after it.
use Rattle.std.proofs.Common.{◌≡◌, ℕ, ◌≤◌, Bool, true, false, ◌||◌, cond, List, [], ◌∷◌, ◌++◌, length, drop, Option, Some, refl, ap, sym, ◌∙◌, arith, length-append, ⊎_elim}
use Rattle.std.specs.Prelude.{bytes_eq, nat_le}
use Rattle.std.specs.List.{list_any}
use Rattle.std.specs.Map.{lookup}
use Rattle.std.specs.Option.{option_map_or}
use Rattle.std.proofs.lemmas.List.{drop-append-le, drop_all}
use Rattle.std.proofs.lemmas.List.Folds.{list_any-append}
use Rattle.std.proofs.lemmas.Bool.Decides.{leb_tells}
use Rattle.p3l_ast.specs.Tree.{EntryTree}
use Rattle.p3l_check.specs.Places.{entry_spot, defines, ArePlaces}

within_case : (x b t : Bool) → t ≡ true → (x || (b || false)) ≡ cond b t x
within_case true true t e = sym e
within_case false true t e = sym e
within_case true false t e = refl
within_case false false t e = refl

past_case : (b t : Bool) → t ≡ false → false ≡ cond b t false
past_case true t e = sym e
past_case false t e = refl

-- with one entry more, its name is defined up to its place, and all others where they were
after-more : (es : List EntryTree) (e : EntryTree) (from : ℕ) (name : List ℕ) →
    defines (drop from (es ++ e ∷ [])) name ≡ cond (bytes_eq (entry_spot e).name name) (nat_le from (length es)) (defines (drop from es) name)
after-more es e from name =
    let test : EntryTree → Bool = λ entry. bytes_eq (entry_spot entry).name name in
    ⊎_elim
    (λ h. ap (list_any test) (drop-append-le from es (e ∷ []) h.1) ∙ (list_any-append test (drop from es) (e ∷ []) ∙ within_case (list_any test (drop from es)) (test e) (nat_le from (length es)) h.0))
    (λ h. let far : length (es ++ e ∷ []) ≤ from = rw length-append (omega (arith, h.1)) in let gone : length es ≤ from = omega (arith, h.1) in
    ap (list_any test) (drop_all from (es ++ e ∷ []) far) ∙ (past_case (test e) (nat_le from (length es)) h.0
    ∙ ap (λ r. cond (test e) (nat_le from (length es)) (list_any test r)) (sym (drop_all from es gone))))
    (leb_tells from (length es))

table_case : (b : Bool) (n : ℕ) (r : Option ℕ) (from : ℕ) →
    option_map_or (λ last. nat_le from last) (cond b (Some n) r) false ≡ cond b (nat_le from n) (option_map_or (λ last. nat_le from last) r false)
table_case true n r from = refl
table_case false n r from = refl

-- a table with the name of the next entry at its place
pub places-more : (es : List EntryTree) (e : EntryTree) (n : ℕ) (old new : List (List ℕ × ℕ)) → n ≡ length es → ArePlaces es old →
    ((q : List ℕ) → lookup (bytes_eq q) new ≡ cond (bytes_eq (entry_spot e).name q) (Some n) (lookup (bytes_eq q) old)) → ArePlaces (es ++ e ∷ []) new
places-more es e n old new n_is are step = λ from name.
    ap (λ r. option_map_or (λ last. nat_le from last) r false) (step name)
    ∙ (table_case (bytes_eq (entry_spot e).name name) n (lookup (bytes_eq name) old) from
    ∙ (ap (λ x. cond (bytes_eq (entry_spot e).name name) (nat_le from n) x) (are from name)
    ∙ (ap (λ m. cond (bytes_eq (entry_spot e).name name) (nat_le from m) (defines (drop from es) name)) n_is
    ∙ sym (after-more es e from name))))

-- a table of no entries
nothing_left : (from : ℕ) (name : List ℕ) → false ≡ defines (drop from []) name
nothing_left from name = ap (λ es. defines es name) (sym (drop_all from [] (omega arith)))

pub no_places : ArePlaces [] []
no_places = nothing_left
