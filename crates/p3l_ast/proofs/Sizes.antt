-- The sizes of names.
use Rattle.std.proofs.Common.{◌≡◌, ℕ, ℤ, ◌≤◌, Bool, true, false, cond, List, [], ◌∷◌, Option, Some, None, get_or, length, map, slice_set, refl, arith, ap, sym, subst, inl, inr}
use Rattle.std.specs.List.{All, find}
use Rattle.std.specs.Option.{option_map_or}
use Rattle.std.specs.Str.{bytes_eq}
use Rattle.std.proofs.lemmas.Bool.{cases_lt}
use Rattle.std.proofs.lemmas.List.{get_or_past}
use Rattle.std.proofs.lemmas.List.Elements.{All-nil, All-head, All-tail, All-get_or, All-from_get_or}
use Rattle.std.proofs.lemmas.Slice.Eq.{bytes_eq-Decides}
use Rattle.p3l_ast.specs.declared.meaning.valuation.Binding.{Binding}
use Rattle.p3l_ast.specs.declared.meaning.valuation.Valuation.{Valuation}
use Rattle.p3l_ast.specs.Meaning.Valuation.{binding_of, sizes_of, rebound, with_word, HasSizes}

-- at most three sizes, each at most 65,536
abbrev pub AreSizes : List ℕ → Type 0
AreSizes sizes = (length sizes ≤ 3) × All (λ (size : ℕ). size ≤ 65536) sizes

-- a binding that is found passes the test, and has the property P
abbrev Found : (Binding → Type 0) → (Binding → Bool) → Option Binding → Type 0
Found P test None = Unit {0}
Found P test (Some b) = (test b ≡ true) × P b

found : (P : Binding → Type 0) (test : Binding → Bool) (bs : List Binding) → All P bs → Found P test (find test bs)
found P test [] all = tt
found P test (x ∷ xs) all = by (found P test xs (All-tail P x xs all)) (test x) refl
  where
    by : Found P test (find test xs) → (t : Bool) → test x ≡ t → Found P test (cond t (Some x) (find test xs))
    by later true e = (e, All-head P x xs all)
    by later false e = later

-- a small size at each index, also past the last
small_at : (sizes : List ℕ) (k : ℕ) → All (λ (size : ℕ). size ≤ 65536) sizes → get_or sizes k 0 ≤ 65536
small_at sizes k all =
    elim (cases_lt k (length sizes)) as (λ _. get_or sizes k 0 ≤ 65536) [
      | inl h ↦ All-get_or (λ (size : ℕ). size ≤ 65536) sizes k 0 h all
      | inr h ↦ let past : get_or sizes k 0 ≡ 0 = get_or_past sizes k 0 h in omega arith
    ]

-- every binding has such sizes where every name has
pub sizes_at : (s : Valuation) (name : List ℕ) → HasSizes s → AreSizes (sizes_of s name)
sizes_at s name h = (h.few name, All-from_get_or (λ (size : ℕ). size ≤ 65536) (sizes_of s name) 0 (λ k inside. h.small name k))

none_are_sizes : AreSizes []
none_are_sizes = (let few : length {A = ℕ} [] ≤ 3 = omega arith in few, All-nil (λ (size : ℕ). size ≤ 65536))

-- every name has such sizes where the bindings have
pub sizes_everywhere : (s : Valuation) → All (λ (b : Binding). AreSizes (sizes_of s b.name)) s.bindings → HasSizes s
sizes_everywhere s all = record { few = λ name. (at name).0; small = λ name k. small_at (sizes_of s name) k (at name).1 }
  where
    by : (name : List ℕ) (o : Option Binding) → Found (λ (b : Binding). AreSizes (sizes_of s b.name)) (λ (b : Binding). bytes_eq b.name name) o → o ≡ binding_of s name → AreSizes (sizes_of s name)
    by name None h is = subst AreSizes (ap (λ (o : Option Binding). option_map_or (λ (b : Binding). b.sizes) o []) is) none_are_sizes
    by name (Some b) h is = subst (λ (n : List ℕ). AreSizes (sizes_of s n)) ((bytes_eq-Decides b.name name).0 h.0) h.1

    at : (name : List ℕ) → AreSizes (sizes_of s name)
    at name = by name (binding_of s name) (found (λ (b : Binding). AreSizes (sizes_of s b.name)) (λ (b : Binding). bytes_eq b.name name) s.bindings all) refl

-- a word changes no sizes
sizes_kept : (bs : List Binding) (name : List ℕ) (place : ℕ) (word : ℤ) (other : List ℕ) → option_map_or (λ (b : Binding). b.sizes) (find (λ (b : Binding). bytes_eq b.name other) (map (rebound name place word) bs)) [] ≡ option_map_or (λ (b : Binding). b.sizes) (find (λ (b : Binding). bytes_eq b.name other) bs) []
sizes_kept [] name place word other = refl
sizes_kept (x ∷ xs) name place word other = by (sizes_kept xs name place word other) (bytes_eq x.name name)
  where
    go : option_map_or (λ (b : Binding). b.sizes) (find (λ (b : Binding). bytes_eq b.name other) (map (rebound name place word) xs)) [] ≡ option_map_or (λ (b : Binding). b.sizes) (find (λ (b : Binding). bytes_eq b.name other) xs) [] → (t u : Bool) → option_map_or (λ (b : Binding). b.sizes) (cond u (Some (cond t (record x { words = slice_set x.words place word }) x)) (find (λ (b : Binding). bytes_eq b.name other) (map (rebound name place word) xs))) [] ≡ option_map_or (λ (b : Binding). b.sizes) (cond u (Some x) (find (λ (b : Binding). bytes_eq b.name other) xs)) []
    go later true true = refl
    go later false true = refl
    go later true false = later
    go later false false = later

    by : option_map_or (λ (b : Binding). b.sizes) (find (λ (b : Binding). bytes_eq b.name other) (map (rebound name place word) xs)) [] ≡ option_map_or (λ (b : Binding). b.sizes) (find (λ (b : Binding). bytes_eq b.name other) xs) [] → (t : Bool) → option_map_or (λ (b : Binding). b.sizes) (find (λ (b : Binding). bytes_eq b.name other) (cond t (record x { words = slice_set x.words place word }) x ∷ map (rebound name place word) xs)) [] ≡ option_map_or (λ (b : Binding). b.sizes) (find (λ (b : Binding). bytes_eq b.name other) (x ∷ xs)) []
    by later true = go later true (bytes_eq x.name other)
    by later false = go later false (bytes_eq x.name other)

pub with_word-sizes : (s : Valuation) (name : List ℕ) (place : ℕ) (word : ℤ) → HasSizes s → HasSizes (with_word s name place word)
with_word-sizes s name place word h = record {
  few = λ other. let same = sizes_kept s.bindings name place word other in subst (λ (sizes : List ℕ). length sizes ≤ 3) (sym same) (h.few other);
  small = λ other k. let same = sizes_kept s.bindings name place word other in subst (λ (sizes : List ℕ). get_or sizes k 0 ≤ 65536) (sym same) (h.small other k);
}
