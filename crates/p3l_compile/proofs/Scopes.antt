-- The sizes and words of names in the valuation that a memory stands for.
use Rattle.std.proofs.Common.{◌≡◌, ◌≢◌, ℕ, ℤ, zero, suc, pos, ◌+◌, ◌-◌, ◌≤◌, ◌<◌, Bool, true, false, cond, List, [], ◌∷◌, ◌++◌, length, take, drop, map, Some, None, refl, sym, ap, ◌∙◌, subst, arith}
use Rattle.std.specs.Prelude.{find, bytes_eq, slice_get, slice_set, slice_index_or}
use Rattle.std.specs.List.{AllByRecursion}
use Rattle.std.specs.Option.{option_map_or}
use Rattle.std.proofs.lemmas.Option.{slice_get-get_or}
use Rattle.std.proofs.lemmas.List.{take-set-le, drop-set-lt, drop-set-add, get_or-take, get_or-drop}
use Rattle.std.proofs.lemmas.Slice.Eq.{bytes_eq-Decides}
use Rattle.std.proofs.lemmas.Bool.{false_from_ne_true}
use Rattle.p3l_ast.specs.declared.meaning.valuation.Binding.{Binding}
use Rattle.p3l_ast.specs.declared.meaning.valuation.Valuation.{Valuation}
use Rattle.p3l_ast.specs.Meaning.Valuation.{binding_of, sizes_of, word_of, rebound, with_word}
use Rattle.std.specs.Map.{lookup}
use Rattle.p3l_types.specs.Constants.{Constants}
use Rattle.p3l_types.specs.Shape.{product}
use Rattle.p3l_body.specs.Eval.{constant}
use Rattle.p3l_compile.specs.declared.scope.Slot.{Slot}
use Rattle.p3l_compile.specs.Scope.{Names, found, constant_of, bound_at, valuation_of, LieFrom, IsLaid}

-- equality of names does not hang on their order
pub eq_flip : (a b : List ℕ) → bytes_eq a b ≡ bytes_eq b a
eq_flip a b = by (bytes_eq b a) refl
  where
    by : (t : Bool) → bytes_eq b a ≡ t → bytes_eq a b ≡ t
    by true e = (bytes_eq-Decides a b).1 (sym ((bytes_eq-Decides b a).0 e))
    by false e = false_from_ne_true (bytes_eq a b) (λ h. let k = (bytes_eq-Decides b a).1 (sym ((bytes_eq-Decides a b).0 h)) in cc)

abbrev Place : Type 0
Place = List ℕ × Slot

abbrev is_bound : List ℕ → Binding → Bool
is_bound name binding = bytes_eq binding.name name

-- a variable is found among the bindings
find_bound : (memory : List ℤ) (name : List ℕ) (slots : List Place) (rest : List Binding) (slot : Slot) → lookup (bytes_eq name) slots ≡ Some slot → find (is_bound name) (map (bound_at memory) slots ++ rest) ≡ Some (bound_at memory (name, slot))
find_bound memory name [] rest slot h = absurd cc
find_bound memory name (p ∷ slots) rest slot h =
    ap (λ t. cond t (Some (bound_at memory p)) (find (is_bound name) (map (bound_at memory) slots ++ rest))) (eq_flip p.0 name)
    ∙ by (find_bound memory name slots rest slot) (bytes_eq name p.0) refl h
  where
    by : (lookup (bytes_eq name) slots ≡ Some slot → find (is_bound name) (map (bound_at memory) slots ++ rest) ≡ Some (bound_at memory (name, slot))) → (b : Bool) → bytes_eq name p.0 ≡ b → cond b (Some p.1) (lookup (bytes_eq name) slots) ≡ Some slot → cond b (Some (bound_at memory p)) (find (is_bound name) (map (bound_at memory) slots ++ rest)) ≡ Some (bound_at memory (name, slot))
    by go true t e =
        let q : p.1 ≡ slot = cc in
        let n : name ≡ p.0 = (bytes_eq-Decides name p.0).0 t in
        ap (λ x. Some (bound_at memory (x, p.1))) (sym n) ∙ ap (λ x. Some (bound_at memory (name, x))) q
    by go false t e = go e

-- another name is looked for after them
find_after : (memory : List ℤ) (name : List ℕ) (slots : List Place) (rest : List Binding) → lookup (bytes_eq name) slots ≡ None → find (is_bound name) (map (bound_at memory) slots ++ rest) ≡ find (is_bound name) rest
find_after memory name [] rest h = refl
find_after memory name (p ∷ slots) rest h =
    ap (λ t. cond t (Some (bound_at memory p)) (find (is_bound name) (map (bound_at memory) slots ++ rest))) (eq_flip p.0 name)
    ∙ by (find_after memory name slots rest) (bytes_eq name p.0) h
  where
    by : (lookup (bytes_eq name) slots ≡ None → find (is_bound name) (map (bound_at memory) slots ++ rest) ≡ find (is_bound name) rest) → (b : Bool) → cond b (Some p.1) (lookup (bytes_eq name) slots) ≡ None → cond b (Some (bound_at memory p)) (find (is_bound name) (map (bound_at memory) slots ++ rest)) ≡ find (is_bound name) rest
    by go true e = absurd cc
    by go false e = go e

sizes_in_constants : (name : List ℕ) (constants : Constants) → option_map_or (λ (b : Binding). b.sizes) (find (is_bound name) (map constant constants)) [] ≡ []
sizes_in_constants name [] = refl
sizes_in_constants name (c ∷ constants) = by (sizes_in_constants name constants) (bytes_eq c.0 name)
  where
    by : option_map_or (λ (b : Binding). b.sizes) (find (is_bound name) (map constant constants)) [] ≡ [] → (b : Bool) → option_map_or (λ (b : Binding). b.sizes) (cond b (Some (constant c)) (find (is_bound name) (map constant constants))) [] ≡ []
    by go true = refl
    by go false = go

word_in_constants : (name : List ℕ) (constants : Constants) → option_map_or (λ (b : Binding). slice_index_or b.words 0 (pos 0)) (find (is_bound name) (map constant constants)) (pos 0) ≡ option_map_or (λ value. value) (lookup (bytes_eq name) constants) (pos 0)
word_in_constants name [] = refl
word_in_constants name (c ∷ constants) =
    ap (λ t. option_map_or (λ (b : Binding). slice_index_or b.words 0 (pos 0)) (cond t (Some (constant c)) (find (is_bound name) (map constant constants))) (pos 0)) (eq_flip c.0 name)
    ∙ by (word_in_constants name constants) (bytes_eq name c.0)
  where
    by : option_map_or (λ (b : Binding). slice_index_or b.words 0 (pos 0)) (find (is_bound name) (map constant constants)) (pos 0) ≡ option_map_or (λ value. value) (lookup (bytes_eq name) constants) (pos 0) → (b : Bool) → option_map_or (λ (b : Binding). slice_index_or b.words 0 (pos 0)) (cond b (Some (constant c)) (find (is_bound name) (map constant constants))) (pos 0) ≡ option_map_or (λ value. value) (cond b (Some c.1) (lookup (bytes_eq name) constants)) (pos 0)
    by go true = refl
    by go false = go

-- the sizes of a variable, and of what is none
pub sizes_found : (names : Names) (memory : List ℤ) (turns : ℕ) (name : List ℕ) (slot : Slot) → found names name ≡ Some slot → sizes_of (valuation_of names memory turns) name ≡ slot.sizes
sizes_found names memory turns name slot h =
    ap (λ o. option_map_or (λ (b : Binding). b.sizes) o []) (find_bound memory name names.slots (map constant names.constants) slot h)

pub sizes_none : (names : Names) (memory : List ℤ) (turns : ℕ) (name : List ℕ) → found names name ≡ None → sizes_of (valuation_of names memory turns) name ≡ []
sizes_none names memory turns name h =
    ap (λ o. option_map_or (λ (b : Binding). b.sizes) o []) (find_after memory name names.slots (map constant names.constants) h)
    ∙ sizes_in_constants name names.constants

pub word_none : (names : Names) (memory : List ℤ) (turns : ℕ) (name : List ℕ) → found names name ≡ None → word_of (valuation_of names memory turns) name 0 ≡ constant_of names name
word_none names memory turns name h =
    ap (λ o. option_map_or (λ (b : Binding). slice_index_or b.words 0 (pos 0)) o (pos 0)) (find_after memory name names.slots (map constant names.constants) h)
    ∙ word_in_constants name names.constants

-- the words of a variable
pub words_found : (names : Names) (memory : List ℤ) (turns : ℕ) (name : List ℕ) (slot : Slot) → found names name ≡ Some slot → option_map_or (λ (b : Binding). b.words) (binding_of (valuation_of names memory turns) name) [] ≡ take slot.words (drop slot.base memory)
words_found names memory turns name slot h =
    ap (λ o. option_map_or (λ (b : Binding). b.words) o []) (find_bound memory name names.slots (map constant names.constants) slot h)

-- a variable that is found lies within the memory
pub record Lies (from size : ℕ) (slot : Slot) : Type 0 where
  pub above : from ≤ slot.base
  pub below : slot.base + slot.words ≤ size
  pub words : slot.words ≡ product slot.sizes
  pub sizes : AllByRecursion (λ n. 1 ≤ n) slot.sizes
  pub few : slot.words ≤ 65536

lies_on : (from size : ℕ) (slots : List Place) (constants : Constants) → LieFrom from slots constants size → from ≤ size
lies_on from size [] constants h = omega arith
lies_on from size (s ∷ slots) constants h = let k = lies_on (from + s.1.words) size slots constants h.5 in omega arith

lies : (from size : ℕ) (name : List ℕ) (slots : List Place) (constants : Constants) (slot : Slot) → LieFrom from slots constants size → lookup (bytes_eq name) slots ≡ Some slot → Lies from size slot
lies from size name [] constants slot h f = absurd cc
lies from size name (s ∷ slots) constants slot h f = by (lies (from + s.1.words) size name slots constants slot h.5) (bytes_eq name s.0) f
  where
    by : (lookup (bytes_eq name) slots ≡ Some slot → Lies (from + s.1.words) size slot) → (b : Bool) → cond b (Some s.1) (lookup (bytes_eq name) slots) ≡ Some slot → Lies from size slot
    by go true e =
        let q : s.1 ≡ slot = cc in
        let k = lies_on (from + s.1.words) size slots constants h.5 in
        subst (Lies from size) q (record { above = omega (arith, h.0); below = omega (arith, h.0); words = h.1; sizes = h.2; few = h.3 })
    by go false e =
        let l = go e in
        record { above = omega (arith, l.above); below = l.below; words = l.words; sizes = l.sizes; few = l.few }

pub lies_within : (names : Names) (size : ℕ) (name : List ℕ) (slot : Slot) → IsLaid names size → found names name ≡ Some slot → Lies 0 size slot
lies_within names size name slot h f = lies 0 size name names.slots names.constants slot h f

-- the word of a variable at a place
pub word_found : (names : Names) (memory : List ℤ) (turns : ℕ) (name : List ℕ) (slot : Slot) (place : ℕ) → found names name ≡ Some slot → slot.base + place < length memory → place < slot.words → slice_get memory (slot.base + place) ≡ Some (word_of (valuation_of names memory turns) name place)
word_found names memory turns name slot place h l w =
    let e = ap (λ o. option_map_or (λ (b : Binding). slice_index_or b.words place (pos 0)) o (pos 0)) (find_bound memory name names.slots (map constant names.constants) slot h) in
    let r : slice_index_or (take slot.words (drop slot.base memory)) place (pos 0) ≡ slice_index_or memory (slot.base + place) (pos 0) = rw (get_or-take, get_or-drop) refl in
    slice_get-get_or memory (slot.base + place) (pos 0) l ∙ ap Some (sym r ∙ sym e)

set_take : (n : ℕ) (l : List ℤ) (i : ℕ) (x : ℤ) → slice_set (take n l) i x ≡ take n (slice_set l i x)
set_take zero l i x = refl
set_take (suc n) [] i x = refl
set_take (suc n) (y ∷ l) zero x = refl
set_take (suc n) (y ∷ l) (suc i) x = ap (λ r. y ∷ r) (set_take n l i x)

-- a word before an array, and one after it, are none of its words
before_words : (base words k : ℕ) (memory : List ℤ) (x : ℤ) → k < base → take words (drop base (slice_set memory k x)) ≡ take words (drop base memory)
before_words base words k memory x h = ap (take words) (drop-set-lt base memory k x h)

after_words : (base words k : ℕ) (memory : List ℤ) (x : ℤ) → base + words ≤ k → take words (drop base (slice_set memory k x)) ≡ take words (drop base memory)
after_words base words k memory x h =
    let e : k ≡ base + (k - base) = omega arith in
    ap (λ j. take words (drop base (slice_set memory j x))) e
    ∙ ap (take words) (drop-set-add base memory (k - base) x)
    ∙ take-set-le words (drop base memory) (k - base) x (omega arith)

own_words : (base words place : ℕ) (memory : List ℤ) (x : ℤ) → slice_set (take words (drop base memory)) place x ≡ take words (drop base (slice_set memory (base + place) x))
own_words base words place memory x =
    set_take words (drop base memory) place x ∙ ap (take words) (sym (drop-set-add base memory place x))

pub no_match : (a b : List ℕ) → a ≢ b → bytes_eq a b ≡ false
no_match a b h = false_from_ne_true (bytes_eq a b) (λ e. h ((bytes_eq-Decides a b).0 e))

unbound : (name : List ℕ) (place : ℕ) (word : ℤ) (b : Binding) → bytes_eq b.name name ≡ false → rebound name place word b ≡ b
unbound name place word b h = ap (λ t. cond t (record b { words = slice_set b.words place word }) b) h

rebound_constant : (name : List ℕ) (place : ℕ) (word : ℤ) (constants : Constants) → AllByRecursion (λ (c : List ℕ × ℤ). c.0 ≢ name) constants → map (rebound name place word) (map constant constants) ≡ map constant constants
rebound_constant name place word [] h = refl
rebound_constant name place word (c ∷ constants) h =
    ap (λ b. b ∷ map (rebound name place word) (map constant constants)) (unbound name place word (constant c) (no_match c.0 name h.0))
    ∙ ap (λ l. constant c ∷ l) (rebound_constant name place word constants h.1)

words_in : Place → List ℤ → Binding
words_in p words = record { name = p.0; sizes = p.1.sizes; words = words }

-- the variables after the one that is written
rebound_after : (name : List ℕ) (place k from size : ℕ) (word : ℤ) (memory : List ℤ) (slots : List Place) (constants : Constants) → LieFrom from slots constants size → k < from → AllByRecursion (λ (s : Place). s.0 ≢ name) slots → AllByRecursion (λ (c : List ℕ × ℤ). c.0 ≢ name) constants → map (rebound name place word) (map (bound_at memory) slots ++ map constant constants) ≡ map (bound_at (slice_set memory k word)) slots ++ map constant constants
unfolding words_in
rebound_after name place k from size word memory [] constants l h a b = rebound_constant name place word constants b
rebound_after name place k from size word memory (s ∷ slots) constants l h a b =
    let before : k < s.1.base = omega (arith, l.0) in
    ap (λ x. x ∷ map (rebound name place word) (map (bound_at memory) slots ++ map constant constants))
    (unbound name place word (bound_at memory s) (no_match s.0 name a.0) ∙ ap (words_in s) (sym (before_words s.1.base s.1.words k memory word before)))
    ∙ ap (λ x. bound_at (slice_set memory k word) s ∷ x) (rebound_after name place k (from + s.1.words) size word memory slots constants l.5 (omega arith) a.1 b)

rebound_slot : (name : List ℕ) (place from size : ℕ) (word : ℤ) (memory : List ℤ) (slots : List Place) (constants : Constants) (slot : Slot) → LieFrom from slots constants size → lookup (bytes_eq name) slots ≡ Some slot → place < slot.words → map (rebound name place word) (map (bound_at memory) slots ++ map constant constants) ≡ map (bound_at (slice_set memory (slot.base + place) word)) slots ++ map constant constants
unfolding words_in
rebound_slot name place from size word memory [] constants slot l f h = absurd cc
rebound_slot name place from size word memory (s ∷ slots) constants slot l f h =
    by (λ e. rebound_slot name place (from + s.1.words) size word memory slots constants slot l.5 e h) (bytes_eq s.0 name) refl
    (ap (λ t. cond t (Some s.1) (lookup (bytes_eq name) slots)) (eq_flip s.0 name) ∙ f)
  where
    rest : List Binding
    rest = map (bound_at memory) slots ++ map constant constants

    by : (lookup (bytes_eq name) slots ≡ Some slot → map (rebound name place word) rest ≡ map (bound_at (slice_set memory (slot.base + place) word)) slots ++ map constant constants) → (b : Bool) → bytes_eq s.0 name ≡ b → cond b (Some s.1) (lookup (bytes_eq name) slots) ≡ Some slot → map (rebound name place word) (map (bound_at memory) (s ∷ slots) ++ map constant constants) ≡ map (bound_at (slice_set memory (slot.base + place) word)) (s ∷ slots) ++ map constant constants
    by go true t e =
        let q : s.1 ≡ slot = cc in
        let same : s.0 ≡ name = (bytes_eq-Decides s.0 name).0 t in
        let k = slot.base + place in
        let ends : slot.base + place < from + s.1.words = omega (arith, l.0, ap (λ (x : Slot). x.base) q, ap (λ (x : Slot). x.words) q) in
        let here : s.1.base + place ≡ slot.base + place = omega (arith, ap (λ (x : Slot). x.base) q) in
        ap (λ t. cond t (record (bound_at memory s) { words = slice_set (take s.1.words (drop s.1.base memory)) place word }) (bound_at memory s) ∷ map (rebound name place word) rest) t
        ∙ ap (λ x. words_in s x ∷ map (rebound name place word) rest) (own_words s.1.base s.1.words place memory word ∙ ap (λ j. take s.1.words (drop s.1.base (slice_set memory j word))) here)
        ∙ ap (λ x. bound_at (slice_set memory k word) s ∷ x)
        (rebound_after name place k (from + s.1.words) size word memory slots constants l.5 ends (subst (λ n. AllByRecursion (λ (s : Place). s.0 ≢ n) slots) same l.4.0) (subst (λ n. AllByRecursion (λ (c : List ℕ × ℤ). c.0 ≢ n) constants) same l.4.1))
    by go false t e =
        let a = lies (from + s.1.words) size name slots constants slot l.5 e in
        let k = slot.base + place in
        let ends : s.1.base + s.1.words ≤ k = omega (arith, l.0, a.above) in
        ap (λ x. x ∷ map (rebound name place word) rest)
        (unbound name place word (bound_at memory s) t ∙ ap (words_in s) (sym (after_words s.1.base s.1.words k memory word ends)))
        ∙ ap (λ x. bound_at (slice_set memory k word) s ∷ x) (go e)

with_bindings : ℕ → List Binding → Valuation
with_bindings turns bindings = record { bindings = bindings; turns = turns }

-- a word that is written
pub set_found : (names : Names) (size : ℕ) (memory : List ℤ) (turns : ℕ) (name : List ℕ) (slot : Slot) (place : ℕ) (word : ℤ) → IsLaid names size → found names name ≡ Some slot → place < slot.words → with_word (valuation_of names memory turns) name place word ≡ valuation_of names (slice_set memory (slot.base + place) word) turns
unfolding with_bindings
set_found names size memory turns name slot place word l f h =
    ap (with_bindings turns) (rebound_slot name place 0 size word memory names.slots names.constants slot l f h)
